-- How what parts of a code do makes what the whole does.
use Rattle.std.proofs.Common.{◌≡◌, ◌<◌, ◌+◌, ℕ, zero, suc, List, [], ◌∷◌, ◌++◌, length, refl, ap, sym, subst, ◌∙◌, arith, Some, false, append_assoc, length-append}
use Rattle.std.specs.Prelude.{slice_get}
use Rattle.std.proofs.lemmas.List.{append-nil}
use Rattle.tpw_occam_symbolic.specs.declared.code.Step.{Step}
use Rattle.tpw_occam_symbolic.specs.declared.code.CodeLine.{CodeLine}
use Rattle.tpw_occam_symbolic.specs.Code.{Lines, place_behind, followed_by, line_of}
use Rattle.tpw_occam_symbolic.specs.Symbolic.{Machine, Leads, nowhere, onward, step, performed, at_place}
use Rattle.tpw_occam_symbolic.specs.Leading.{Serves, HasLines, HasStep, Does, Makes}

-- ---- ways

pub leads_then : {m next end : Machine} → Leads m next → Leads next end → Leads m end
leads_then (nowhere m) two = two
leads_then (onward m next end is one) two = onward m next _ is (leads_then one two)

-- ---- lines

-- the first lines of lines
get_front : {A : Type 0} (xs ys : List A) (i : ℕ) → i < length xs → slice_get (xs ++ ys) i ≡ slice_get xs i
get_front [] ys i h = absurd (omega (arith, h))
get_front (x ∷ xs) ys zero h = refl
get_front (x ∷ xs) ys (suc i) h = get_front xs ys i (omega (arith, h))

pub get_last : {A : Type 0} (xs : List A) (x : A) → slice_get (xs ++ x ∷ []) (length xs) ≡ Some x
get_last [] x = refl
get_last (y ∷ xs) x = get_last xs x

-- what stands before lines by which code was lengthened
pub has_first : (old new : Lines) (more : List CodeLine) (m : Machine) → new.base ≡ old.base → new.lines ≡ old.lines ++ more
    → HasLines new m → HasLines old m
has_first old new more m base lines has i h =
    let first = get_front old.lines more i h in
    let long : i < length new.lines = omega (arith, ap length lines, length-append old.lines more) in
    ap (λ b. slice_get m.code (b + i)) (sym base) ∙ has i long ∙ ap (λ ls. slice_get ls i) lines ∙ first

-- ---- does

-- code that is not lengthened
pub does_nothing : (w : List ℕ) (code : Lines) → Does w code code (λ m. Unit {0}) (λ m end. end ≡ m)
does_nothing w code = record {
  base = refl;
  more = [];
  lines = sym (append-nil code.lines);
  arrives = λ m before _. record {
    end = m;
    way = nowhere m;
    place = before.place;
    running = before.running;
    same_code = refl;
    same_sizes = refl;
    after = refl;
  };
}

pub step_is : (m : Machine) (line : CodeLine) → m.stopped ≡ false → slice_get m.code m.place ≡ Some line
    → step m ≡ performed line.step (at_place (m.place + 1) m)
unfolding step
step_is m line running at = rw running (rw at refl)

-- one line more, whose step makes of a machine what f says; it stands in the code, and its item is large enough
pub does_placed : (w : List ℕ) (old new : Lines) (source : ℕ) (made : Step) (Before : Machine → Type 0)
    (f : Machine → Machine)
    → new ≡ followed_by old (line_of source made ∷ [])
    → ((m : Machine) → Before m → Serves w m.sizes made → performed made (at_place (m.place + 1) m) ≡ Some (at_place (m.place + 1) (f m)))
    → ((m : Machine) → (f m).code ≡ m.code) → ((m : Machine) → (f m).sizes ≡ m.sizes) → ((m : Machine) → (f m).stopped ≡ m.stopped)
    → Does w old new Before (λ m end. (end ≡ at_place (place_behind new) (f m)) × Serves w m.sizes made × HasStep m made)
does_placed w old new source made Before f is performs code_stays sizes_stay stopped_stays = record {
  base = ap (λ l. l.base) is;
  more = line_of source made ∷ [];
  lines = ap (λ l. l.lines) is;
  arrives = λ m before said.
      let line = line_of source made in
      let last : length old.lines < length new.lines = omega (arith, ap (λ l. length l.lines) is, length-append old.lines (line ∷ [])) in
      let at : slice_get m.code m.place ≡ Some line =
      ap (slice_get m.code) (before.place ∙ ap (λ l. l.base + length old.lines) (sym is)) ∙ before.lines (length old.lines) last
      ∙ ap (λ l. slice_get l.lines (length old.lines)) is ∙ get_last old.lines line in
      let next : m.place + 1 ≡ place_behind new =
      omega (arith, before.place, ap (λ l. l.base) is, ap (λ l. length l.lines) is, length-append old.lines (line ∷ [])) in
      record {
        end = at_place (m.place + 1) (f m);
        way = onward m (at_place (m.place + 1) (f m)) (at_place (m.place + 1) (f m))
            (step_is m line before.running at ∙ performs m said (before.served m.place line at)) (nowhere _);
        place = next;
        running = stopped_stays m ∙ before.running;
        same_code = code_stays m;
        same_sizes = sizes_stay m;
        after = (
          ap (λ p. at_place p (f m)) next,
          before.served m.place line at,
          record { place = m.place; line = line; there = at; is = refl },
        );
      };
}

-- said less, of machines of the same code and sizes
pub does_within : (w : List ℕ) (old new : Lines)
    (Before : Machine → Type 0) (After : Machine → Machine → Type 0)
    (Before2 : Machine → Type 0) (After2 : Machine → Machine → Type 0)
    → Does w old new Before After → ((m : Machine) → Before2 m → Before m)
    → ((m end : Machine) → end.code ≡ m.code → end.sizes ≡ m.sizes → Before2 m → After m end → After2 m end)
    → Does w old new Before2 After2
does_within w old new Before After Before2 After2 one before after = record {
  base = one.base;
  more = one.more;
  lines = one.lines;
  arrives = λ m at said.
      let a = one.arrives m at (before m said) in
      record {
        end = a.end;
        way = a.way;
        place = a.place;
        running = a.running;
        same_code = a.same_code;
        same_sizes = a.same_sizes;
        after = after m a.end a.same_code a.same_sizes said a.after;
      };
}

-- .. and what no step changes is said of both
pub does_kept : (w : List ℕ) (old new : Lines) (Before : Machine → Type 0) (After : Machine → Machine → Type 0)
    → Does w old new Before After → Does w old new Before (λ m end. After m end × (end.code ≡ m.code) × (end.sizes ≡ m.sizes))
does_kept w old new Before After one =
    does_within w old new Before After Before _ one (λ m said. said) (λ m end code sizes said after. (after, code, sizes))

-- said less
pub does_less : (w : List ℕ) (old new : Lines)
    (Before : Machine → Type 0) (After : Machine → Machine → Type 0)
    (Before2 : Machine → Type 0) (After2 : Machine → Machine → Type 0)
    → Does w old new Before After → ((m : Machine) → Before2 m → Before m)
    → ((m end : Machine) → Before2 m → After m end → After2 m end)
    → Does w old new Before2 After2
does_less w old new Before After Before2 After2 one before after =
    does_within w old new Before After Before2 After2 one before (λ m end code sizes. after m end)

-- .. its item is large enough
pub does_served : (w : List ℕ) (old new : Lines) (source : ℕ) (made : Step) (Before : Machine → Type 0)
    (f : Machine → Machine)
    → new ≡ followed_by old (line_of source made ∷ [])
    → ((m : Machine) → Before m → Serves w m.sizes made → performed made (at_place (m.place + 1) m) ≡ Some (at_place (m.place + 1) (f m)))
    → ((m : Machine) → (f m).code ≡ m.code) → ((m : Machine) → (f m).sizes ≡ m.sizes) → ((m : Machine) → (f m).stopped ≡ m.stopped)
    → Does w old new Before (λ m end. (end ≡ at_place (place_behind new) (f m)) × Serves w m.sizes made)
does_served w old new source made Before f is performs code_stays sizes_stay stopped_stays =
    does_less w old new Before _ Before _
    (does_placed w old new source made Before f is performs code_stays sizes_stay stopped_stays)
    (λ m said. said) (λ m end said after. (after.0, after.1))

pub does_step : (w : List ℕ) (old new : Lines) (source : ℕ) (made : Step) (Before : Machine → Type 0)
    (f : Machine → Machine)
    → new ≡ followed_by old (line_of source made ∷ [])
    → ((m : Machine) → Before m → Serves w m.sizes made → performed made (at_place (m.place + 1) m) ≡ Some (at_place (m.place + 1) (f m)))
    → ((m : Machine) → (f m).code ≡ m.code) → ((m : Machine) → (f m).sizes ≡ m.sizes) → ((m : Machine) → (f m).stopped ≡ m.stopped)
    → Does w old new Before (λ m end. end ≡ at_place (place_behind new) (f m))
does_step w old new source made Before f is performs code_stays sizes_stay stopped_stays =
    does_less w old new Before _ Before _
    (does_served w old new source made Before f is performs code_stays sizes_stay stopped_stays)
    (λ m said. said) (λ m end said after. after.0)

-- Code that is lengthened twice. What the second says before is so after the first, and both together give what is said
-- of the whole.
pub does_both : (w : List ℕ) (old between new : Lines)
    (Before : Machine → Type 0) (After : Machine → Machine → Type 0)
    (Before2 : Machine → Type 0) (After2 : Machine → Machine → Type 0) (AfterBoth : Machine → Machine → Type 0)
    → Does w old between Before After → Does w between new Before2 After2
    → ((m middle : Machine) → Before m → After m middle → Before2 middle)
    → ((m middle end : Machine) → Before m → After m middle → After2 middle end → AfterBoth m end)
    → Does w old new Before AfterBoth
does_both w old between new Before After Before2 After2 AfterBoth one two before_two both = record {
  base = two.base ∙ one.base;
  more = one.more ++ two.more;
  lines = two.lines ∙ ap (λ ls. ls ++ two.more) one.lines ∙ append_assoc old.lines one.more two.more;
  arrives = λ m before said.
      let a = one.arrives m (record {
        place = before.place;
        lines = has_first between new two.more m two.base two.lines before.lines;
        served = before.served;
        running = before.running;
      }) said in
      let b = two.arrives a.end (record {
        place = a.place;
        lines = λ i h. ap (λ c. slice_get c (new.base + i)) a.same_code ∙ before.lines i h;
        served = λ i line h.
            rw a.same_sizes (before.served i line (ap (λ c. slice_get c i) (sym a.same_code) ∙ h));
        running = a.running;
      }) (before_two m a.end said a.after) in
      record {
        end = b.end;
        way = leads_then a.way b.way;
        place = b.place;
        running = b.running;
        same_code = b.same_code ∙ a.same_code;
        same_sizes = b.same_sizes ∙ a.same_sizes;
        after = both m a.end b.end said a.after b.after;
      };
}

-- two that make of each machine what functions say
pub makes_both : (old between new : Lines) (Before Before2 : Machine → Type 0) (f g h : Machine → Machine)
    → Makes old between Before f → Makes between new Before2 g
    → ((m : Machine) → Before m → Before2 (at_place (place_behind between) (f m)))
    → ((m : Machine) → Before m → at_place (place_behind new) (g (at_place (place_behind between) (f m))) ≡ at_place (place_behind new) (h m))
    → Makes old new Before h
makes_both old between new Before Before2 f g h one two before same w =
    does_both w old between new Before _ Before2 _ _ (one w) (two w)
    (λ m middle said is. subst Before2 (sym is) (before m said))
    (λ m middle end said is is2. is2 ∙ ap (λ x. at_place (place_behind new) (g x)) is ∙ same m said)
