-- The loops of code are a nest in the image that its program is assembled to, and control keeps to it.
use Rattle.std.proofs.Common.{◌≡◌, ◌≢◌, ◌⊎◌, inl, inr, ℕ, suc, ◌+◌, ◌-◌, ◌<◌, ◌≤◌, ◌^◌, Bool, true, false, cond, nat_eq, pos, List, [], ◌∷◌, length, map}
use Rattle.std.proofs.Common.{slice_get, get_or, Some, None, Option, Contains, All, AllPairs, refl, ap, sym, subst, ◌∙◌, arith}
use Rattle.std.specs.Prelude.{if◌then◌else◌, position, count_by, is_some}
use Rattle.std.specs.List.{AllByRecursion, list_any, position_or_len}
use Rattle.std.specs.Option.{option_map}
use Rattle.std.proofs.lemmas.Bool.{cases_lt, le-leb, lt-ltb}
use Rattle.std.proofs.lemmas.Bool.Decides.{nat_tests, Decides-eqb}
use Rattle.std.proofs.lemmas.List.Sums.{sum_by-cons, fails_before_first}
use Rattle.std.proofs.lemmas.List.Quantifiers.{position-Some}
use Rattle.std.proofs.lemmas.Option.{same_Some, slice_get_within, slice_get-get_or, get_or_from_slice_get, slice_get-map}
use Rattle.tp_decode.specs.declared.instr.Instr.{Instr}
use Rattle.tp_decode.specs.declared.instr.Instr.TheVariants.{Jump, Cj, Lend, Stopp}
use Rattle.tp_decode.specs.Cutting.{Cut, cut_at}
use Rattle.tp_image.specs.declared.image.LoopRow.{LoopRow}
use Rattle.tp_flow.specs.declared.edge.Edge.{Edge}
use Rattle.tp_flow.specs.declared.edge.Edge.TheVariants.{Next, Taken, Back, Out}
use Rattle.tp_flow.specs.declared.range.LoopRange.{LoopRange}
use Rattle.tp_flow.specs.Edges.{is_edge, has_edge, target, goes_to, address, jump_target}
use Rattle.tp_flow.specs.NestRanges.{ranges, range_of, contains, overlaps, lies_within}
use Rattle.tp_flow.specs.RowRules.{is_start, is_lend_at, is_lend_cut}
use Rattle.tp_flow.specs.LoopsAround.{IsOutside, is_around}
use Rattle.tp_flow.specs.NestKept.{IsGood, IsLoop, IsNested, IsShallow, IsEdge, HasTargets, GoesToStarts, GoesForward, EntersAtHeads, LeavesAtLends, KeepsNest}
use Rattle.tp_flow.proofs.FlowDepth.{count_implied}
use Rattle.tp_flow.proofs.FlowNest.{true_false}
use Rattle.tpw_occam_symbolic.specs.declared.code.Step.{Step}
use Rattle.tpw_occam_symbolic.specs.declared.code.Step.TheVariants.{Plain, Load, Store, Pointer, JumpTo, CjTo, Distance}
use Rattle.tpw_occam_symbolic.specs.declared.code.CodeLine.{CodeLine}
use Rattle.tpw_occam_symbolic.specs.declared.code.Turns.{Turns}
use Rattle.tpw_occam_symbolic.specs.MatchStates.{Site, address_of, instr_of}
use Rattle.tpw_occam_symbolic.specs.Flowing.{is_straight, is_straight_instr, KeepsTo, IsBeforeOrWithin, is_around as lies_around}
use Rattle.tpw_occam_symbolic.proofs.Accepting.{cut_of, cuts_from, IsLaidOut}
use Rattle.tpw_occam_symbolic.proofs.CutPlaces.{below, at_most, is_at_most, is_one, found, only, get_some}

-- ---- whole code

-- what control does at a place
pub data Way (lines : List CodeLine) (loops : List Turns) (place : ℕ) : Step → Type 0 where
  stops : Way lines loops place (Plain Stopp)
  goes_on : (step : Step) → is_straight step ≡ true → place + 1 < length lines → Way lines loops place step
  jumps : (to : ℕ) → place < to → to < length lines → ((i : ℕ) (turns : Turns) → slice_get loops i ≡ Some turns → KeepsTo turns place to)
      → Way lines loops place (JumpTo to)
  branches : (to : ℕ) → place < to → to < length lines → ((i : ℕ) (turns : Turns) → slice_get loops i ≡ Some turns → KeepsTo turns place to)
      → Way lines loops place (CjTo to)
  turns_back : (i : ℕ) (turns : Turns) → slice_get loops i ≡ Some turns → turns.lend ≡ place → place + 1 < length lines
      → Way lines loops place (Plain Lend)

-- a loop lies behind the first line and before the last
pub record IsInside (lines : List CodeLine) (turns : Turns) : Type 0 where
  pub later : 0 < turns.head
  pub body : turns.head < turns.lend
  pub within : turns.lend < length lines
  pub lend : (line : CodeLine) → slice_get lines turns.lend ≡ Some line → line.step ≡ Plain Lend

pub record IsWhole (lines : List CodeLine) (loops : List Turns) : Type 0 where
  pub ways : (place : ℕ) (line : CodeLine) → slice_get lines place ≡ Some line → Way lines loops place line.step
  pub inside : (i : ℕ) (turns : Turns) → slice_get loops i ≡ Some turns → IsInside lines turns
  pub nested : (i k : ℕ) (one other : Turns) → i < k → slice_get loops i ≡ Some one → slice_get loops k ≡ Some other → IsBeforeOrWithin one other

-- ---- lists

-- the first that passes, where one does
position_some : {X : Type 0} (p : X → Bool) (xs : List X) (k : ℕ) (x : X) → slice_get xs k ≡ Some x → p x ≡ true
    → (j : ℕ) × (y : X) × (position p xs ≡ Some j) × (slice_get xs j ≡ Some y) × (p y ≡ true)
position_some {X} p xs k x is passes = by_side (cases_lt (position_or_len p xs) (length xs))
  where
    by_side : (position_or_len p xs < length xs) ⊎ (length xs ≤ position_or_len p xs)
        → (j : ℕ) × (y : X) × (position p xs ≡ Some j) × (slice_get xs j ≡ Some y) × (p y ≡ true)
    by_side (inl less) =
        let at : position p xs ≡ Some (position_or_len p xs) = rw (lt-ltb (position_or_len p xs) (length xs) less) refl in
        (position_or_len p xs, get_or xs (position_or_len p xs) x, at, slice_get-get_or xs (position_or_len p xs) x less, (position-Some p xs (position_or_len p xs) x at).1)
    by_side (inr none) =
        let fails = fails_before_first p xs k x (omega (arith, none, slice_get_within xs k x is)) in
        absurd (true_false (sym passes ∙ ap p (sym (get_or_from_slice_get xs k x x is)) ∙ fails))

-- each element passes
all_from : {X : Type 0} (P : X → Type 0) (xs : List X) → ((k : ℕ) (x : X) → slice_get xs k ≡ Some x → P x) → AllByRecursion P xs
all_from P [] each = tt
all_from P (x ∷ xs) each = (each 0 x refl, all_from P xs (λ k y is. each (suc k) y is))

count_map : {X Y : Type 0} (f : X → Y) (p : Y → Bool) (xs : List X) → count_by p (map f xs) ≡ count_by (λ x. p (f x)) xs
count_map f p [] = refl
count_map f p (x ∷ xs) =
    sum_by-cons (λ y. cond {A = ℕ} (p y) 1 0) (f x) (map f xs) ∙ ap (λ n. cond {A = ℕ} (p (f x)) 1 0 + n) (count_map f p xs)
    ∙ sym (sum_by-cons (λ y. cond {A = ℕ} (p (f y)) 1 0) x xs)

-- ---- edges of instructions

straight_instr : (site : Site) (place : ℕ) (step : Step) → is_straight step ≡ true → is_straight_instr (instr_of site place step) ≡ true
straight_instr site place (JumpTo to) straight = cc
straight_instr site place (CjTo to) straight = cc
straight_instr site place (Load item word) straight = refl
straight_instr site place (Store item word) straight = refl
straight_instr site place (Pointer item word) straight = refl
straight_instr site place (Distance from to) straight = refl
straight_instr site place (Plain instr) straight = straight

none_but_next : (edge : Edge) → list_any {X = Edge} (is_edge edge) (Next ∷ []) ≡ true → edge ≡ Next
none_but_next Next has = refl
none_but_next Taken has = cc
none_but_next Back has = cc
none_but_next Out has = cc

straight_next : (instr : Instr) (edge : Edge) → is_straight_instr instr ≡ true → has_edge instr edge ≡ true → edge ≡ Next
straight_next (Jump n) edge straight has = cc
straight_next (Cj n) edge straight has = cc
straight_next Lend edge straight has = cc
straight_next Stopp edge straight has = cc
straight_next instr edge straight has = none_but_next edge has

has_target : (nest : List LoopRange) (at next : ℕ) (instr : Instr) (edge : Edge) → has_edge instr edge ≡ true → target nest at next instr edge ≡ goes_to nest at next instr edge
has_target nest at next instr edge has = rw has refl

lands : (next to : ℕ) → next ≤ to → to < 2 ^ 16 → jump_target next (pos (to - next)) ≡ Some to
lands next to forward small =
    let same : next + (to - next) ≡ to = omega (arith, forward) in
    ap (λ n. address (pos n)) same ∙ rw (lt-ltb to (2 ^ 64) (omega (arith, small))) refl

-- ---- places and loops

-- a place in a loop
abbrev IsIn : Turns → ℕ → Type 0
IsIn turns place = (turns.head ≤ place) × (place ≤ turns.lend)

-- where an edge goes, and how it keeps to loops
record Goes (loops : List Turns) (count from : ℕ) (edge : Edge) (to : ℕ) : Type 0 where
  within : to < count
  forward : edge ≢ Back → from < to
  enters : (i : ℕ) (turns : Turns) → slice_get loops i ≡ Some turns → (IsIn turns from → ⊥) → IsIn turns to → to ≡ turns.head
  leaves : (i : ℕ) (turns : Turns) → slice_get loops i ≡ Some turns → IsIn turns from → (IsIn turns to → ⊥) → from ≡ turns.lend

next_goes : (loops : List Turns) (count from : ℕ) (edge : Edge) → from + 1 < count → Goes loops count from edge (from + 1)
next_goes loops count from edge within = record {
  within = within;
  forward = λ _. omega arith;
  enters = λ i turns is out in_to. by_enter turns out in_to (cases_lt from turns.head);
  leaves = λ i turns is in_from out. by_leave turns in_from out (cases_lt from turns.lend);
}
  where
    by_enter : (turns : Turns) → (IsIn turns from → ⊥) → IsIn turns (from + 1) → (from < turns.head) ⊎ (turns.head ≤ from) → from + 1 ≡ turns.head
    by_enter turns out in_to (inl before) = omega (arith, before, in_to.0)
    by_enter turns out in_to (inr behind) = absurd (out (behind, omega (arith, in_to.1)))

    by_leave : (turns : Turns) → IsIn turns from → (IsIn turns (from + 1) → ⊥) → (from < turns.lend) ⊎ (turns.lend ≤ from) → from ≡ turns.lend
    by_leave turns in_from out (inl before) = absurd (out (omega (arith, in_from.0), omega (arith, before)))
    by_leave turns in_from out (inr behind) = omega (arith, behind, in_from.1)

jump_goes : (loops : List Turns) (count from to : ℕ) (edge : Edge) → from < to → to < count
    → ((i : ℕ) (turns : Turns) → slice_get loops i ≡ Some turns → KeepsTo turns from to) → Goes loops count from edge to
jump_goes loops count from to edge forward within keeps = record {
  within = within;
  forward = λ _. forward;
  enters = λ i turns is out in_to. by_enter turns (keeps i turns is) out in_to (cases_lt from turns.head);
  leaves = λ i turns is in_from out. absurd (out (omega (arith, forward, in_from.0), (keeps i turns is).stays in_from.0 in_from.1));
}
  where
    by_entered : (turns : Turns) → IsIn turns to → (to ≤ turns.head) ⊎ (turns.lend < to) → to ≡ turns.head
    by_entered turns in_to (inl most) = omega (arith, most, in_to.0)
    by_entered turns in_to (inr past) = absurd (omega (arith, past, in_to.1))

    by_enter : (turns : Turns) → KeepsTo turns from to → (IsIn turns from → ⊥) → IsIn turns to → (from < turns.head) ⊎ (turns.head ≤ from) → to ≡ turns.head
    by_enter turns keeps out in_to (inl before) = by_entered turns in_to (keeps.enters before)
    by_enter turns keeps out in_to (inr behind) = absurd (out (behind, omega (arith, in_to.1, forward)))

-- two loops of a nest: one, apart, or one within the other
data Pair (one other : Turns) : Type 0 where
  are_one : one ≡ other → Pair one other
  first : IsBeforeOrWithin one other → Pair one other
  second : IsBeforeOrWithin other one → Pair one other

pair_of : (loops : List Turns) → ((i k : ℕ) (one other : Turns) → i < k → slice_get loops i ≡ Some one → slice_get loops k ≡ Some other → IsBeforeOrWithin one other)
    → (i k : ℕ) (one other : Turns) → slice_get loops i ≡ Some one → slice_get loops k ≡ Some other → Pair one other
pair_of loops nested i k one other is is2 = by_side (cases_lt i k)
  where
    by_other : (i ≤ k) ⊎ (k < i) → k ≤ i → Pair one other
    by_other (inl most) least = are_one (same_Some _ _ (sym is ∙ ap (slice_get loops) (omega (arith, most, least)) ∙ is2))
    by_other (inr less) least = second (nested k i other one less is2 is)

    turn_about : (k < i) ⊎ (i ≤ k) → (i ≤ k) ⊎ (k < i)
    turn_about (inl x) = inr x
    turn_about (inr x) = inl x

    by_side : (i < k) ⊎ (k ≤ i) → Pair one other
    by_side (inl less) = first (nested i k one other less is is2)
    by_side (inr most) = by_other (turn_about (cases_lt k i)) most

-- from a lend to the head of its loop
back_goes : (loops : List Turns) (count : ℕ) (i : ℕ) (own : Turns) → own.head < own.lend → own.lend < count → slice_get loops i ≡ Some own
    → ((i k : ℕ) (one other : Turns) → i < k → slice_get loops i ≡ Some one → slice_get loops k ≡ Some other → IsBeforeOrWithin one other)
    → Goes loops count own.lend Back own.head
back_goes loops count i own body within is nested = record {
  within = omega (arith, body, within);
  forward = λ other. absurd (other refl);
  enters = λ k turns is2 out in_to. by_enter turns out in_to (pair_of loops nested i k own turns is is2);
  leaves = λ k turns is2 in_from out. by_leave turns in_from out (pair_of loops nested i k own turns is is2);
}
  where
    by_enter : (turns : Turns) → (IsIn turns own.lend → ⊥) → IsIn turns own.head → Pair own turns → own.head ≡ turns.head
    by_enter turns out in_to (are_one e) = ap (λ (t : Turns). t.head) e
    by_enter turns out in_to (first (inl before)) = absurd (omega (arith, before, in_to.0, body))
    by_enter turns out in_to (first (inr inner)) = absurd (out (omega (arith, in_to.0, body), omega (arith, inner.1)))
    by_enter turns out in_to (second (inl before)) = absurd (omega (arith, before, in_to.1))
    by_enter turns out in_to (second (inr inner)) = absurd (omega (arith, inner.0, in_to.0))

    by_leave : (turns : Turns) → IsIn turns own.lend → (IsIn turns own.head → ⊥) → Pair own turns → own.lend ≡ turns.lend
    by_leave turns in_from out (are_one e) = ap (λ (t : Turns). t.lend) e
    by_leave turns in_from out (first (inl before)) = absurd (omega (arith, before, in_from.0))
    by_leave turns in_from out (first (inr inner)) = absurd (out (omega (arith, inner.0), omega (arith, body, in_from.1)))
    by_leave turns in_from out (second (inl before)) = absurd (omega (arith, before, in_from.1, body))
    by_leave turns in_from out (second (inr inner)) = absurd (omega (arith, inner.1, in_from.1))

-- ---- ranges

around_range : (range : LoopRange) (at : ℕ) → contains range at ≡ true → (range.head ≤ at) × (at ≤ range.lend)
around_range range at is = grind (arith, nat_tests)

is_in_range : (range : LoopRange) (at : ℕ) → range.head ≤ at → at ≤ range.lend → contains range at ≡ true
is_in_range range at head lend = grind (arith, nat_tests)

is_not_in : (range : LoopRange) → 0 < range.head → contains range 0 ≡ false
is_not_in range later = grind (arith, nat_tests)

meeting : (range other : LoopRange) → overlaps range other ≡ true → (range.head ≤ other.lend) × (other.head ≤ range.lend)
meeting range other is = grind (arith, nat_tests)

apart_ranges : (range other : LoopRange) → range.lend < other.head → overlaps range other ≡ true → ⊥
apart_ranges range other less is = omega (arith, less, (meeting range other is).1)

apart_after : (range other : LoopRange) → other.lend < range.head → overlaps range other ≡ true → ⊥
apart_after range other less is = omega (arith, less, (meeting range other is).0)

inner_range : (range other : LoopRange) → other.head ≤ range.head → range.lend ≤ other.lend → lies_within range other ≡ true
inner_range range other head lend = grind (arith, nat_tests)

-- ---- in an image

abbrev pub range_at : Site → Turns → LoopRange
range_at site turns = record { head = address_of site turns.head; lend = address_of site turns.lend }

module _ (site : Site) (laid : IsLaidOut site) (loops : List Turns) (whole : IsWhole site.code loops) (small : (place : ℕ) → address_of site place < 2 ^ 16) where
  abbrev a : ℕ → ℕ
  a place = address_of site place

  abbrev cuts : List Cut
  cuts = cuts_from site 0 site.code

  abbrev nest : List LoopRange
  nest = map (range_at site) loops

  abbrev count : ℕ
  count = length site.code

  -- ---- loops and places

  -- a range is that of a loop
  loop_of : (k : ℕ) (range : LoopRange) → slice_get nest k ≡ Some range → (turns : Turns) × (slice_get loops k ≡ Some turns) × (range_at site turns ≡ range)
  loop_of k range is = by_loop (slice_get loops k) refl (sym (slice_get-map (range_at site) loops k) ∙ is)
    where
      by_loop : (o : Option Turns) → slice_get loops k ≡ o → option_map (range_at site) o ≡ Some range → (turns : Turns) × (slice_get loops k ≡ Some turns) × (range_at site turns ≡ range)
      by_loop None there e = cc
      by_loop (Some turns) there e = (turns, there, same_Some _ _ e)

  contained : (range : LoopRange) → Contains nest range → (k : ℕ) × (turns : Turns) × (slice_get loops k ≡ Some turns) × (range_at site turns ≡ range)
  contained range has =
      let at = slice_get-get_or nest has.0 range has.1 ∙ ap (λ r. Some r) has.2 in
      let l = loop_of has.0 range at in (has.0, l.0, l.1, l.2)

  around : (turns : Turns) (at : ℕ) → contains (range_at site turns) at ≡ true → (a turns.head ≤ at) × (at ≤ a turns.lend)
  around turns at is = around_range (range_at site turns) at is

  is_around_at : (turns : Turns) (at : ℕ) → a turns.head ≤ at → at ≤ a turns.lend → contains (range_at site turns) at ≡ true
  is_around_at turns at head lend = is_in_range (range_at site turns) at head lend

  in_loop : (turns : Turns) (place : ℕ) → IsInside site.code turns → place ≤ count → contains (range_at site turns) (a place) ≡ true → IsIn turns place
  in_loop turns place inside within is =
      let at = around turns (a place) is in
      (is_at_most site laid turns.head place (omega (arith, inside.body, inside.within)) at.0, is_at_most site laid place turns.lend within at.1)

  loop_in : (turns : Turns) (place : ℕ) → IsInside site.code turns → place ≤ count → IsIn turns place → contains (range_at site turns) (a place) ≡ true
  loop_in turns place inside within is =
      is_around_at turns (a place) (at_most site laid turns.head place is.0 within) (at_most site laid place turns.lend is.1 (omega (arith, inside.within)))

  -- ---- edges

  record Target (place : ℕ) (instr : Instr) (edge : Edge) : Type 0 where
    to : ℕ
    is : target nest (a place) (a (place + 1)) instr edge ≡ Some (a to)
    goes : Goes loops count place edge to

  straight_target : (place : ℕ) (instr : Instr) (edge : Edge) → is_straight_instr instr ≡ true → place + 1 < count → has_edge instr edge ≡ true → Target place instr edge
  straight_target place instr edge straight within has =
      let next = straight_next instr edge straight has in
      record {
        to = place + 1;
        is = has_target nest (a place) (a (place + 1)) instr edge has ∙ ap (goes_to nest (a place) (a (place + 1)) instr) next;
        goes = next_goes loops count place edge within;
      }

  lend_target : (place i : ℕ) (own : Turns) (edge : Edge) → slice_get loops i ≡ Some own → own.lend ≡ place → place + 1 < count → has_edge Lend edge ≡ true → Target place Lend edge
  lend_target place i own Next is at within has = cc
  lend_target place i own Taken is at within has = cc
  lend_target place i own Out is at within has = record { to = place + 1; is = refl; goes = next_goes loops count place Out within }
  lend_target place i own Back is at within has =
      let ends_there : (range_at site own).lend ≡ a place = ap a at in
      let p = position_some (λ (r : LoopRange). nat_eq r.lend (a place)) nest i (range_at site own) (slice_get-map (range_at site) loops i ∙ ap (option_map (range_at site)) is)
      ((Decides-eqb (range_at site own).lend (a place)).1 ends_there) in
      let l = loop_of p.0 p.1 p.3 in
      let ends = ap (λ (r : LoopRange). r.lend) l.2 ∙ (Decides-eqb p.1.lend (a place)).0 p.4 in
      let inside = whole.inside p.0 l.0 l.1 in
      let same : l.0.lend ≡ place = is_one site laid l.0.lend place (omega (arith, inside.within)) (omega (arith, within)) ends in
      let begins : a l.0.head ≡ p.1.head = ap (λ (r : LoopRange). r.head) l.2 in
      record {
        to = l.0.head;
        is = rw (p.2, p.3) (ap (λ n. Some n) (sym begins));
        goes = subst (λ n. Goes loops count n Back l.0.head) same (back_goes loops count p.0 l.0 inside.body inside.within l.1 whole.nested);
      }

  jump_is : (place to : ℕ) → place < to → to < count → jump_target (a (place + 1)) (pos (a to - a (place + 1))) ≡ Some (a to)
  jump_is place to forward within = lands (a (place + 1)) (a to) (at_most site laid (place + 1) to (omega (arith, forward)) (omega (arith, within))) (small to)

  target_of : (place : ℕ) (step : Step) → Way site.code loops place step → (edge : Edge) → has_edge (instr_of site place step) edge ≡ true → Target place (instr_of site place step) edge
  target_of place _ stops edge has = cc
  target_of place _ (goes_on step straight within) edge has =
      straight_target place (instr_of site place step) edge (straight_instr site place step straight) within has
  target_of place _ (jumps to forward within keeps) Next has = cc
  target_of place _ (jumps to forward within keeps) Back has = cc
  target_of place _ (jumps to forward within keeps) Out has = cc
  target_of place _ (jumps to forward within keeps) Taken has = record {
    to = to;
    is = jump_is place to forward within;
    goes = jump_goes loops count place to Taken forward within keeps;
  }
  target_of place _ (branches to forward within keeps) Back has = cc
  target_of place _ (branches to forward within keeps) Out has = cc
  target_of place _ (branches to forward within keeps) Next has =
      record { to = place + 1; is = refl; goes = next_goes loops count place Next (omega (arith, forward, within)) }
  target_of place _ (branches to forward within keeps) Taken has = record {
    to = to;
    is = jump_is place to forward within;
    goes = jump_goes loops count place to Taken forward within keeps;
  }
  target_of place _ (turns_back i own is at within) edge has = lend_target place i own edge is at within has

  -- the edge of an instruction that is cut somewhere
  record EdgeAt (at : ℕ) (cut : Cut) (edge : Edge) : Type 0 where
    place : ℕ
    inside : place < count
    here : at ≡ a place
    to : ℕ
    is : target nest at (at + length cut.bytes) cut.instr edge ≡ Some (a to)
    goes : Goes loops count place edge to

  edge_at : (at : ℕ) (cut : Cut) (edge : Edge) → cut_at cuts at ≡ Some cut → has_edge cut.instr edge ≡ true → EdgeAt at cut edge
  edge_at at cut edge stands has =
      let l = only site laid at cut stands in
      let i : Instr = instr_of site l.place l.line.step in
      let same : cut.instr ≡ i = ap (λ (c : Cut). c.instr) l.is in
      let t = target_of l.place l.line.step (whole.ways l.place l.line l.there) edge (ap (λ j. has_edge j edge) (sym same) ∙ has) in
      let next : a (l.place + 1) ≡ at + length cut.bytes = laid.next l.place l.line l.there ∙ omega (arith, l.address, ap (λ (c : Cut). length c.bytes) l.is) in
      record {
        place = l.place;
        inside = slice_get_within site.code l.place l.line l.there;
        here = l.address;
        to = t.to;
        is = ap (λ j. target nest at (at + length cut.bytes) j edge) same
            ∙ ap (λ n. target nest at n i edge) (sym next) ∙ ap (λ n. target nest n (a (l.place + 1)) i edge) l.address ∙ t.is;
        goes = t.goes;
      }

  target_has : (at next : ℕ) (instr : Instr) (edge : Edge) (to : ℕ) → target nest at next instr edge ≡ Some to → has_edge instr edge ≡ true
  target_has at next instr edge to is = by_test (has_edge instr edge) refl is
    where
      by_test : (b : Bool) → has_edge instr edge ≡ b → (if b then goes_to nest at next instr edge else None) ≡ Some to → has_edge instr edge ≡ true
      by_test true e is = e
      by_test false e is = cc

  -- where an edge goes
  record EdgeTo (at : ℕ) (edge : Edge) (to : ℕ) : Type 0 where
    from : ℕ
    inside : from < count
    here : at ≡ a from
    place : ℕ
    there : to ≡ a place
    goes : Goes loops count from edge place

  edge_to : (at to : ℕ) (edge : Edge) → IsEdge nest cuts at edge to → EdgeTo at edge to
  edge_to at to edge e =
      let t = edge_at at e.cut edge e.stands (target_has at (at + length e.cut.bytes) e.cut.instr edge to e.goes) in
      record { from = t.place; inside = t.inside; here = t.here; place = t.to; there = same_Some _ _ (sym e.goes ∙ t.is); goes = t.goes }

  -- ---- what is kept

  start_at : (place : ℕ) → place < count → is_start cuts (a place) ≡ true
  start_at place within = let l = get_some site.code place within in ap is_some (found site laid place l.0 l.1)

  pub has_targets : HasTargets nest cuts
  has_targets at cut edge stands has = let t = edge_at at cut edge stands has in ap is_some t.is

  pub to_starts : GoesToStarts nest cuts
  to_starts at to edge e = let t = edge_to at to edge e in ap (is_start cuts) t.there ∙ start_at t.place t.goes.within

  pub goes_forward : GoesForward nest cuts
  goes_forward at to edge e other =
      let t = edge_to at to edge e in
      let l = only site laid at e.cut e.stands in
      let same : l.place ≡ t.from = is_one site laid l.place t.from (omega (arith, slice_get_within site.code l.place l.line l.there)) (omega (arith, t.inside)) (sym l.address ∙ t.here) in
      let next : a (l.place + 1) ≡ at + length e.cut.bytes = laid.next l.place l.line l.there ∙ omega (arith, l.address, ap (λ (c : Cut). length c.bytes) l.is) in
      omega (arith, next, t.there, at_most site laid (l.place + 1) t.place (omega (arith, same, t.goes.forward other)) (omega (arith, t.goes.within)))

  pub enters_at_heads : EntersAtHeads nest cuts
  enters_at_heads at to edge range e has out in_to =
      let t = edge_to at to edge e in
      let l = contained range has in
      let inside = whole.inside l.0 l.1 l.2 in
      let head = t.goes.enters l.0 l.1 l.2
      (λ is. out (ap (λ r. contains r at) (sym l.3) ∙ ap (contains (range_at site l.1)) t.here ∙ loop_in l.1 t.from inside (omega (arith, t.inside)) is))
      (in_loop l.1 t.place inside (omega (arith, t.goes.within)) (ap (contains (range_at site l.1)) (sym t.there) ∙ ap (λ r. contains r to) l.3 ∙ in_to)) in
      t.there ∙ ap a head ∙ ap (λ (r : LoopRange). r.head) l.3

  pub leaves_at_lends : LeavesAtLends nest cuts
  leaves_at_lends at to edge range e has in_from out =
      let t = edge_to at to edge e in
      let l = contained range has in
      let inside = whole.inside l.0 l.1 l.2 in
      let lend = t.goes.leaves l.0 l.1 l.2
      (in_loop l.1 t.from inside (omega (arith, t.inside)) (ap (contains (range_at site l.1)) (sym t.here) ∙ ap (λ r. contains r at) l.3 ∙ in_from))
      (λ is. out (ap (λ r. contains r to) (sym l.3) ∙ ap (contains (range_at site l.1)) t.there ∙ loop_in l.1 t.place inside (omega (arith, t.goes.within)) is)) in
      t.here ∙ ap a lend ∙ ap (λ (r : LoopRange). r.lend) l.3

  -- ---- the nest

  nested_at : (one other : Turns) → IsInside site.code one → IsInside site.code other → Pair one other → overlaps (range_at site one) (range_at site other) ≡ true
      → (lies_within (range_at site one) (range_at site other) ≡ true) ⊎ (lies_within (range_at site other) (range_at site one) ≡ true)
  nested_at one other in_one in_other (are_one e) over =
      inl (inner_range (range_at site one) (range_at site other) (omega (arith, ap (λ (t : Turns). a t.head) e)) (omega (arith, ap (λ (t : Turns). a t.lend) e)))
  nested_at one other in_one in_other (first (inl before)) over =
      absurd (apart_ranges (range_at site one) (range_at site other) (below site laid one.lend other.head before (omega (arith, in_other.body, in_other.within))) over)
  nested_at one other in_one in_other (first (inr inner)) over =
      inl (inner_range (range_at site one) (range_at site other) (at_most site laid other.head one.head (omega (arith, inner.0)) (omega (arith, in_one.body, in_one.within)))
      (at_most site laid one.lend other.lend (omega (arith, inner.1)) (omega (arith, in_other.within))))
  nested_at one other in_one in_other (second (inl before)) over =
      absurd (apart_after (range_at site one) (range_at site other) (below site laid other.lend one.head before (omega (arith, in_one.body, in_one.within))) over)
  nested_at one other in_one in_other (second (inr inner)) over =
      inr (inner_range (range_at site other) (range_at site one) (at_most site laid one.head other.head (omega (arith, inner.0)) (omega (arith, in_other.body, in_other.within)))
      (at_most site laid other.lend one.lend (omega (arith, inner.1)) (omega (arith, in_one.within))))

  pub is_nested : IsNested nest
  is_nested range other has has2 over =
      let l = contained range has in
      let m = contained other has2 in
      let P : LoopRange → LoopRange → Type 0 = λ r s. overlaps r s ≡ true → (lies_within r s ≡ true) ⊎ (lies_within s r ≡ true) in
      subst (λ r. P r other) l.3 (subst (λ s. P (range_at site l.1) s) m.3
      (nested_at l.1 m.1 (whole.inside l.0 l.1 l.2) (whole.inside m.0 m.1 m.2) (pair_of loops whole.nested l.0 m.0 l.1 m.1 l.2 m.2))) over

  pub begins_outside : IsOutside nest 0
  begins_outside l = by_loop (slice_get loops l) refl
    where
      by_loop : (o : Option Turns) → slice_get loops l ≡ o → is_around nest 0 l ≡ false
      by_loop None there = rw (slice_get-map (range_at site) loops l, there) refl
      by_loop (Some t) there =
          let inside = whole.inside l t there in
          let later : 0 < a t.head = omega (arith, laid.starts, below site laid 0 t.head inside.later (omega (arith, inside.body, inside.within))) in
          rw (slice_get-map (range_at site) loops l, there) (is_not_in (range_at site t) later)

  -- ---- depth

  -- of two loops that contain an address the earlier lies within the later
  within_later : (at : ℕ) (one other : Turns) → IsInside site.code one → IsInside site.code other → IsBeforeOrWithin one other
      → contains (range_at site one) at ≡ true → contains (range_at site other) at ≡ true → lies_around one other ≡ true
  within_later at one other in_one in_other (inl before) is is2 =
      absurd (omega (arith, (around one at is).1, (around other at is2).0, below site laid one.lend other.head before (omega (arith, in_other.body, in_other.within))))
  within_later at one other in_one in_other (inr inner) is is2 = rw (le-leb other.head one.head (omega (arith, inner.0))) (lt-ltb one.lend other.lend inner.1)

  shallow_from : (at : ℕ) (xs : List Turns) → ((p : Turns → Bool) → count_by p xs ≤ count_by p loops)
      → ((k : ℕ) (t : Turns) → slice_get xs k ≡ Some t → IsInside site.code t × (count_by (lies_around t) loops ≤ 3))
      → ((i k : ℕ) (s t : Turns) → i < k → slice_get xs i ≡ Some s → slice_get xs k ≡ Some t → IsBeforeOrWithin s t)
      → count_by (λ t. contains (range_at site t) at) xs ≤ 4
  shallow_from at [] fewer each pairs = omega arith
  shallow_from at (x ∷ xs) fewer each pairs =
      by_test (shallow_from at xs (λ q. omega (arith, behind q, fewer q)) (λ k t is. each (suc k) t is) (λ i k s t less is is2. pairs (suc i) (suc k) s t (omega (arith, less)) is is2))
      (contains (range_at site x) at) refl
    where
      p : Turns → Bool
      p t = contains (range_at site t) at

      behind : (q : Turns → Bool) → count_by q (x ∷ xs) ≡ cond {A = ℕ} (q x) 1 0 + count_by q xs
      behind q = sum_by-cons (λ t. cond {A = ℕ} (q t) 1 0) x xs

      by_test : count_by p xs ≤ 4 → (b : Bool) → contains (range_at site x) at ≡ b → count_by (λ t. contains (range_at site t) at) (x ∷ xs) ≤ 4
      by_test rest false e = omega (arith, behind p, rest, ap {B = ℕ} (λ b. cond b 1 0) e)
      by_test rest true e =
          let inner : count_by p xs ≤ count_by (lies_around x) xs =
          count_implied p (lies_around x) xs (all_from (λ t. p t ≡ true → lies_around x t ≡ true) xs
          (λ k t is in_t. within_later at x t (each 0 x refl).0 (each (suc k) t is).0 (pairs 0 (suc k) x t (omega arith) refl is) e in_t)) in
          omega (arith, behind p, behind (lies_around x), fewer (lies_around x), inner, (each 0 x refl).1, ap {B = ℕ} (λ b. cond b 1 0) e)

  pub is_shallow : ((i : ℕ) (turns : Turns) → slice_get loops i ≡ Some turns → count_by (lies_around turns) loops ≤ 3) → IsShallow nest
  is_shallow few at =
      let all = shallow_from at loops (λ p. omega arith) (λ k t is. (whole.inside k t is, few k t is)) whole.nested in
      omega (arith, all, count_map (range_at site) (λ r. contains r at) loops)

  -- ---- rows

  module _ (row : Turns → LoopRow) (range : (turns : Turns) → range_of (row turns) ≡ range_at site turns) where
    abbrev rows : List LoopRow
    rows = map row loops

    row_at : (k : ℕ) (r : LoopRow) → slice_get rows k ≡ Some r → (turns : Turns) × (slice_get loops k ≡ Some turns) × (row turns ≡ r)
    row_at k r is = by_loop (slice_get loops k) refl (sym (slice_get-map row loops k) ∙ is)
      where
        by_loop : (o : Option Turns) → slice_get loops k ≡ o → option_map row o ≡ Some r → (turns : Turns) × (slice_get loops k ≡ Some turns) × (row turns ≡ r)
        by_loop None there e = cc
        by_loop (Some turns) there e = (turns, there, same_Some _ _ e)

    all_rows : (P : LoopRow → Type 0) → ((i : ℕ) (turns : Turns) → slice_get loops i ≡ Some turns → P (row turns)) → All P rows
    all_rows P each k d less =
        let r = row_at k (get_or rows k d) (slice_get-get_or rows k d less) in subst P r.2 (each k r.0 r.1)

    all_pairs : (R : LoopRow → LoopRow → Type 0) → ((one other : Turns) → IsInside site.code one → IsInside site.code other → IsBeforeOrWithin one other → R (row one) (row other)) → AllPairs R rows
    all_pairs R each i k d less within =
        let r = row_at i (get_or rows i d) (slice_get-get_or rows i d (omega (arith, less, within))) in
        let s = row_at k (get_or rows k d) (slice_get-get_or rows k d within) in
        subst (λ x. R x (get_or rows k d)) r.2 (subst (R (row r.0)) s.2
        (each r.0 s.0 (whole.inside i r.0 r.1) (whole.inside k s.0 s.1) (whole.nested i k r.0 s.0 less r.1 s.1)))

    head_of_row : (turns : Turns) → (row turns).head ≡ a turns.head
    head_of_row turns = ap (λ (r : LoopRange). r.head) (range turns)

    lend_of_row : (turns : Turns) → (row turns).lend ≡ a turns.lend
    lend_of_row turns = ap (λ (r : LoopRange). r.lend) (range turns)

    is_loop : (i : ℕ) (turns : Turns) → slice_get loops i ≡ Some turns → IsLoop cuts (row turns)
    is_loop i turns is =
        let t = whole.inside i turns is in
        let l = get_some site.code turns.lend t.within in
        record {
          later = omega (arith, head_of_row turns, laid.starts, below site laid 0 turns.head t.later (omega (arith, t.body, t.within)));
          body = omega (arith, head_of_row turns, lend_of_row turns, below site laid turns.head turns.lend t.body (omega (arith, t.within)));
          head = ap (is_start cuts) (head_of_row turns) ∙ start_at turns.head (omega (arith, t.body, t.within));
          lend = ap (is_lend_at cuts) (lend_of_row turns) ∙ ap is_lend_cut (found site laid turns.lend l.0 l.1)
              ∙ ap (λ s. is_lend_cut (Some record { bytes = (cut_of site turns.lend l.0).bytes; instr = instr_of site turns.lend s })) (t.lend l.0 l.1);
        }

    heads_differ : (one other : Turns) → IsInside site.code one → IsInside site.code other → IsBeforeOrWithin one other → (row one).head ≢ (row other).head
    heads_differ one other in_one in_other (inl before) same =
        omega (arith, head_of_row one, head_of_row other, same, below site laid one.head other.head (omega (arith, in_one.body, before)) (omega (arith, in_other.body, in_other.within)))
    heads_differ one other in_one in_other (inr inner) same =
        omega (arith, head_of_row one, head_of_row other, same, below site laid other.head one.head inner.0 (omega (arith, in_one.body, in_one.within)))

    lends_differ : (one other : Turns) → IsInside site.code one → IsInside site.code other → IsBeforeOrWithin one other → (row one).lend ≢ (row other).lend
    lends_differ one other in_one in_other (inl before) same =
        omega (arith, lend_of_row one, lend_of_row other, same, below site laid one.lend other.lend (omega (arith, in_other.body, before)) (omega (arith, in_other.within)))
    lends_differ one other in_one in_other (inr inner) same =
        omega (arith, lend_of_row one, lend_of_row other, same, below site laid one.lend other.lend inner.1 (omega (arith, in_other.within)))

    ranges_are : (xs : List Turns) → ranges (map row xs) ≡ map (range_at site) xs
    ranges_are [] = refl
    ranges_are (x ∷ xs) = ap (λ r. r ∷ ranges (map row xs)) (range x) ∙ ap (λ rs. range_at site x ∷ rs) (ranges_are xs)

    pub keeps_nest : (workspace : ℕ) → ((i : ℕ) (turns : Turns) → slice_get loops i ≡ Some turns → IsGood workspace (row turns))
        → ((i : ℕ) (turns : Turns) → slice_get loops i ≡ Some turns → count_by (lies_around turns) loops ≤ 3)
        → AllByRecursion (λ cut. 0 < length cut.bytes) cuts → KeepsNest rows workspace cuts
    keeps_nest workspace good few spelled =
        let are = sym (ranges_are loops) in
        record {
          good = all_rows (IsGood workspace) good;
          loops = all_rows (IsLoop cuts) is_loop;
          heads = all_pairs (λ r s. r.head ≢ s.head) heads_differ;
          lends = all_pairs (λ r s. r.lend ≢ s.lend) lends_differ;
          nested = subst IsNested are is_nested;
          shallow = subst IsShallow are (is_shallow few);
          begins = subst (λ n. IsOutside n 0) are begins_outside;
          spelled = spelled;
          targets = subst (λ n. HasTargets n cuts) are has_targets;
          starts = subst (λ n. GoesToStarts n cuts) are to_starts;
          forward = subst (λ n. GoesForward n cuts) are goes_forward;
          enters = subst (λ n. EntersAtHeads n cuts) are enters_at_heads;
          leaves = subst (λ n. LeavesAtLends n cuts) are leaves_at_lends;
        }
