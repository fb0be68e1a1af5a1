-- A code whose nest is kept: the edges to addresses that do not join, and the states that may stand.
use Rattle.std.proofs.Common.{◌≡◌, ◌≢◌, ℕ, zero, suc, ◌+◌, ◌<◌, ◌≤◌, ◌⊎◌, inl, inr, ◌==◌, nat_le, ◌||◌, Bool, true}
use Rattle.std.proofs.Common.{false, if◌then◌else◌, List, [], ◌∷◌, ◌++◌, length, slice_get, Option, Some, None, Result}
use Rattle.std.proofs.Common.{Ok, Err, refl, sym, ap, ◌∙◌, subst, arith}
use Rattle.std.specs.Prelude.{IfOk}
use Rattle.std.specs.Option.{option_and_then}
use Rattle.std.specs.List.{flat_map, count_by, list_any, AllByRecursion}
use Rattle.tp_flow.specs.AroundKept.{KeepsAround}
use Rattle.std.proofs.lemmas.Bool.{cases_eq, cases_lt}
use Rattle.std.proofs.lemmas.Bool.Decides.{nat_tests}
use Rattle.std.proofs.lemmas.Option.{same_Some}
use Rattle.std.proofs.lemmas.List.Concat.{flat_map-cons}
use Rattle.std.proofs.lemmas.List.Sums.{sum_by-cons}
use Rattle.tp_decode.specs.declared.placed.Placed.{Placed}
use Rattle.tp_decode.specs.declared.instr.Instr.{Instr}
use Rattle.tp_decode.specs.Cutting.{Cut, placed_from, IsSpelled}
use Rattle.tp_decode.proofs.NumberLemmas.{placed as placed_cut}
use Rattle.tp_flow.specs.declared.edge.Edge.{Edge}
use Rattle.tp_flow.specs.declared.edge.Edge.TheVariants.{Next, Taken, Back, Out}
use Rattle.tp_flow.specs.declared.range.LoopRange.{LoopRange}
use Rattle.tp_flow.specs.NestRanges.{ranges, head_of, number_ended_at}
use Rattle.tp_flow.specs.NestKept.{KeepsNest}
use Rattle.tp_flow.specs.LoopsAround.{is_around}
use Rattle.tp_flow.specs.Edges.{target, has_edge}
use Rattle.tp_flow.proofs.LoopMoves.{keeps_around}
use Rattle.tp_image.specs.Image.{ImageValue, InRange}
use Rattle.tp_state.specs.declared.state.State.{State}
use Rattle.tp_state.specs.declared.fault.StateCode.{StateCode}
use Rattle.tp_state.specs.Order.{MayMeet, join}
use Rattle.tp_state.specs.After.{after}
use Rattle.tp_state.proofs.LiveLoops.{same_agree, live_joined}
use Rattle.tp_state.proofs.LiveWords.{live_after}
use Rattle.tp_check.specs.Tables.{asked}
use Rattle.tp_check.specs.Passes.{edges_from, edges_of, edges_in}
use Rattle.tp_state.specs.Sound.{IsSound, LoadsWord}
use Rattle.tp_check.specs.Carried.{target_of, outcome_of, leads_to, reached, is_head, AreWide}
use Rattle.tp_check.proofs.Lone.{IsLone, AreStates, IsAmong, LeadsOn, IsStateAt}
use Rattle.tp_flow.proofs.FlowSpelled.{some_bytes}
use Rattle.tp_check.proofs.Places.{place_from, IsInItsPlace, stands_at}
use Rattle.tp_rule_laws.proofs.Rules.{after_sound}
use Rattle.tp_rule_laws.proofs.SoundJoins.{join_sound}
use Rattle.tp_check.proofs.Loading.{loads_word}
use Rattle.tp_check.proofs.Trails.{placed_ok}

-- ---- lists

pub among_either : (xs ys : List (Placed × Edge)) (e : Placed × Edge) → IsAmong (xs ++ ys) e → IsAmong xs e ⊎ IsAmong ys e
among_either [] ys e (i, is) = inr (i, is)
among_either (x ∷ xs) ys e (zero, is) = inl (0, is)
among_either (x ∷ xs) ys e (suc i, is) = by_way (among_either xs ys e (i, is))
  where
    by_way : IsAmong xs e ⊎ IsAmong ys e → IsAmong (x ∷ xs) e ⊎ IsAmong ys e
    by_way (inl (j, is)) = inl (suc j, is)
    by_way (inr among) = inr among

pub count_one : (p : Placed × Edge → Bool) (xs : List (Placed × Edge)) (i : ℕ) (x : Placed × Edge) → slice_get xs i ≡ Some x → p x ≡ true → 1 ≤ count_by p xs
count_one p [] i x is holds = absurd cc
count_one p (y ∷ xs) zero x is holds =
    let same : y ≡ x = same_Some y x is in
    let here : p y ≡ true = ap p same ∙ holds in
    rw (sum_by-cons (λ x. if p x then 1 else 0) y xs, here) (omega arith)
count_one p (y ∷ xs) (suc i) x is holds = let more = count_one p xs i x is holds in rw (sum_by-cons (λ x. if p x then 1 else 0) y xs) (omega arith)

count_two : (p : Placed × Edge → Bool) (xs : List (Placed × Edge)) (i j : ℕ) (x y : Placed × Edge) →
    slice_get xs i ≡ Some x → slice_get xs j ≡ Some y → p x ≡ true → p y ≡ true → i < j → 2 ≤ count_by p xs
count_two p [] i j x y is also holds too lt = absurd cc
count_two p (z ∷ xs) i zero x y is also holds too lt = absurd (omega (arith, lt))
count_two p (z ∷ xs) zero (suc j) x y is also holds too lt =
    let same : z ≡ x = same_Some z x is in
    let here : p z ≡ true = ap p same ∙ holds in
    let more = count_one p xs j y also too in
    rw (sum_by-cons (λ x. if p x then 1 else 0) z xs, here) (omega arith)
count_two p (z ∷ xs) (suc i) (suc j) x y is also holds too lt =
    let more = count_two p xs i j x y is also holds too (omega (arith, lt)) in
    rw (sum_by-cons (λ x. if p x then 1 else 0) z xs) (omega arith)

-- ---- edges in their order

pub ways_at : (p : Placed) (ways : List Edge) (e : Placed × Edge) → IsAmong (edges_from p ways) e → e.0 ≡ p
ways_at p [] e (i, is) = absurd cc
ways_at p (w ∷ ways) e (zero, is) = let same : (p, w) ≡ e = same_Some (p, w) e is in ap (λ (f : Placed × Edge). f.0) (sym same)
ways_at p (w ∷ ways) e (suc i, is) = ways_at p ways e (i, is)

-- an edge of some instructions is one of an instruction of theirs
pub among_placed : (ps : List Placed) (e : Placed × Edge) → IsAmong (flat_map edges_of ps) e → (i : ℕ) × (slice_get ps i ≡ Some e.0)
among_placed [] e (i, is) = absurd cc
among_placed (p ∷ ps) e among = by_way (among_placed ps e) (among_either (edges_of p) (flat_map edges_of ps) e (subst (λ es. IsAmong es e) (flat_map-cons edges_of p ps) among))
  where
    by_way : (IsAmong (flat_map edges_of ps) e → (i : ℕ) × (slice_get ps i ≡ Some e.0)) → IsAmong (edges_of p) e ⊎ IsAmong (flat_map edges_of ps) e → (i : ℕ) × (slice_get (p ∷ ps) i ≡ Some e.0)
    by_way go (inl here) = (0, ap Some (sym (ways_at p (asked p.instr) e here)))
    by_way go (inr later) = let place = go later in (suc place.0, place.1)

-- addresses rise
Rises : List (Placed × Edge) → Type 0
Rises [] = Unit {0}
Rises (f ∷ more) = ((e : Placed × Edge) → IsAmong (f ∷ more) e → f.0.at ≤ e.0.at) × Rises more

rises_ways : (p : Placed) (ways : List Edge) (rest : List (Placed × Edge)) → ((e : Placed × Edge) → IsAmong rest e → p.at ≤ e.0.at) → Rises rest → Rises (edges_from p ways ++ rest)
unfolding Rises
rises_ways p [] rest above rises = rises
rises_ways p (w ∷ ways) rest above rises = (first, rises_ways p ways rest above rises)
  where
    by_way : (e : Placed × Edge) → IsAmong (edges_from p (w ∷ ways)) e ⊎ IsAmong rest e → p.at ≤ e.0.at
    by_way e (inl here) = let same = ap (λ (q : Placed). q.at) (ways_at p (w ∷ ways) e here) in omega (arith, same)
    by_way e (inr later) = above e later

    first : (e : Placed × Edge) → IsAmong (edges_from p (w ∷ ways) ++ rest) e → p.at ≤ e.0.at
    first e among = by_way e (among_either (edges_from p (w ∷ ways)) rest e among)

rises_all : (at : ℕ) (cuts : List Cut) → Rises (flat_map edges_of (placed_from at cuts))
unfolding Rises
rises_all at [] = tt
rises_all at (c ∷ cuts) =
    subst Rises (sym (flat_map-cons edges_of (placed_cut at c) (placed_from (at + length c.bytes) cuts)))
    (rises_ways (placed_cut at c) (asked c.instr) (flat_map edges_of (placed_from (at + length c.bytes) cuts)) above (rises_all (at + length c.bytes) cuts))
  where
    above : (e : Placed × Edge) → IsAmong (flat_map edges_of (placed_from (at + length c.bytes) cuts)) e → at ≤ e.0.at
    above e among =
        let place = among_placed (placed_from (at + length c.bytes) cuts) e among in
        let low = place_from (at + length c.bytes) cuts place.0 e.0 place.1 in omega (arith, low)

-- ---- where edges join

pub or_left : (p q r : Bool) → (p || q || r) ≡ false → p ≡ false
or_left false q r e = refl
or_left true q r e = cc

or_middle : (p q r : Bool) → (p || q || r) ≡ false → q ≡ false
or_middle false false r e = refl
or_middle false true r e = cc
or_middle true q r e = cc

or_right : (p q r : Bool) → (p || q || r) ≡ false → r ≡ false
or_right false false false e = refl
or_right false false true e = cc
or_right false true r e = cc
or_right true q r e = cc

-- a head is one of the heads
heads_there : (nest : List LoopRange) (l : ℕ) (to : ℕ) → head_of nest l ≡ Some to → list_any (λ range. range.head == to) nest ≡ true
heads_there [] l to e = absurd cc
heads_there (r ∷ nest) zero to e =
    let same : r.head ≡ to = same_Some r.head to e in
    let here : (r.head == to) ≡ true = grind (arith, nat_tests) in
    rw here refl
heads_there (r ∷ nest) (suc l) to e = by_test (r.head == to) (heads_there nest l to e)
  where
    by_test : (b : Bool) → list_any (λ range. range.head == to) nest ≡ true → (b || list_any (λ range. range.head == to) nest) ≡ true
    by_test true go = refl
    by_test false go = go

back_to_head : (nest : List LoopRange) (at next : ℕ) (instr : Instr) (to : ℕ) → target nest at next instr Back ≡ Some to → list_any (λ range. range.head == to) nest ≡ true
back_to_head nest at next instr to e = by_test (has_edge instr Back) e
  where
    by_number : (o : Option ℕ) → option_and_then (head_of nest) o ≡ Some to → list_any (λ range. range.head == to) nest ≡ true
    by_number None e = absurd cc
    by_number (Some l) e = heads_there nest l to e

    by_test : (b : Bool) → (if b then option_and_then (head_of nest) (number_ended_at nest at) else None) ≡ Some to → list_any (λ range. range.head == to) nest ≡ true
    by_test true e = by_number (number_ended_at nest at) e
    by_test false e = absurd cc

is_back : (edge : Edge) → (edge ≡ Back) ⊎ (edge ≢ Back)
is_back Next = inr (λ e. cc)
is_back Taken = inr (λ e. cc)
is_back Back = inl refl
is_back Out = inr (λ e. cc)

module _ (image : ImageValue) (cuts : List Cut) (kept : KeepsNest image.loops image.workspace cuts) (is_join : ℕ → Bool) (wide : AreWide image cuts is_join) where
  abbrev pub IsOne : Placed × Edge → Type 0
  IsOne e = IsAmong (edges_in cuts) e

  stands : (e : Placed × Edge) → IsOne e → IsInItsPlace cuts e.0
  stands e among = let place = among_placed (placed_from 0 cuts) e among in stands_at cuts place.0 e.0 kept.spelled place.1

  -- an edge to where edges do not join goes forward
  forward : (e : Placed × Edge) (to : ℕ) → IsOne e → is_join to ≡ false → target_of image e ≡ Some to → e.0.at < to
  forward e to among lone goes = by_edge (is_back e.1)
    where
      it : IsInItsPlace cuts e.0
      it = stands e among

      goes_at : target (ranges image.loops) e.0.at (e.0.at + length it.cut.bytes) it.cut.instr e.1 ≡ Some to
      goes_at = ap (λ (q : Placed). target (ranges image.loops) q.at q.next q.instr e.1) (sym it.is) ∙ goes

      by_edge : (e.1 ≡ Back) ⊎ (e.1 ≢ Back) → e.0.at < to
      by_edge (inl back) =
          let is_head_there : is_head image to ≡ true = back_to_head (ranges image.loops) e.0.at e.0.next e.0.instr to (ap (target (ranges image.loops) e.0.at e.0.next e.0.instr) (sym back) ∙ goes) in
          let no : is_head image to ≡ false = or_middle (to == 0) (is_head image to) (nat_le 2 (reached image cuts to)) (wide to lone) in
          absurd (let never : true ≡ false = sym is_head_there ∙ no in cc)
      by_edge (inr other) =
          let up = kept.forward e.0.at to e.1 (record { cut = it.cut; stands = it.there; goes = goes_at }) other in
          let some = some_bytes cuts e.0.at it.cut kept.spelled it.there in
          omega (arith, up, some)

  -- those that lead there are one
  one : (e f : Placed × Edge) (to : ℕ) → IsOne e → IsOne f → is_join to ≡ false → target_of image e ≡ Some to → target_of image f ≡ Some to → e ≡ f
  one e f to (i, is) (j, also) lone goes leads = by_number (cases_eq i j) (cases_lt i j)
    where
      here : (g : Placed × Edge) → target_of image g ≡ Some to → leads_to to (target_of image g) ≡ true
      here g goes = let same : (to == to) ≡ true = grind (arith, nat_tests) in rw goes same

      few : reached image cuts to < 2
      few = let no = or_right (to == 0) (is_head image to) (nat_le 2 (reached image cuts to)) (wide to lone) in not_le 2 (reached image cuts to) no
        where
          not_le : (n m : ℕ) → nat_le n m ≡ false → m < n
          not_le n m e = grind (arith, nat_tests)

      by_number : (i ≡ j) ⊎ (i ≡ j → ⊥) → (i < j) ⊎ (j ≤ i) → e ≡ f
      by_number (inl same) _ = same_Some e f (sym is ∙ ap (slice_get (edges_in cuts)) same ∙ also)
      by_number (inr other) (inl lt) =
          let two = count_two (λ g. leads_to to (target_of image g)) (edges_in cuts) i j e f is also (here e goes) (here f leads) lt in
          absurd (let less = few in omega (arith, two, less))
      by_number (inr other) (inr le) =
          let gt : j < i = differ i j le other in
          let two = count_two (λ g. leads_to to (target_of image g)) (edges_in cuts) j i f e also is (here f leads) (here e goes) gt in
          absurd (let less = few in omega (arith, two, less))
        where
          differ : (i j : ℕ) → j ≤ i → (i ≡ j → ⊥) → j < i
          differ i j le other = omega arith

  pub lone : IsLone image is_join IsOne
  lone = record { one = one; on = λ e to among lone_to goes same. let up = forward e to among lone_to goes in omega (arith, same, up) }

  leads_on : (es : List (Placed × Edge)) → ((e : Placed × Edge) → IsAmong es e → IsOne e) → Rises es → LeadsOn image is_join es
  unfolding Rises
  leads_on [] all rises = tt
  leads_on (f ∷ more) all rises = (ahead, leads_on more (λ e among. all e (suc among.0, among.1)) rises.1)
    where
      ahead : (e : Placed × Edge) → IsAmong (f ∷ more) e → is_join f.0.at ≡ false → target_of image e ≢ Some f.0.at
      ahead e among lone_to goes = let up = forward e f.0.at (all e among) lone_to goes in let low = rises.0 e among in omega (arith, up, low)

  pub edges_lead_on : LeadsOn image is_join (edges_in cuts)
  edges_lead_on = leads_on (edges_in cuts) (λ e among. among) (rises_all 0 cuts)

  -- ---- states

  module _ (range : InRange image) (spelled : AllByRecursion IsSpelled cuts) where
    join_stands : (at : ℕ) (s t : State) → IsStateAt image at s → IsStateAt image at t → s.wptr ≡ t.wptr → s.phase ≡ t.phase → IsStateAt image at (join s t)
    join_stands at s t f g w p = record {
      sound = join_sound image s t f.sound g.sound;
      live = live_joined image.loops (is_around (ranges image.loops) at) s.cells t.cells f.live g.live (g.sound.placed.sized ∙ sym f.sound.placed.sized);
    }

    meet_there : (at : ℕ) (s t : State) → IsStateAt image at s → IsStateAt image at t → s.wptr ≡ t.wptr → s.phase ≡ t.phase → MayMeet s t
    meet_there at s t f g w p = record {
      wptr = w;
      phase = p;
      sized = f.sound.placed.sized ∙ sym g.sound.placed.sized;
      cells = same_agree image.loops (is_around (ranges image.loops) at) s.cells t.cells f.live g.live;
    }

    after_stands : (e : Placed × Edge) (s t : State) (to : ℕ) → IsOne e → IsStateAt image e.0.at s → target_of image e ≡ Some to → outcome_of image e s ≡ Ok t → IsStateAt image to t
    after_stands e s t to among f goes gives = record {
      sound = by_answer (after image e.0.at e.0.next e.0.instr e.1 s) ok (after_sound image range kept.good e.0.at e.0.next e.0.instr e.1 s loads f.sound);
      live = live_after image e.0.at e.0.next e.0.instr e.1 to s t around f.sound.placed f.live goes ok;
    }
      where
        it : IsInItsPlace cuts e.0
        it = stands e among

        ok : after image e.0.at e.0.next e.0.instr e.1 s ≡ Ok t
        ok = placed_ok e.0.at _ t gives

        around : KeepsAround image.loops image.workspace e.0.at e.0.next e.0.instr
        around = subst (λ (q : Placed). KeepsAround image.loops image.workspace q.at q.next q.instr) (sym it.is) (keeps_around image.loops image.workspace cuts kept e.0.at it.cut it.there)

        loads : LoadsWord e.0.instr
        loads = loads_word cuts spelled e.0 it

        by_answer : (r : Result State StateCode) → r ≡ Ok t → IfOk r (IsSound image) → IsSound image t
        by_answer (Ok u) is sound = let same : u ≡ t = cc in subst (IsSound image) same sound
        by_answer (Err c) is sound = cc

    pub are_states : AreStates image IsOne (IsStateAt image)
    are_states = record { sound = λ at s f. f.sound; meet = meet_there; join = join_stands; after = after_stands }
