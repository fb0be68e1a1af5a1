-- What a table becomes where what is known after an edge reaches its target.
use Rattle.std.proofs.Common.{◌≡◌, ◌≢◌, ℕ, ◌⊎◌, inl, inr, ◌==◌, if◌then◌else◌, Bool, true, false, length, Option, Some, None, Result, Ok, Err, refl, sym, ap, ◌∙◌, subst, arith}
use mathlib.Core.Path.{fun_ext}
use Rattle.std.proofs.lemmas.Bool.{cases_eq}
use Rattle.std.proofs.lemmas.Bool.Decides.{nat_tests}
use Rattle.std.proofs.lemmas.Option.{same_Some}
use Rattle.tp_decode.specs.declared.instr.Instr.{Instr}
use Rattle.tp_flow.specs.declared.edge.Edge.{Edge}
use Rattle.tp_flow.specs.NestRanges.{ranges}
use Rattle.tp_flow.specs.LoopsAround.{is_around, IsOutside}
use Rattle.tp_image.specs.Image.{ImageValue}
use Rattle.tp_state.specs.declared.state.State.{State}
use Rattle.tp_state.specs.declared.fault.StateCode.{StateCode}
use Rattle.tp_state.specs.declared.fault.StateCode.TheVariants.{S6, S9}
use Rattle.tp_state.specs.Answer.{◌>>=◌, ◌>>◌, unless}
use Rattle.tp_state.specs.Conditions.{IsPlaced}
use Rattle.tp_state.specs.Order.{IsBelow, MayMeet, join, meeting}
use Rattle.tp_state.specs.Entry.{entry}
use Rattle.tp_state.proofs.JoinLemmas.{length-joined}
use Rattle.tp_state.proofs.StateOrder.{is_below-self, is_below-trans, is_below-join_left, is_below-join_right, join-below}
use Rattle.tp_state.proofs.LiveLoops.{same_agree, live_joined}
use Rattle.tp_state.proofs.LiveWords.{none_live}
use Rattle.tp_check.specs.Tables.{Table, with_state}
use Rattle.tp_check.specs.EdgesRespect.{HasAbove, Respects}
use Rattle.tp_check.specs.Passes.{enter, with_place, meeting_if_any, first_table}
use Rattle.tp_check.specs.UnderWay.{IsPlacedAt, HasGrown}

-- a state that comes where another is known, or none
abbrev pub Becomes : Option State → State → State → Type 0
Becomes None s t = t ≡ s
Becomes (Some u) s t = (u.wptr ≡ s.wptr) × (u.phase ≡ s.phase) × (t ≡ join u s)

-- a state came to an address
pub record Entered (table : Table) (to : ℕ) (s : State) (new : Table) : Type 0 where
  pub state : State
  pub is : new ≡ with_state to state table
  pub becomes : Becomes (table to) s state

same_number : (n m : ℕ) → (n == m) ≡ true → n ≡ m
same_number n m e = grind (arith, nat_tests)

met_is : (o : Option State) (s t : State) → meeting_if_any o s ≡ Ok t → Becomes o s t
met_is None s t e = let same : s ≡ t = cc in sym same
met_is (Some u) s t e = by_test (u.wptr == s.wptr) refl (u.phase == s.phase) refl e
  where
    by_test : (p : Bool) → (u.wptr == s.wptr) ≡ p → (q : Bool) → (u.phase == s.phase) ≡ q → (unless S6 p >> (unless S9 q >> Ok (join u s))) ≡ Ok t → Becomes (Some u) s t
    by_test true f true g e = let same : join u s ≡ t = cc in (same_number _ _ f, same_number _ _ g, sym same)
    by_test true f false g e = absurd cc
    by_test false f q g e = absurd cc

pub entered : (table : Table) (to : ℕ) (s : State) (new : Table) → enter (Some to) s table ≡ Ok new → Entered table to s new
unfolding enter
entered table to s new is = by_meeting (meeting_if_any (table to) s) refl is
  where
    by_meeting : (r : Result State StateCode) → meeting_if_any (table to) s ≡ r → (with_place to r >>= (λ t. Ok (with_state to t table))) ≡ Ok new → Entered table to s new
    by_meeting (Ok t) e is = let same : with_state to t table ≡ new = cc in record { state = t; is = sym same; becomes = met_is (table to) s t e }
    by_meeting (Err code) e is = absurd cc

-- elsewhere nothing changes
pub elsewhere : (table : Table) (to : ℕ) (s : State) (new : Table) (x : ℕ) → Entered table to s new → x ≢ to → new x ≡ table x
elsewhere table to s new x e other =
    let differs : (x == to) ≡ false = grind (arith, nat_tests) in
    ap (λ (t : Table). t x) e.is ∙ ap (λ b. if b then Some e.state else table x) differs

pub there : (table : Table) (to : ℕ) (s : State) (new : Table) (e : Entered table to s new) → new to ≡ Some e.state
there table to s new e =
    let same : (to == to) ≡ true = grind (arith, nat_tests) in
    ap (λ (t : Table). t to) e.is ∙ ap (λ b. if b then Some e.state else table to) same

module _ (image : ImageValue) (table : Table) (to : ℕ) (s : State) (grown : HasGrown image table) (fits : IsPlacedAt image to s) where
  -- two states of one address meet, where Wptr and the phase are the same
  may_meet : (u : State) → table to ≡ Some u → u.wptr ≡ s.wptr → u.phase ≡ s.phase → MayMeet u s
  may_meet u is wptr phase =
      let stands = grown.states to u is in
      record { wptr = wptr; phase = phase; sized = stands.placed.sized ∙ sym fits.placed.sized; cells = same_agree _ _ _ _ stands.live fits.live }

  -- a join of theirs is one too
  joined_at : (u : State) → table to ≡ Some u → IsPlacedAt image to (join u s)
  joined_at u is =
      let stands = grown.states to u is in
      let long : length s.cells ≡ length u.cells = fits.placed.sized ∙ sym stands.placed.sized in
      record {
        placed = record { roomy = stands.placed.roomy; inside = stands.placed.inside; sized = length-joined u.cells s.cells long ∙ stands.placed.sized };
        live = live_joined image.loops (is_around (ranges image.loops) to) u.cells s.cells stands.live fits.live long;
      }

  module _ (new : Table) (e : Entered table to s new) where
    becomes_at : (o : Option State) → table to ≡ o → Becomes o s e.state → IsPlacedAt image to e.state × IsBelow s e.state
    becomes_at None is same = rw same (fits, is_below-self s)
    becomes_at (Some u) is (wptr, phase, same) = rw same (joined_at u is, is_below-join_right u s (may_meet u is wptr phase))

    -- the state at the target is above the one that came
    pub comes_below : HasAbove new to s
    comes_below = record { state = e.state; there = there table to s new e; below = (becomes_at (table to) refl e.becomes).1 }

    rises_there : (v u : State) (o : Option State) → table to ≡ o → Becomes o s e.state → o ≡ Some u → IsBelow v u → IsBelow v e.state
    rises_there v u None is same was below = absurd cc
    rises_there v u (Some w) is (wptr, phase, same) was below =
        let w_is : w ≡ u = same_Some _ _ was in
        is_below-trans v w e.state (subst (IsBelow v) (sym w_is) below) (rw same (is_below-join_left w s (may_meet w is wptr phase)))

    -- what is below a state stays below
    pub rises : (x : ℕ) (v : State) → HasAbove table x v → HasAbove new x v
    rises x v above = by_place (cases_eq x to)
      where
        by_place : (x ≡ to) ⊎ (x ≡ to → ⊥) → HasAbove new x v
        by_place (inl same) = record {
          state = e.state;
          there = ap new same ∙ there table to s new e;
          below = rises_there v above.state (table to) refl e.becomes (sym (ap table same) ∙ above.there) above.below;
        }
        by_place (inr other) = record { state = above.state; there = elsewhere table to s new x e other ∙ above.there; below = above.below }

    -- the table goes on to grow
    pub grows : HasGrown image new
    grows = record { states = λ at t is. at_place at t is (cases_eq at to); begins = rises 0 (entry image) grown.begins }
      where
        at_place : (at : ℕ) (t : State) → new at ≡ Some t → (at ≡ to) ⊎ (at ≡ to → ⊥) → IsPlacedAt image at t
        at_place at t is (inl same) =
            let here : e.state ≡ t = same_Some _ _ (sym (there table to s new e) ∙ sym (ap new same) ∙ is) in
            subst (λ x. IsPlacedAt image x t) (sym same) (subst (IsPlacedAt image to) here (becomes_at (table to) refl e.becomes).0)
        at_place at t is (inr other) = grown.states at t (sym (elsewhere table to s new at e other) ∙ is)

    -- an edge that respects the old table respects the new one
    pub still_respects : (at next : ℕ) (instr : Instr) (t : State) (edge : Edge) → Respects image table at next instr t edge → Respects image new at next instr t edge
    still_respects at next instr t edge r = record { outcome = r.outcome; goes_on = r.goes_on; enters = λ x is. rises x r.outcome (r.enters x is) }

-- ---- a state that comes where one above it is

pub same_there : (table : Table) (to : ℕ) (u : State) → table to ≡ Some u → with_state to u table ≡ table
same_there table to u is = fun_ext λ x. at_place x (cases_eq x to)
  where
    at_place : (x : ℕ) → (x ≡ to) ⊎ (x ≡ to → ⊥) → with_state to u table x ≡ table x
    at_place x (inl same) =
        let yes : (x == to) ≡ true = grind (arith, nat_tests) in
        ap (λ b. if b then Some u else table x) yes ∙ sym (ap table same ∙ is)
    at_place x (inr other) =
        let no : (x == to) ≡ false = grind (arith, nat_tests) in
        ap (λ b. if b then Some u else table x) no

same_test : (n m : ℕ) → n ≡ m → (n == m) ≡ true
same_test n m e = grind (arith, nat_tests)

met_below : (u s : State) → IsBelow s u → meeting u s ≡ Ok u
met_below u s below = rw (same_test u.wptr s.wptr (sym below.wptr), same_test u.phase s.phase (sym below.phase)) (ap Ok (join-below u s below))

-- it changes nothing
pub enters_below : (table : Table) (to : ℕ) (s : State) → HasAbove table to s → enter (Some to) s table ≡ Ok table
unfolding enter
enters_below table to s above =
    ap (λ o. with_place to (meeting_if_any o s) >>= (λ t. Ok (with_state to t table))) above.there
    ∙ ap (λ r. with_place to r >>= (λ t. Ok (with_state to t table))) (met_below above.state s above.below)
    ∙ ap Ok (same_there table to above.state above.there)

-- ---- the first table

pub first_grown : (image : ImageValue) (table : Table) → IsOutside (ranges image.loops) 0 → IsPlaced image (entry image) → table ≡ first_table image → HasGrown image table
first_grown image table outside inside is = subst (HasGrown image) (sym is) (record {
  states = λ at s there. at_place at s there (cases_eq at 0);
  begins = record { state = entry image; there = refl; below = is_below-self (entry image) };
})
  where
    at_place : (at : ℕ) (s : State) → first_table image at ≡ Some s → (at ≡ 0) ⊎ (at ≡ 0 → ⊥) → IsPlacedAt image at s
    at_place at s there (inl same) =
        let first : entry image ≡ s = same_Some _ _ (sym (ap (first_table image) same) ∙ there) in
        subst (λ x. IsPlacedAt image x s) (sym same) (subst (IsPlacedAt image 0) first (record { placed = inside; live = none_live image outside }))
    at_place at s there (inr other) =
        let no : (at == 0) ≡ false = grind (arith, nat_tests) in
        absurd (let none : None ≡ Some s = sym (ap (λ b. if b then Some (entry image) else None) no) ∙ there in cc)
