-- One edge of a pass.
use Rattle.std.proofs.Common.{◌≡◌, ℕ, ◌==◌, if◌then◌else◌, Bool, true, false, Option, Some, None, Result, Ok, Err, refl, sym, ◌∙◌, subst, rules}
use Rattle.std.specs.Prelude.{IsErrAnd, OnErr, IfOk, IfSome, List, length, ◌<◌}
use Rattle.std.proofs.lemmas.Option.{same_Some}
use Rattle.tp_decode.specs.declared.placed.Placed.{Placed}
use Rattle.tp_flow.specs.declared.edge.Edge.{Edge}
use Rattle.tp_flow.specs.NestRanges.{ranges}
use Rattle.tp_flow.specs.Edges.{target}
use Rattle.tp_image.specs.Image.{ImageValue}
use Rattle.tp_state.specs.declared.state.State.{State}
use Rattle.tp_state.specs.declared.fault.StateCode.{StateCode}
use Rattle.tp_state.specs.declared.fault.StateCode.TheVariants.{S6, S9}
use Rattle.tp_state.specs.declared.fault.StateFault.{StateFault}
use Rattle.tp_state.specs.declared.fault.StateFault.TheVariants.{Refused, Memory}
use Rattle.tp_state.specs.Answer.{◌>>=◌, ◌>>◌, unless}
use Rattle.tp_state.specs.Conditions.{IsPlaced}
use Rattle.tp_state.specs.Order.{join, meeting, ReportsChange}
use Rattle.tp_state.specs.StateCodes.{IsFaultAt}
use Rattle.tp_state.specs.After.{after}
use Rattle.tp_state.proofs.JoinLemmas.{length-joined}
use Rattle.tp_check.specs.Tables.{Table, table_of, with_state, HasPlacedStates}
use Rattle.tp_check.specs.Rising.{Moves}
use Rattle.tp_check.proofs.Heights.{HasWords}
use Rattle.tp_check.proofs.TableSteps.{enter_moves}
use Rattle.tp_check.specs.Passes.{with_place, meeting_if_any, enter, go_along}
use Rattle.tp_check.specs.Arrivals.{Gives}

-- ---- what an edge makes of a table

module _ (image : ImageValue) (p : Placed) (edge : Edge) (table : Table) where
  -- where no state stands before the instruction, nothing changes
  pub none_goes : (o : Option State) → o ≡ None → go_along image p edge o table ≡ Ok table
  unfolding go_along
  none_goes o is = rw is refl

  pub outcome_goes : (o : Option State) (s u : State) → o ≡ Some s → after image p.at p.next p.instr edge s ≡ Ok u
      → go_along image p edge o table ≡ enter (target (ranges image.loops) p.at p.next p.instr edge) u table
  unfolding go_along
  outcome_goes o s u is goes = rw (is, goes) refl

  pub refused_goes : (o : Option State) (s : State) (fault : StateFault) (r : Result Bool StateFault) (new : Table) → o ≡ Some s → IsErrAnd r (λ x. x ≡ fault)
      → IsFaultAt p.at (after image p.at p.next p.instr edge s) fault → Gives r new (go_along image p edge o table)
  unfolding go_along
  refused_goes o s fault (Ok x) new is e refused = absurd (search rules)
  refused_goes o s (Refused code place) (Err x) new is e (refused, at) = rw (e, is, refused, at) refl
  refused_goes o s Memory (Err x) new is e refused = rw e tt

pub nowhere_goes : (s : State) (table : Table) (to : Option ℕ) → to ≡ None → enter to s table ≡ Ok table
unfolding enter
nowhere_goes s table to is = rw is refl

-- ---- the states stay placed

meets_to : (t s u : State) → meeting t s ≡ Ok u → u ≡ join t s
meets_to t s u is = by_test (t.wptr == s.wptr) (t.phase == s.phase) is
  where
    by_test : (p q : Bool) → (unless S6 p >> (unless S9 q >> Ok (join t s))) ≡ Ok u → u ≡ join t s
    by_test true true e = cc
    by_test true false e = absurd cc
    by_test false q e = absurd cc

stays_placed : (image : ImageValue) (t s u : State) → IsPlaced image t → IsPlaced image s → meeting t s ≡ Ok u → IsPlaced image u
stays_placed image t s u there arrives is =
    subst (IsPlaced image) (sym (meets_to t s u is))
    (record { roomy = there.roomy; inside = there.inside; sized = length-joined t.cells s.cells (arrives.sized ∙ sym there.sized) ∙ there.sized })

placed_ok : (at : ℕ) (r : Result State StateCode) (t : State) → with_place at r ≡ Ok t → r ≡ Ok t
placed_ok at (Ok x) t e = cc
placed_ok at (Err code) t e = absurd cc

met_placed : (image : ImageValue) (o : Option State) (s u : State) → ((t : State) → o ≡ Some t → IsPlaced image t) → IsPlaced image s → meeting_if_any o s ≡ Ok u → IsPlaced image u
met_placed image None s u there arrives is = subst (IsPlaced image) (let same : s ≡ u = cc in same) arrives
met_placed image (Some t) s u there arrives is = stays_placed image t s u (there t refl) arrives is

put_placed : (image : ImageValue) (table : Table) (to : ℕ) (u : State) → HasPlacedStates image table → IsPlaced image u → HasPlacedStates image (with_state to u table)
put_placed image table to u all arrives at s = by_test (at == to)
  where
    by_test : (b : Bool) → (if b then Some u else table at) ≡ Some s → IsPlaced image s
    by_test true is = subst (IsPlaced image) (same_Some _ _ is) arrives
    by_test false is = all at s is

pub entered_placed : (image : ImageValue) (table new : Table) (to : ℕ) (u : State) (r : Result Bool StateFault) →
    HasPlacedStates image table → IsPlaced image u → Gives r new (enter (Some to) u table) → OnErr r (new ≡ table) →
    HasPlacedStates image new
unfolding enter
entered_placed image table new to u (Err e) all arrives gives kept = subst (HasPlacedStates image) (sym kept) all
entered_placed image table new to u (Ok x) all arrives gives kept = by_met (with_place to (meeting_if_any (table to) u)) refl gives
  where
    by_met : (m : Result State StateFault) → with_place to (meeting_if_any (table to) u) ≡ m → (m >>= (λ t. Ok (with_state to t table))) ≡ Ok new → HasPlacedStates image new
    by_met (Ok t) is e =
        let t_placed = met_placed image (table to) u t (all to) arrives (placed_ok to _ t is) in
        subst (HasPlacedStates image) (let same : with_state to t table ≡ new = cc in same) (put_placed image table to t all t_placed)
    by_met (Err e) is same = absurd cc

-- ---- fewer changes are left

pub entered_moves : (image : ImageValue) (r : Result Bool StateFault) (old new : List (Option State)) (to : ℕ)
    (s : State) → to < length old → length new ≡ length old → Gives r (table_of new) (enter (Some to) s (table_of old)) →
    IfOk r (λ moved. ReportsChange moved old new) → HasWords s → IsPlaced image s
    → HasPlacedStates image (table_of old) → IfOk r (λ moved. Moves image moved old new)
entered_moves image (Err e) old new to s inside sized gives reports words fits placed = tt
entered_moves image (Ok moved) old new to s inside sized gives reports words fits placed =
    enter_moves image moved old new to s inside sized gives reports words fits.sized (alike (table_of old to) refl)
  where
    alike : (o : Option State) → table_of old to ≡ o → IfSome o (λ u. length s.cells ≡ length u.cells)
    alike None is = tt
    alike (Some u) is = fits.sized ∙ sym (placed to u is).sized
