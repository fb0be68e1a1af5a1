-- What the passes' definition answers on an edge, and what a call in place has left.
use Rattle.std.proofs.Common.{◌≡◌, ℕ, Option, Some, None, Result, Ok, Err, refl, sym, ap, ◌∙◌}
use Rattle.tp_decode.specs.declared.placed.Placed.{Placed}
use Rattle.tp_flow.specs.declared.edge.Edge.{Edge}
use Rattle.tp_flow.specs.NestRanges.{ranges}
use Rattle.tp_flow.specs.Edges.{target}
use Rattle.tp_image.specs.Image.{ImageValue}
use Rattle.tp_state.specs.declared.state.State.{State}
use Rattle.tp_state.specs.declared.fault.StateCode.{StateCode}
use Rattle.tp_state.specs.Answer.{◌>>=◌, answered}
use Rattle.tp_state.specs.Conditions.{IsPlaced}
use Rattle.tp_state.specs.After.{after}
use Rattle.tp_state.proofs.LiveWords.{live_after}
use Rattle.tp_check.specs.Tables.{Table}
use Rattle.tp_check.specs.Passes.{enter, go_along, with_place}
use Rattle.tp_check.specs.UnderWay.{IsPlacedAt, HasGrown, MayBeTaken}

-- ---- the definition's answers

pub along_none : (image : ImageValue) (p : Placed) (edge : Edge) (table : Table) (o : Option State) → o ≡ None → go_along image p edge o table ≡ Ok table
unfolding go_along
along_none image p edge table o is = rw is refl

pub along_some : (image : ImageValue) (p : Placed) (edge : Edge) (table : Table) (o : Option State) (s : State) (r : Result State StateCode) → o ≡ Some s → after image p.at p.next p.instr edge s ≡ r
    → go_along image p edge o table ≡ (with_place p.at r >>= (λ t. enter (target (ranges image.loops) p.at p.next p.instr edge) t table))
unfolding go_along
along_some image p edge table o s r is goes = rw (is, goes) refl

pub enter_none : (t : State) (table : Table) → enter None t table ≡ Ok table
unfolding enter
enter_none t table = refl

-- an outcome is a state at the target
pub arrives_at : (image : ImageValue) (p : Placed) (edge : Edge) (places to : ℕ) (table : Table) (s v : State) →
    MayBeTaken image places p → HasGrown image table → table p.at ≡ Some s →
    after image p.at p.next p.instr edge s ≡ Ok v → IsPlaced image v →
    target (ranges image.loops) p.at p.next p.instr edge ≡ Some to → IsPlacedAt image to v
arrives_at image p edge places to table s v may grown here goes inside leads =
    let before = grown.states p.at s here in
    record { placed = inside; live = live_after image p.at p.next p.instr edge to s v may.around before.placed before.live leads goes }

-- what a call in place has left where it gave this
pub left : {A : Type 0} (r : Result A StateCode) (x : A) (new : State) (a : Result State StateCode) → r ≡ Ok x → answered r new ≡ a → a ≡ Ok new
left r x new a is e = sym e ∙ ap (λ r. answered r new) is

pub refused : {A : Type 0} (r : Result A StateCode) (code : StateCode) (new : State) (a : Result State StateCode) → r ≡ Err code → answered r new ≡ a → a ≡ Err code
refused r code new a is e = sym e ∙ ap (λ r. answered r new) is
