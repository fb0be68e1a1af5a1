use Rattle.std.proofs.Common.{◌≡◌, ◌==◌, length, Bool, true, false, Result, Ok, Err, sym, ap, ◌∙◌, subst}
use Rattle.tp_image.specs.Image.{ImageValue}
use Rattle.tp_state.specs.declared.state.State.{State}
use Rattle.tp_state.specs.declared.fault.StateCode.TheVariants.{S6, S9}
use Rattle.tp_state.specs.Answer.{◌>>◌, unless, answered}
use Rattle.tp_state.specs.Conditions.{IsPlaced}
use Rattle.tp_state.specs.Order.{join, meeting}
use Rattle.tp_state.proofs.JoinLemmas.{length-joined}
use Rattle.test_passes.proofs.whole.meet.Goals as goal

meets_to : (t s u : State) → Ok u ≡ meeting t s → u ≡ join t s
meets_to t s u is = by_test (t.wptr == s.wptr) (t.phase == s.phase) is
  where
    by_test : (p q : Bool) → Ok u ≡ (unless S6 p >> (unless S9 q >> Ok (join t s))) → u ≡ join t s
    by_test true true e = cc
    by_test true false e = absurd cc
    by_test false q e = absurd cc

-- a join is placed as what it was before
stays_placed : (image : ImageValue) (t s u : State) → IsPlaced image t → IsPlaced image s → Ok u ≡ meeting t s → IsPlaced image u
stays_placed image t s u there comes is =
    subst (IsPlaced image) (sym (meets_to t s u is))
    (record { roomy = there.roomy; inside = there.inside; sized = length-joined t.cells s.cells (comes.sized ∙ sym there.sized) ∙ there.sized })

pub returns-in-Ok : goal.returns-in-Ok
returns-in-Ok c =
    stays_placed c.args.image.now c.in-Some.met c.args.state c.join.new.self (rw c.in-Some.is at c.requires.there)
    c.requires.state (sym (ap (λ r. answered r c.join.new.self) c.in-Ok.is) ∙ c.join.ensures.value)
