use Rattle.std.proofs.Common.{sym, ap, ◌∙◌, ◌++◌, ◌∷◌, [], None, replicate, add-one, arith}
use Rattle.tp_check.proofs.TableSteps.{one_more}
use Rattle.tp_check.proofs.states.no_states.Goals as goal

pub loop-at-preserved : goal.loop-at-preserved
loop-at-preserved c =
    c.in_ok-push.ensures.items ∙ ap (λ items. items ++ None ∷ []) c.loop-at.invariant ∙ sym (ap (λ n. replicate n None) (add-one c.loop-at._at) ∙ one_more c.loop-at._at None)

pub returns : goal.returns
returns c = c.loop-at.invariant ∙ ap (λ n. replicate n None) (omega (arith, c.loop-at-test.false, c.loop-at.auto._at-end))
