use Rattle.std.proofs.Common.{◌≡◌, sym, ◌∙◌, subst}
use Rattle.tp_accept.specs.declared.refusal.Refusal.TheVariants.{Refused, Memory}
use Rattle.tpw_why.specs.Verdicts.{MayNotBeRun}
use Rattle.tpw_why.proofs.judging.judge.Goals as goal

pub returns-in-Err-Refused-clause-exact : goal.returns-in-Err-Refused-clause-exact
returns-in-Err-Refused-clause-exact c =
    subst MayNotBeRun c.in_ok-copy.ensures.items (c.in-Err-Refused.ensures.exact
    (λ e. absurd (let never : Refused c.in-Err-Refused.code c.in-Err-Refused.place ≡ Memory = sym c.in-Err-Refused.field-0-is ∙ e in cc)))
