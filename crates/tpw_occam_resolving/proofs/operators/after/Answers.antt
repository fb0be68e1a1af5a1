use Rattle.std.proofs.Common.{◌∙◌}
use Rattle.std.proofs.lemmas.Result.{IfOk-weaker}
use Rattle.tpw_occam_core.specs.declared.expression.Operator.TheVariants.{Greater}
use Rattle.tpw_occam_core.specs.Arithmetic.{pure, applied}
use Rattle.tpw_occam_core.specs.Meaning.{bind}
use Rattle.tpw_occam_scoped.specs.Meaning.{value_of}
use Rattle.tpw_occam_resolving.proofs.Operating.{after_made}
use Rattle.tpw_occam_resolving.proofs.operators.after.Goals as goal

pub returns : goal.returns
returns c =
    IfOk-weaker c.binary-2.result _ _
    (λ r h. h ∙ (λ i s. bind (c.in_ok-difference.ensures i s) (λ w. bind (pure 0) (applied Greater w)))
    ∙ (λ i s. after_made (value_of c.args.left s) (value_of c.args.right s) i))
    c.binary-2.ensures
