use Rattle.std.proofs.Common.{◌∙◌}
use Rattle.std.proofs.lemmas.Result.{IfOk-weaker}
use Rattle.tpw_occam_scoped.specs.Meaning.{value_of}
use Rattle.tpw_occam_resolving.proofs.Operating.{less_made}
use Rattle.tpw_occam_resolving.proofs.operators.less.Goals as goal

pub returns : goal.returns
returns c =
    IfOk-weaker c.binary.result _ _
    (λ r h. h ∙ (λ i s. less_made (value_of c.args.left s) (value_of c.args.right s) i))
    c.binary.ensures
