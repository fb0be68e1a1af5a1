use Rattle.std.proofs.Common.{◌==◌, ◌∙◌}
use Rattle.std.proofs.lemmas.Result.{IfOk-weaker}
use Rattle.tp_words.specs.Numbers.{truth}
use Rattle.tpw_occam_core.specs.Arithmetic.{pure}
use Rattle.tpw_occam_core.specs.Meaning.{bind}
use Rattle.tpw_occam_scoped.specs.Meaning.{value_of}
use Rattle.tpw_occam_resolving.proofs.Operating.{at_most_made}
use Rattle.tpw_occam_resolving.proofs.operators.at_most.Goals as goal

pub returns : goal.returns
returns c =
    IfOk-weaker c.not.result _ _
    (λ r h. h ∙ (λ i s. bind (c.in_ok-greater.ensures i s) (λ a. pure (truth (a == 0))))
    ∙ (λ i s. at_most_made (value_of c.args.left s) (value_of c.args.right s) i))
    c.not.ensures
