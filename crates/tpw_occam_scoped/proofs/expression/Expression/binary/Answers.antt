use Rattle.tpw_occam_core.specs.Arithmetic.{applied}
use Rattle.tpw_occam_core.specs.Meaning.{bind}
use Rattle.tpw_occam_scoped.specs.Meaning.{value_of}
use Rattle.tpw_occam_scoped.proofs.expression.Expression.binary.Goals as goal

pub returns : goal.returns
returns c = λ i s.
    bind (value_of (c.in_ok-new.ensures.ok i) s)
    (λ b. bind (value_of (c.in_ok-new-2.ensures.ok i) s) (applied c.args.operator b))
