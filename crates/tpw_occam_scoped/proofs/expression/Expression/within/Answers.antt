use Rattle.tpw_occam_core.specs.Meaning.{bind}
use Rattle.tpw_occam_meaning.specs.States.{with_cell}
use Rattle.tpw_occam_scoped.specs.Meaning.{value_of}
use Rattle.tpw_occam_scoped.proofs.expression.Expression.within.Goals as goal

pub returns : goal.returns
returns c = λ i s.
    bind (value_of (c.in_ok-new.ensures.ok i) s)
    (λ a. value_of (c.in_ok-new-2.ensures.ok i) (with_cell c.args.cell a s))
