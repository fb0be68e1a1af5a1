use Rattle.std.proofs.Common.{ap, ◌∙◌}
use Rattle.tpw_occam_core.specs.Meaning.{bind}
use Rattle.tpw_occam_meaning.specs.States.{with_cell}
use Rattle.tpw_occam_meaning.specs.Values.{Varying}
use Rattle.tpw_occam_scoped.proofs.value.within.Goals as goal

pub returns : goal.returns
returns c =
    ap Varying c.in_ok-within.ensures
    ∙ (λ i. Varying (λ s.
    bind (c.in_ok-value.ensures i s) (λ a. c.in_ok-rest.ensures i (with_cell c.args.cell a s))))
