use Rattle.std.specs.Prelude.{Some}
use Rattle.tpw_occam_meaning.specs.States.{stored}
use Rattle.tpw_occam_scoped.specs.Made.{effect_of}
use Rattle.tpw_occam_scoped.specs.Meaning.{run}
use Rattle.tpw_occam_scoped.proofs.process.Process.value.Goals as goal

pub returns : goal.returns
unfolding effect_of
returns c = λ i. Some (λ s. run (c.in_ok-new.ensures.ok i) (stored c.args.cell (c.in_ok-expression.ensures i s) s))
