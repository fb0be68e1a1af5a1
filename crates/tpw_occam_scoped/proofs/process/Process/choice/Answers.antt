use Rattle.std.specs.Prelude.{Some}
use Rattle.tpw_occam_meaning.specs.States.{flagged, chosen}
use Rattle.tpw_occam_scoped.specs.Made.{effect_of}
use Rattle.tpw_occam_scoped.specs.Meaning.{run}
use Rattle.tpw_occam_scoped.proofs.process.Process.choice.Goals as goal

pub returns : goal.returns
unfolding effect_of
returns c = λ i. Some (λ s.
    chosen (c.in_ok-expression.ensures i s).word (run (c.in_ok-new.ensures.ok i)) (run (c.in_ok-new-2.ensures.ok i))
    (flagged (c.in_ok-expression.ensures i s).flag s))
