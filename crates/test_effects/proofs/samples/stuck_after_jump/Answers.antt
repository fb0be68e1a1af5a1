use Rattle.std.proofs.Common.{[], ◌∷◌, refl}
use Rattle.std.specs.Prelude.{unwrap_or}
use Rattle.tp_step.specs.Steps.{steps}
use Rattle.tp_step.specs.Runs.{start}
use Rattle.test_effects.specs.Samples.{reads_after_jump}
use Rattle.test_effects.proofs.Computing.{by_steps}
use Rattle.test_effects.proofs.samples.stuck_after_jump.Goals as goal

pub returns : goal.returns
unfolding by_steps
returns c a b c' d =
    let first = start reads_after_jump (a ∷ b ∷ c' ∷ d ∷ []) in
    record {
      state = unwrap_or (steps reads_after_jump 8 first) first;
      way = record { count = 8; leads = refl };
      stuck = record { running = refl; no_step = refl };
      place = refl;
    }
