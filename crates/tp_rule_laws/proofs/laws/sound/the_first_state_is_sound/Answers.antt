use Rattle.tp_rule_laws.proofs.SoundJoins.{entry_sound}
use Rattle.tp_rule_laws.proofs.laws.sound.the_first_state_is_sound.Goals as goal

pub returns : goal.returns
returns c = entry_sound
