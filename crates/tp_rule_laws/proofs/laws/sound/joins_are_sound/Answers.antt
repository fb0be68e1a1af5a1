use Rattle.tp_rule_laws.proofs.SoundJoins.{join_sound}
use Rattle.tp_rule_laws.proofs.laws.sound.joins_are_sound.Goals as goal

pub returns : goal.returns
returns c = join_sound
