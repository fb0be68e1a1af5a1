use Rattle.tp_rule_laws.proofs.Rules.{after_sound}
use Rattle.tp_rule_laws.proofs.laws.sound.what_follows_is_sound.Goals as goal

pub returns : goal.returns
returns c = after_sound
