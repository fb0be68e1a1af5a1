use Rattle.tpw_occam_terms.proofs.Spelled.{one_thing}
use Rattle.tpw_occam_terms.proofs.laws.texts_spell_one_thing.Goals as goal

pub returns : goal.returns
returns c = one_thing
