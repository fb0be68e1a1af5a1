use Rattle.tpw_occam_reading_laws.proofs.OneMeaning.{one_meaning, one_meaning_of_text}
use Rattle.tpw_occam_reading_laws.proofs.laws.a_text_has_one_meaning.Goals as goal

pub returns : goal.returns
returns c = record { trees = one_meaning; text = one_meaning_of_text }
