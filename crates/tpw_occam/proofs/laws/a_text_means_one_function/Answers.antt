use Rattle.tpw_occam_reading_laws.proofs.OneMeaning.{one_meaning_of_text}
use Rattle.tpw_occam.proofs.laws.a_text_means_one_function.Goals as goal

pub returns : goal.returns
returns c text f g a b = one_meaning_of_text text a.tree b.tree f g a.written b.written a.means b.means
