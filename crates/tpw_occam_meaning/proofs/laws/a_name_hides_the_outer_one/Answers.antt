use Rattle.tpw_occam_meaning.proofs.Finding.{first_found}
use Rattle.tpw_occam_meaning.proofs.laws.a_name_hides_the_outer_one.Goals as goal

pub returns : goal.returns
returns c = first_found
