use Rattle.tpw_occam_meaning.proofs.Finding.{further_found}
use Rattle.tpw_occam_meaning.proofs.laws.a_name_hides_no_other.Goals as goal

pub returns : goal.returns
returns c = further_found
