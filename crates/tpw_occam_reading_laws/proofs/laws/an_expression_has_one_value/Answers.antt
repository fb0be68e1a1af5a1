use Rattle.tpw_occam_reading_laws.proofs.OneValue.{one_value}
use Rattle.tpw_occam_reading_laws.proofs.laws.an_expression_has_one_value.Goals as goal

pub returns : goal.returns
returns c = one_value
