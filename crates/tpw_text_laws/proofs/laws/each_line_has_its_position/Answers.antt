use Rattle.tpw_text_laws.proofs.Positions.{has_positions}
use Rattle.tpw_text_laws.proofs.laws.each_line_has_its_position.Goals as goal

pub returns : goal.returns
returns c = has_positions
