use Rattle.tpw_text_laws.proofs.Images.{image_may}
use Rattle.tpw_text_laws.proofs.laws.program_with_an_image_may_be_written.Goals as goal

pub returns : goal.returns
returns c = image_may
