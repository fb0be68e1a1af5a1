use Rattle.tpw_text_laws.proofs.Disassembled.{disassembled_back}
use Rattle.tpw_text_laws.proofs.laws.disassembled_image_is_read_back.Goals as goal

pub returns : goal.returns
returns c = disassembled_back
