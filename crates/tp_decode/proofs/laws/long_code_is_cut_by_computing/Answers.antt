use Rattle.std.proofs.Common.{refl}
use Rattle.tp_decode.specs.Table.{operation, instruction}
use Rattle.tp_decode.specs.Cutting.{spelled_instruction, cutting_from}
use Rattle.tp_prefix.specs.Spelling.{spelled}
use Rattle.tp_decode.proofs.laws.long_code_is_cut_by_computing.Goals as goal

pub returns : goal.returns
unfolding operation instruction spelled_instruction cutting_from spelled
returns c = refl
