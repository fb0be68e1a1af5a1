use Rattle.std.proofs.Common.{refl}
use Rattle.tp_image.specs.Text.{text}
use Rattle.tp_image.proofs.Bodies.{first_fault-text}
use Rattle.tp_image.proofs.Unique.{one_image}
use Rattle.tp_image.proofs.laws.written_is_read.Goals as goal

pub returns : goal.returns
returns c = record {
  passes = λ image in_range. first_fault-text (text image) image (in_range, refl);
  same = λ image read in_range is_read. one_image (text image) read image is_read (in_range, refl);
}
