use Rattle.std.proofs.Common.{◌≡◌, None, rules}
use Rattle.tp_image.specs.Text.{header_of}
use Rattle.tp_image.specs.Faults.{field_fault}
use Rattle.tp_image.specs.View.{image_said}
use Rattle.tp_image.proofs.Bodies.{in_range}
use Rattle.tp_image.proofs.image.Image.new.Goals as goal

pub invariant_of-result : goal.invariant_of-result
invariant_of-result c =
    let none : field_fault (header_of (image_said c.args.fields)) ≡ None = search rules in
    in_range (image_said c.args.fields) none c.requires.rows c.header.ensures.words c.header.ensures.bytes
