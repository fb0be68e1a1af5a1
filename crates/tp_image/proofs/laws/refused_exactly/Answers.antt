use Rattle.tp_image.proofs.Bodies.{first_fault-text}
use Rattle.tp_image.proofs.Readable.{image_found}
use Rattle.tp_image.proofs.laws.refused_exactly.Goals as goal

pub returns : goal.returns
returns c = λ bytes fits. (image_found bytes fits, λ found. first_fault-text bytes found.0 found.1)
