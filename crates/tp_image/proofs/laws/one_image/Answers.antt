use Rattle.tp_image.proofs.Unique.{one_image}
use Rattle.tp_image.proofs.laws.one_image.Goals as goal

pub returns : goal.returns
returns c = one_image
