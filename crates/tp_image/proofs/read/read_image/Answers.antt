use Rattle.tp_image.proofs.Faulty.{first_fault-header, none_refused, image_not_refused}
use Rattle.tp_image.proofs.Unique.{one_image}
use Rattle.tp_image.proofs.read.read_image.Goals as goal

pub returns-in_err-header-clause-read : goal.returns-in_err-header-clause-read
returns-in_err-header-clause-read c = λ image t. absurd (image_not_refused c.args.bytes.now image _ t c.in_err-header.ensures)

pub returns-in_err-image_of-clause-refused : goal.returns-in_err-image_of-clause-refused
returns-in_err-image_of-clause-refused c = none_refused _ _ (first_fault-header _ _ c.in_ok-header.ensures)

pub returns-clause-read : goal.returns-clause-read
returns-clause-read c = λ image t. one_image _ _ _ c.in_ok-image_of.ensures t

pub returns-clause-refused : goal.returns-clause-refused
returns-clause-refused c = none_refused _ _ (first_fault-header _ _ c.in_ok-header.ensures)
