use Rattle.tp_accept.specs.Verdict.{allowed}
use Rattle.tp_accept.proofs.Exact.{found_acceptable, may_be_run}
use Rattle.tp_accept.proofs.laws.exact.acceptable_images_alone_may_be_run.Goals as goal

pub returns : goal.returns
returns c = λ text image budget spelled. (λ is. (found_acceptable text image spelled (allowed image budget) is).1, may_be_run text image spelled budget)
