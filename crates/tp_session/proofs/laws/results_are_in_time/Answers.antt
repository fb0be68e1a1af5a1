use Rattle.tp_requests.specs.Lines.{lines_of}
use Rattle.tp_session.proofs.InTime.{served_in_time}
use Rattle.tp_session.proofs.laws.results_are_in_time.Goals as goal

pub returns : goal.returns
returns c trace input output is =
    served_in_time (λ text image budget spelled answer. (c.acceptable_images_alone_may_be_run.ensures text image budget spelled).0 answer)
    trace (lines_of input) output is
