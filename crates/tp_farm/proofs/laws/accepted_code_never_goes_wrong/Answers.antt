use Rattle.tp_accept.proofs.NeverWrong.{never_goes_wrong_of}
use Rattle.tp_farm.specs.Jobs.{value_of_job}
use Rattle.tp_farm.proofs.Promising.{keeps_promise}
use Rattle.tp_farm.proofs.laws.accepted_code_never_goes_wrong.Goals as goal

pub returns : goal.returns
returns c = λ opened before after entries b.
    let accepted = c.args.job.now.image.now in
    keeps_promise (value_of_job c.args.job.now) accepted.budget (never_goes_wrong_of accepted.image accepted.budget accepted.acceptable)
    opened before after entries b
