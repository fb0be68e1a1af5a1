use Rattle.std.proofs.Common.{true, refl}
use Rattle.tp_accept.proofs.NeverWrong.{never_goes_wrong_of}
use Rattle.tp_farm.specs.Jobs.{value_of_job}
use Rattle.tp_farm.proofs.Promising.{loses_long_traces}
use Rattle.tp_farm.proofs.laws.long_traces_alone_are_lost.Goals as goal

pub returns : goal.returns
returns c = λ before after entries take b.
    let accepted = c.args.job.now.image.now in
    loses_long_traces (value_of_job c.args.job.now) accepted.budget
    (never_goes_wrong_of accepted.image accepted.budget accepted.acceptable) true before after entries b refl take
