use Rattle.tp_accept.proofs.NeverWrong.{never_goes_wrong}
use Rattle.tp_accept.proofs.laws.acceptable_code_never_goes_wrong.Goals as goal

pub returns : goal.returns
returns c = never_goes_wrong
