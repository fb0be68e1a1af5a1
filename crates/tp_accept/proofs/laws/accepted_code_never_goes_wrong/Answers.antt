use Rattle.tp_accept.proofs.NeverWrong.{never_goes_wrong_of}
use Rattle.tp_accept.proofs.laws.accepted_code_never_goes_wrong.Goals as goal

pub returns : goal.returns
returns c = never_goes_wrong_of c.args.accepted.now.image c.args.accepted.now.budget c.args.accepted.now.acceptable
