use Rattle.tp_requests.proofs.SpellingLemmas.{count_of}
use Rattle.tp_requests.proofs.spelled.Spelled.count.Goals as goal

pub returns : goal.returns
returns c = count_of c.args.self.now.digits.now c.args.self.now.spells
