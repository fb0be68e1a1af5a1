use Rattle.tp_requests.proofs.LineLemmas.{one_request}
use Rattle.tp_requests.proofs.laws.one_line_asks_for_one_thing.Goals as goal

pub returns : goal.returns
returns c = one_request
