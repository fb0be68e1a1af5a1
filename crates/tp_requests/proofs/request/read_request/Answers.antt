use Rattle.std.specs.Option.{option_map}
use Rattle.tp_requests.specs.Requests.{asked}
use Rattle.tp_requests.proofs.LineLemmas.{known, asks_for_none}
use Rattle.tp_requests.proofs.request.read_request.Goals as goal

pub returns-in-Some : goal.returns-in-Some
returns-in-Some c =
    known (option_map asked) c.args.line.now c.in-Some.first.now c.in-Some.words.now c.in-Some.ensures c.of_parts.result c.of_parts.ensures

pub returns-in-None : goal.returns-in-None
returns-in-None c = asks_for_none c.args.line.now c.in-None.ensures
