use Rattle.std.specs.Option.{option_map}
use Rattle.tp_requests.specs.Requests.{asked}
use Rattle.tp_requests.proofs.LineLemmas.{known_name}
use Rattle.tp_requests.proofs.request.of_parts.Goals as goal

pub returns-in-Some-name_of : goal.returns-in-Some-name_of
returns-in-Some-name_of c =
    known_name (λ name. name.items) (option_map asked) c.args.first.now c.args.words.now c.name_of.result c.in-Some-name_of.name c.name_of.ensures
    c.in-Some-name_of.is c.of_name.result c.of_name.ensures
