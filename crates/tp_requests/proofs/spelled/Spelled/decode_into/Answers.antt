use Rattle.std.proofs.Common.{length, sym, ◌∙◌}
use Rattle.tp_requests.proofs.SpellingLemmas.{decoded_whole}
use Rattle.tp_requests.proofs.spelled.Spelled.decode_into.Goals as goal

pub returns : goal.returns
returns c =
    let whole = decoded_whole c.args.self.now.digits.now (length c.args.bytes.now) c.args.self.now.spells c.requires in
    (rw whole at c.decode_to_slice.ensures.value).1

pub unreachable-requires : goal.unreachable-requires
unreachable-requires c =
    let whole = decoded_whole c.args.self.now.digits.now (length c.args.bytes.now) c.args.self.now.spells c.requires in
    let is = rw whole at c.decode_to_slice.ensures.value in
    cc (sym is.0 ∙ c.in-Err.is)
