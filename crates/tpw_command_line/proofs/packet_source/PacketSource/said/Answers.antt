use Rattle.std.proofs.Common.{map, string_bytes, slice_get, Some, ap, ◌∙◌}
use Rattle.tpw_command_line.specs.Asked.{InWords, words_said}
use Rattle.tpw_command_line.proofs.Origins.{said_at, said_none}
use Rattle.tpw_command_line.proofs.packet_source.PacketSource.said.Goals as goal

pub returns-in-Some : goal.returns-in-Some
returns-in-Some c =
    let n = c.args.number in
    ap (λ t. Some (InWords t)) c.as_str.ensures.value
    ∙ said_at (λ w. string_bytes w) c.deref.result.now n c.in-Some.words.now c.in-Some.ensures.lookup.3.0 c.in-Some.ensures.lookup.1
    ∙ ap (λ l. slice_get (words_said (map (λ w. string_bytes w) l)) n) c.deref.ensures.value

pub returns-in-None : goal.returns-in-None
returns-in-None c =
    let n = c.args.number in
    said_none (λ w. string_bytes w) c.deref.result.now n c.in-None.ensures.lookup.3
    ∙ ap (λ l. slice_get (words_said (map (λ w. string_bytes w) l)) n) c.deref.ensures.value
