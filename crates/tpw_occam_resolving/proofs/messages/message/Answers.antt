use Rattle.tpw_occam_names.specs.Scopes.{names_of, protocol_of}
use Rattle.std.proofs.Common.{ap}
use Rattle.tpw_occam_scoped.specs.Made.{value_made, message_made}
use Rattle.tpw_occam_resolving.proofs.Sending.{word_sent}
use Rattle.tpw_occam_resolving.proofs.messages.message.Goals as goal

pub returns-in_ok-word-in-OneWord-2 : goal.returns-in_ok-word-in-OneWord-2
returns-in_ok-word-in-OneWord-2 c =
    word_sent (protocol_of c.args.protocol) c.args.e.now (names_of c.args.scope.now) c.args.d
    (value_made c.in_ok-word-in-OneWord.word) (message_made c.in_ok-word-in-OneWord-2.field-0)
    (ap protocol_of c.in-OneWord.is) c.in_ok-word-in-OneWord.ensures c.in_ok-word-in-OneWord-2.ensures
