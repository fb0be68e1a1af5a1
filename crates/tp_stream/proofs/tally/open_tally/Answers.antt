use Rattle.std.proofs.Common.{arith}
use Rattle.tp_stream.proofs.Tallies.{opens}
use Rattle.tp_stream.proofs.tally.open_tally.Goals as goal

pub of_words-requires : goal.of_words-requires
of_words-requires c =
    let a = c.from.ensures in let b = c.from-2.ensures in opens (Unit {0}) c.from.result c.from-2.result (omega arith)
