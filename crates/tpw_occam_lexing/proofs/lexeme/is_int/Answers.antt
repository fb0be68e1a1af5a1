use Rattle.std.proofs.Common.{◌∙◌, sym}
use Rattle.tpw_occam_lexing.proofs.Cuts.{big}
use Rattle.tpw_occam_lexing.proofs.lexeme.is_int.Goals as goal

pub returns-then-number-ge-BEYOND : goal.returns-then-number-ge-BEYOND
returns-then-number-ge-BEYOND c = sym (c.loop-digit.invariant ∙ big c.loop-digit.number _ c.if-number-ge-BEYOND.true)
