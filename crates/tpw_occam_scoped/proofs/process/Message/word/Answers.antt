use Rattle.std.specs.Int.{w32, to_le_bytes}
use Rattle.tpw_occam_scoped.proofs.process.Message.word.Goals as goal

pub returns : goal.returns
returns c = λ i. record {
  bytes = λ s. to_le_bytes w32 (c.in_ok-expression.ensures i s).word;
  flag = λ s. (c.in_ok-expression.ensures i s).flag;
}
