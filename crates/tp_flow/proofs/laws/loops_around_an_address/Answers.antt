use Rattle.std.proofs.Common.{arith}
use Rattle.tp_flow.specs.NestRanges.{ranges}
use Rattle.tp_flow.proofs.RowNumbers.{length_numbers}
use Rattle.tp_flow.proofs.laws.loops_around_an_address.Goals as goal

pub returns-clause-few : goal.returns-clause-few
returns-clause-few c = λ rows workspace cuts kept at. omega (arith, length_numbers (ranges rows) at, kept.shallow at)
