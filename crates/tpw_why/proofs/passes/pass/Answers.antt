use Rattle.std.proofs.Common.{◌<◌, length, arith}
use Rattle.tp_check.specs.Tables.{table_of}
use Rattle.tpw_why.proofs.Passing.{one_on, refused_in, read_any, is_refused, moves_on}
use Rattle.tpw_why.proofs.passes.pass.Goals as goal

pub returns-in-Err-Refused-clause-ends : goal.returns-in-Err-Refused-clause-ends
returns-in-Err-Refused-clause-ends c =
    let inside : c.loop-instruction.instruction-index < length c.args.asked.now = omega (arith, c.loop-instruction-test.true, c.loop-instruction.auto.instruction-index-end) in
    rw (c.in-Err-Refused.code-is, c.in-Err-Refused.place-is)
    (refused_in c.args.image.now c.args.asked.now c.loop-instruction.instruction-index _ (table_of c.args.table.now)
    c.loop-instruction.table c.take.new.table c.in-Err-Refused.ensures.stays inside
    (read_any c.args.asked.now c.loop-instruction.instruction-index _ inside) c.loop-instruction.invariant.arrives
    (is_refused c.in-Err-Refused.field-0 c.in-Err-Refused.code c.in-Err-Refused.place (table_of c.take.new.table) _ c.in-Err-Refused.field-0-is c.in-Err-Refused.ensures.gives))

pub loop-instruction-preserved : goal.loop-instruction-preserved
loop-instruction-preserved c = record {
  placed = c.in-Ok.ensures.placed;
  moves = moves_on c.args.image.now c.loop-instruction.is_changed c.in-Ok.changed c.args.table.now c.loop-instruction.table c.take.new.table c.loop-instruction.invariant.moves c.in-Ok.ensures.moves;
  arrives = one_on c.args.image.now c.args.asked.now c.loop-instruction.instruction-index _ (table_of c.args.table.now)
      (table_of c.loop-instruction.table) (table_of c.take.new.table) inside
      (read_any c.args.asked.now c.loop-instruction.instruction-index _ inside) c.loop-instruction.invariant.arrives
      c.in-Ok.ensures.gives;
}
  where
    inside : c.loop-instruction.instruction-index < length c.args.asked.now
    inside = omega (arith, c.loop-instruction-test.true, c.loop-instruction.auto.instruction-index-end)
