use Rattle.std.proofs.Common.{arith}
use Rattle.tpw_files.proofs.Positions.{behind_more, line_more, column_more}
use Rattle.tpw_files.proofs.fault.position_behind.Goals as goal

pub loop-byte-preserved : goal.loop-byte-preserved
loop-byte-preserved c =
    let line = line_more c.loop-byte.position _ _ c.behind-position.ensures in
    let column = column_more c.loop-byte.position _ _ c.behind-position.ensures in (
      behind_more record { line = 1; column = 1 } _ _ _ c.loop-byte.byte-index c.loop-byte-test.true c.loop-byte.invariant.0
          c.behind-position.ensures,
      omega (arith, line, c.loop-byte.invariant.1),
      omega (arith, column, c.loop-byte.invariant.2),
    )
