use Rattle.std.proofs.Common.{◌≡◌, drop}
use Rattle.tpw_asm.specs.Faults.{first_row}
use Rattle.tpw_asm.proofs.placing.check_rows.Given as goal

-- the first such loop is that of the loops that are left
abbrev pub invariant-loop-number : goal.invariant-loop-number
invariant-loop-number l = first_row l.count l.number (drop l.number l.loops) ≡ first_row l.count 0 l.loops
