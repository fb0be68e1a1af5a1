use Rattle.std.proofs.Common.{◌≡◌, length, drop}
use Rattle.tpw_asm.specs.Faults.{first_fault}
use Rattle.tpw_asm.proofs.placing.check_lines.Given as goal

-- the first fault is that of the lines that are left
abbrev pub invariant-loop-number : goal.invariant-loop-number
invariant-loop-number l = first_fault (length l.lines) l.number (drop l.number l.lines) ≡ first_fault (length l.lines) 0 l.lines
