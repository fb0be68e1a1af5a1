use Rattle.std.proofs.Common.{◌≡◌, drop}
use Rattle.tpw_asm.specs.Faults.{first_narrow}
use Rattle.tpw_asm.proofs.placing.check_lengths.Given as goal

-- the first such line is that of the lines that are left
abbrev pub invariant-loop-number : goal.invariant-loop-number
invariant-loop-number l = first_narrow l.number (drop l.number l.lines) (drop l.number l.lengths) ≡ first_narrow 0 l.lines l.lengths
