use Rattle.std.proofs.Common.{◌≡◌, ◌++◌, drop}
use Rattle.tpw_asm.specs.Labelling.{labelled_from}
use Rattle.tpw_asm.proofs.labelling.labelled_lines.Given as goal

-- the lines so far, and those that are left
abbrev pub invariant-loop-number : goal.invariant-loop-number
invariant-loop-number l = l.all.items ++ labelled_from l.addresses l.number (drop l.number l.lines) ≡ labelled_from l.addresses 0 l.lines
