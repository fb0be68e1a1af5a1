use Rattle.std.proofs.Common.{◌≡◌, ◌++◌, length, drop, None}
use Rattle.std.specs.List.{concat}
use Rattle.tpw_asm.specs.Layout.{spelled_from}
use Rattle.tpw_asm.specs.Faults.{first_fault}
use Rattle.tpw_asm.proofs.layout.code_of.Given as goal

-- the code so far, and that of the lines that are left
abbrev pub invariant-loop-number : goal.invariant-loop-number
invariant-loop-number l = record {
  all : l.code.items ++ concat (spelled_from l.addresses l.number (drop l.number l.lines)) ≡ concat (spelled_from l.addresses 0 l.lines);
  sound : first_fault (length l.lines) l.number (drop l.number l.lines) ≡ None;
}
