use Rattle.std.proofs.Common.{◌≡◌, ◌++◌, length, map, drop, None}
use Rattle.tpw_asm.specs.Layout.{spelled_from}
use Rattle.tpw_asm.specs.Faults.{first_fault}
use Rattle.tpw_asm.proofs.layout.lengths_of.Given as goal

-- the lengths so far, and those of the lines that are left
abbrev pub invariant-loop-number : goal.invariant-loop-number
invariant-loop-number l = record {
  all : l.lengths.items ++ map length (spelled_from l.addresses l.number (drop l.number l.lines)) ≡ map length (spelled_from l.addresses 0 l.lines);
  sound : first_fault (length l.lines) l.number (drop l.number l.lines) ≡ None;
}
