use Rattle.std.proofs.Common.{◌≡◌, map, take}
use Rattle.tpw_asm.specs.Labelling.{loop_of}
use Rattle.tpw_asm.proofs.labelling.loops_of.Given as goal

-- the loops so far
abbrev pub invariant-loop-row : goal.invariant-loop-row
invariant-loop-row l = l.loops.items ≡ map (loop_of l.addresses) (take l.row-index l.rows)
