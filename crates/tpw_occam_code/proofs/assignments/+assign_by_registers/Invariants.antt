use Rattle.std.proofs.Common.{length}
use Rattle.tpw_occam_code.proofs.assignments.+assign_by_registers.Given as goal

abbrev pub decreases-assign_by_registers : goal.decreases-assign_by_registers
decreases-assign_by_registers l = length l.all.now
