use Rattle.std.proofs.Common.{length}
use Rattle.tpw_occam_code.proofs.assignments.+fit_in_registers.Given as goal

abbrev pub decreases-fit_in_registers : goal.decreases-fit_in_registers
decreases-fit_in_registers l = length l.all.now
