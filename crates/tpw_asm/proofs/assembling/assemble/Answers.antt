use Rattle.tpw_asm.proofs.AssemblyLemmas.{assembly_only}
use Rattle.tpw_asm.proofs.assembling.assemble.Goals as goal

pub returns-clause-only : goal.returns-clause-only
returns-clause-only c = assembly_only c.args.program.now c.assembly_of.result c.assembly_of.ensures.image c.assembly_of.ensures.refused
