-- How members end.
use Rattle.std.proofs.Common.{◌≡◌, Some}
use Rattle.tp_farm.specs.declared.member.End.{End}
use Rattle.tp_farm.specs.declared.member.End.TheVariants as end
use Rattle.tp_farm.specs.declared.fault.FarmFault.{FarmFault}
use Rattle.tp_farm.specs.declared.fault.FarmFault.TheVariants as fault
use Rattle.tp_farm.specs.Refused.{IsEnvironmental}
use Rattle.tp_farm.specs.Gathering.{fault_of_end}

-- the fault of a member is one of the batch
pub fault_reason : (e : End) (f : FarmFault) → fault_of_end e ≡ Some f → IsEnvironmental f
fault_reason end.Drained f is = cc
fault_reason end.Stopped f is = cc
fault_reason end.Memory fault.Memory is = tt
fault_reason end.Memory f is = cc
