-- What is printed of a refusal.
use Rattle.std.specs.Prelude.{ℕ, List, codes}
use Rattle.tp_collect.specs.declared.fault.PutFault.{PutFault}
use Rattle.tp_collect.specs.declared.fault.PutFault.TheVariants.{Filed, NoPacket, OtherBatch}

abbrev pub put_fault_text : PutFault → List ℕ
put_fault_text Filed = codes "C1: the number has an entry"
put_fault_text NoPacket = codes "C2: no packet has the number"
put_fault_text OtherBatch = codes "C3: another batch"
