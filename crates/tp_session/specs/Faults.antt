-- What is printed of a fault of serving.
use Rattle.std.specs.Prelude.{ℕ, List, codes}
use Rattle.tp_session.specs.declared.fault.ServeFault.{ServeFault}
use Rattle.tp_session.specs.declared.fault.ServeFault.TheVariants.{Read, Write, Memory, Thread}

abbrev pub fault_text : ServeFault → List ℕ
fault_text Read = codes "read"
fault_text Write = codes "write"
fault_text Memory = codes "memory"
fault_text Thread = codes "thread"
