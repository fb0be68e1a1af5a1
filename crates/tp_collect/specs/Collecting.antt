-- What a collector does with what it is given.
use Rattle.std.specs.Prelude.{ℕ, Bool, true, false, ◌==◌, if◌then◌else◌, List, Option, Some, None, Result, Ok, Err}
use Rattle.std.specs.Prelude.{slice_get, slice_set}
use Rattle.tp_link.specs.declared.links.LinkFault.{LinkFault}
use Rattle.tp_collect.specs.declared.collected.Entry.{Entry}
use Rattle.tp_collect.specs.declared.collected.Entry.TheVariants as entry
use Rattle.tp_collect.specs.declared.collected.LostCause.TheVariants as cause
use Rattle.tp_collect.specs.declared.fault.PutFault.{PutFault}
use Rattle.tp_collect.specs.declared.fault.PutFault.TheVariants.{Filed, NoPacket, OtherBatch}
use Rattle.tp_collect.specs.DoneValue.{DoneValue}
use Rattle.tp_collect.specs.Collected.{JobValue}

-- a collector: the batch, and the entries so far
pub record Collection : Type 0 where
  pub batch : JobValue
  pub entries : List Entry

abbrev pub collection : JobValue → List Entry → Collection
collection batch entries = record { batch = batch; entries = entries }

-- the entry where nothing is filed
abbrev pub vacant : Entry
vacant = entry.Lost cause.Stopped

abbrev pub is_vacant : Entry → Bool
is_vacant (entry.Done done) = false
is_vacant (entry.Lost (cause.Link fault)) = false
is_vacant (entry.Lost cause.Stopped) = true

-- what a device's refusal leaves
abbrev pub loss_by : LinkFault → Entry
loss_by fault = entry.Lost (cause.Link fault)

-- why nothing may be filed over this entry
abbrev pub place_fault : Option Entry → Option PutFault
place_fault None = Some NoPacket
place_fault (Some e) = if is_vacant e then None else Some Filed

-- C2, then C1: why nothing may be filed under a number
abbrev pub number_fault : List Entry → ℕ → Option PutFault
number_fault entries number = place_fault (slice_get entries number)

-- C3 before these: why a result may not be filed
abbrev pub put_fault : Collection → DoneValue → Option PutFault
put_fault c done = if done.batch == c.batch.number then number_fault c.entries done.packet else Some OtherBatch

-- an entry is filed under a number, where no fault forbids it
abbrev pub collection_with : ℕ → Entry → Option PutFault → Collection → Collection
collection_with number e None c = record c { entries = slice_set c.entries number e }
collection_with number e (Some fault) c = c

-- a refused result is handed back
abbrev pub put_answer : DoneValue → Option PutFault → Result (Unit {0}) (PutFault × DoneValue)
put_answer done None = Ok tt
put_answer done (Some fault) = Err (fault, done)

abbrev pub lose_answer : Option PutFault → Result (Unit {0}) PutFault
lose_answer None = Ok tt
lose_answer (Some fault) = Err fault
