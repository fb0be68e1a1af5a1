-- How what members file becomes the entries of a batch.
use Rattle.std.specs.Prelude.{◌≡◌, ℕ, List, [], ◌∷◌, ◌++◌, length, replicate, Some, None, Option, slice_get, slice_set}
use Rattle.tp_collect.specs.declared.collected.Entry.{Entry}
use Rattle.tp_collect.specs.declared.collected.Entry.TheVariants as entry
use Rattle.tp_collect.specs.Collected.{JobValue, IsResult}
use Rattle.tp_collect.specs.Collecting.{Collection, collection, vacant, loss_by}
use Rattle.tp_farm.specs.declared.member.Filed.{Filed}
use Rattle.tp_farm.specs.declared.member.Filed.TheVariants as filed
use Rattle.tp_farm.specs.declared.member.End.{End}
use Rattle.tp_farm.specs.declared.member.End.TheVariants as end
use Rattle.tp_farm.specs.declared.fault.FarmFault.{FarmFault}
use Rattle.tp_farm.specs.declared.fault.FarmFault.TheVariants as fault

-- the number under which it is filed, and the entry
abbrev pub number_of : Filed → ℕ
number_of (filed.Done done) = done.packet
number_of (filed.Lost number fault) = number

abbrev pub entry_of : Filed → Entry
entry_of (filed.Done done) = entry.Done done
entry_of (filed.Lost number fault) = loss_by fault

-- a result is one of the batch
abbrev pub IsOfBatch : JobValue → Filed → Type 0
IsOfBatch batch (filed.Done done) = IsResult batch done.packet done
IsOfBatch batch (filed.Lost number fault) = Unit {0}

-- a collector of a batch in which nothing is filed
abbrev pub empty_collection : JobValue → Collection
empty_collection batch = collection batch (replicate (length batch.packets) vacant)

-- the entries when all these are filed, one after another
abbrev pub entries_with : List Entry → List Filed → List Entry
entries_with entries [] = entries
entries_with entries (f ∷ more) = entries_with (slice_set entries (number_of f) (entry_of f)) more

-- each of these finds nothing filed under its number
abbrev pub FindVacant : List Entry → List Filed → Type 0
FindVacant entries [] = Unit {0}
FindVacant entries (f ∷ more) =
    (slice_get entries (number_of f) ≡ Some vacant) × FindVacant (slice_set entries (number_of f) (entry_of f)) more

-- what several members filed, one after another
abbrev pub all_filed : List (List Filed) → List Filed
all_filed [] = []
all_filed (these ∷ more) = these ++ all_filed more

-- the fault of a member that ended by one
abbrev pub fault_of_end : End → Option FarmFault
fault_of_end end.Drained = None
fault_of_end end.Stopped = None
fault_of_end end.Memory = Some fault.Memory
