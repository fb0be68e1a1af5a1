-- What batches give of texts that have a meaning.
use Rattle.std.specs.Prelude.{◌≡◌, ℕ, List, Option, Some, slice_get}
use Rattle.tp_collect.specs.declared.collected.Entry.{Entry}
use Rattle.tp_collect.specs.declared.collected.Entry.TheVariants as entry
use Rattle.tp_collect.specs.DoneValue.{DoneValue}
use Rattle.tp_collect.specs.Collected.{JobValue}
use Rattle.tpw_occam_core.specs.Meaning.{Meant}

-- each result that was collected is what is meant by its packet
abbrev pub AreMeant : (List ℕ → Option Meant) → JobValue → List Entry → Type 0
AreMeant meaning batch entries =
    (i : ℕ) (done : DoneValue) (packet : List ℕ) → slice_get entries i ≡ Some (entry.Done done)
    → slice_get batch.packets i ≡ Some packet
    → meaning packet ≡ Some (record { result = done.result; flag = done.error; traced = done.trace })
