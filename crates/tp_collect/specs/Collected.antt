-- A collected batch: one entry for each packet, in order.
use Rattle.std.specs.Prelude.{◌≡◌, ℕ, List, length, Some, slice_get}
use Rattle.tp_image.specs.Image.{ImageValue}
use Rattle.tp_collect.specs.declared.collected.Entry.{Entry}
use Rattle.tp_collect.specs.declared.collected.Entry.TheVariants as entry
use Rattle.tp_collect.specs.DoneValue.{DoneValue, IsAlone}

-- a job: the number of its batch, the image, and the bytes of each packet
pub record JobValue : Type 0 where
  pub number : ℕ
  pub image : ImageValue
  pub packets : List (List ℕ)

abbrev pub job_of_parts : ℕ → ImageValue → List (List ℕ) → JobValue
job_of_parts number image packets = record { number = number; image = image; packets = packets }

-- the result names the batch's image, and its own packet of the batch
pub record Names (batch : JobValue) (done : DoneValue) : Type 0 where
  pub image : done.image ≡ batch.image
  pub packet : slice_get batch.packets done.packet ≡ Some done.bytes

-- the result of packet i of the batch: what the run of the image on that packet alone gives
pub record IsResult (batch : JobValue) (i : ℕ) (done : DoneValue) : Type 0 where
  pub of : done.batch ≡ batch.number
  pub number : done.packet ≡ i
  pub names : Names batch done
  pub alone : IsAlone done

abbrev pub IsEntry : JobValue → ℕ → Entry → Type 0
IsEntry batch i (entry.Done done) = IsResult batch i done
IsEntry batch i (entry.Lost cause) = Unit {0}

-- one entry for each packet, in order
pub record IsCollected (batch : JobValue) (entries : List Entry) : Type 0 where
  pub count : length entries ≡ length batch.packets
  pub each : (i : ℕ) (e : Entry) → slice_get entries i ≡ Some e → IsEntry batch i e
