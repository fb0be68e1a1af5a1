-- What a check gives: notes, or faults.
use Rattle.std.specs.Prelude.{◌≤◌, ℕ, List, Result, Ok, Err, All, length}
use Rattle.tpw_occam_terms.specs.Places.{LiesIn}
use Rattle.tpw_occam_faults.specs.Order.{AreFaultsInOrder, AreNotesInOrder}
use Rattle.tpw_occam_faults.specs.declared.fault.Fault.{Fault}
use Rattle.tpw_occam_faults.specs.declared.note.Note.{Note}
use Rattle.tpw_occam_checking.specs.declared.whole.CheckError.{CheckError}
use Rattle.tpw_occam_checking.specs.declared.whole.CheckError.TheVariants.{Faults, Memory}
use Rattle.std.specs.declared.vec.Vec.{Vec}
use Rattle.std.specs.declared.alloc.Global.{Global}

-- notes whose places lie in the text, in their order
pub record AreNotes (text : List ℕ) (notes : List Note) : Type 0 where
  pub placed : All (λ n. LiesIn text n.span) notes
  pub ordered : AreNotesInOrder notes

-- one to twenty faults whose places lie in the text, in their order
pub record AreFaults (text : List ℕ) (faults : List Fault) : Type 0 where
  pub some : 1 ≤ length faults
  pub few : length faults ≤ 20
  pub placed : All (λ f. LiesIn text f.span) faults
  pub ordered : AreFaultsInOrder faults

abbrev pub IsChecked : List ℕ → Result (Vec Note Global) CheckError → Type 0
IsChecked text (Ok notes) = AreNotes text notes.items
IsChecked text (Err (Faults faults)) = AreFaults text faults.items
IsChecked text (Err Memory) = Unit {0}
