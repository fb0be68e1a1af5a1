-- What the code does that writes words, and copies and clears them.
use Rattle.std.specs.Prelude.{◌≡◌, ℕ, ◌+◌, ◌*◌, ◌≤◌, ◌<◌, false, List, slice_index}
use Rattle.tpw_occam_symbolic.specs.declared.items.Item.{Item}
use Rattle.tpw_occam_symbolic.specs.declared.items.Item.TheVariants.{Array, Zeros}
use Rattle.tpw_occam_symbolic.specs.declared.code.Step.{Step}
use Rattle.tpw_occam_symbolic.specs.declared.code.Step.TheVariants.{Pointer}
use Rattle.tpw_occam_symbolic.specs.Code.{Lines}
use Rattle.tpw_occam_symbolic.specs.Blocks.{Blocks, is_item, with_bytes, bytes_at}
use Rattle.tpw_occam_symbolic.specs.Symbolic.{Machine}
use Rattle.tpw_occam_symbolic.specs.Leading.{Does, Serves, HasConstants, HasStep, word_bytes}
use Rattle.tpw_occam_symbolic.specs.Leading.{cleared_bytes}

-- an item has this many bytes where code has a step that items serve
abbrev pub Provides : List ℕ → Machine → Step → Item → ℕ → Type 0
Provides arrays m made item bytes = HasStep m made → Serves arrays m.sizes made → bytes ≤ m.sizes item

-- memory is written to, and nothing else is changed but registers
pub record Writes (f : Blocks → Blocks) (m end : Machine) : Type 0 where
  pub blocks : end.blocks ≡ f m.blocks
  pub error : end.error ≡ m.error
  pub to_come : end.to_come ≡ m.to_come
  pub sent : end.sent ≡ m.sent
  pub traced : end.traced ≡ m.traced

-- the lines copy this many bytes of an item to the words of another from one on
abbrev pub Moves : (old new : Lines) (source target : Item) (word bytes : ℕ) → Type 0
Moves old new source target word bytes =
    (arrays : List ℕ) → Does arrays old new
    (λ m. HasConstants m × Provides arrays m (Pointer source 0) source bytes
    × Provides arrays m (Pointer target word) target (4 * word + bytes))
    (λ m end. Writes (with_bytes target (4 * word) (bytes_at m.blocks source 0 bytes)) m end)

-- the first bytes of an array are 0, and other items are as they were
pub record HasCleared (a bytes : ℕ) (m end : Machine) : Type 0 where
  pub zero : (i : ℕ) → i < bytes → end.blocks (Array a) i ≡ 0
  pub others : (item : Item) (i : ℕ) → is_item (Array a) item ≡ false → end.blocks item i ≡ m.blocks item i
  pub error : end.error ≡ m.error
  pub to_come : end.to_come ≡ m.to_come
  pub sent : end.sent ≡ m.sent
  pub traced : end.traced ≡ m.traced

-- the lines make this many words of an array 0, which has at least as many as are to be cleared
abbrev pub ClearsWords : (old new : Lines) (a words done : ℕ) → Type 0
ClearsWords old new a words done =
    (arrays : List ℕ) → 4 * words ≤ word_bytes (slice_index arrays a) → Does arrays old new
    (λ m. HasConstants m × ((i : ℕ) → m.blocks Zeros i ≡ 0)
    × Provides arrays m (Pointer Zeros 0) Zeros (cleared_bytes (4 * words)))
    (HasCleared a (4 * done))
