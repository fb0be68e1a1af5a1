-- What is sound, and how many bytes arrays have.
use Rattle.std.proofs.Common.{◌≡◌, ℕ, zero, suc, ◌*◌, ◌/◌, ◌%◌, ◌<◌, ◌^◌, Bool, true, false, List, [], ◌∷◌, length, map}
use Rattle.std.proofs.Common.{refl, subst, arith}
use Rattle.std.specs.Prelude.{slice_index, IsTrue, ◌&&◌, nat_lt, nat_le}
use Rattle.std.proofs.lemmas.Bool.{leb-true, eqb-true}
use Rattle.std.specs.List.{list_all, list_any}
use Rattle.tpw_occam_core.specs.declared.worker.Storage.{Storage}
use Rattle.tpw_occam_core.specs.declared.worker.Worker.{Worker}
use Rattle.tpw_occam_core.specs.declared.process.Message.TheVariants as message
use Rattle.tpw_occam_core.specs.Sound.{is_sound, is_sound_message, is_sound_place, is_sound_process, is_array, storage_of, are_declared, is_sized, globals, bytes_of as size_of}

pub and_first : (a b : Bool) → (a && b) ≡ true → a ≡ true
and_first true b e = refl
and_first false b e = e

pub and_second : (a b : Bool) → (a && b) ≡ true → b ≡ true
and_second true b e = e
and_second false b e = cc

-- ---- what is sound

pub sound_declared : (w : Worker) → IsTrue (is_sound w) → IsTrue (are_declared w)
sound_declared w sound = and_first (are_declared w) _ (and_first _ _ (and_first _ _ sound))

pub sound_message : (w : Worker) → IsTrue (is_sound w)
    → IsTrue (is_sound_message (length w.variables.items) w.arrays.items (globals w) w.send)
sound_message w sound =
    and_second
    (are_declared w && is_sound_place w w.receive && is_sound_process (length w.variables.items) w.arrays.items (globals w) w.body) _ sound

-- ---- arrays

-- arrays are short
pub declared_small : (w : Worker) (a : ℕ) → IsTrue (are_declared w) → slice_index (map size_of w.arrays.items) a < 2 ^ 32
declared_small w a declared = sized_small w.arrays.items a (and_first _ _ (and_first _ _ declared))
  where
    sized_small : (storages : List Storage) (a : ℕ) → IsTrue (list_all is_sized storages) → slice_index (map size_of storages) a < 2 ^ 32
    sized_small [] a sized = omega arith
    sized_small (one ∷ storages) zero sized = omega (
      arith,
      leb-true (size_of one) 2048
          (and_second _ _ (and_first (nat_lt 0 (size_of one) && nat_le (size_of one) 2048) _ (and_first (is_sized one) _ sized))),
    )
    sized_small (one ∷ storages) (suc a) sized = sized_small storages a (and_second (is_sized one) _ sized)

-- the size of an array that is a message
pub size_at : (storages : List Storage) (a : ℕ) → slice_index (map size_of storages) a ≡ size_of (storage_of storages a)
size_at [] a = refl
size_at (one ∷ storages) zero = refl
size_at (one ∷ storages) (suc a) = size_at storages a

pub result_size : (w : Worker) (a bytes : ℕ) → IsTrue (is_sound w) → w.send ≡ message.Array a
    → (slice_index (map size_of w.arrays.items) a < 2 ^ 32 → bytes ≡ slice_index (map size_of w.arrays.items) a)
    → 4 * (bytes / 4) ≡ size_of (storage_of w.arrays.items a)
result_size w a bytes sound is same =
    omega (arith, same (declared_small w a (sound_declared w sound)), size_at w.arrays.items a, whole)
  where
    array : IsTrue (is_sound_message (length w.variables.items) w.arrays.items (globals w) (message.Array a))
    array = subst (λ m. IsTrue (is_sound_message (length w.variables.items) w.arrays.items (globals w) m)) is (sound_message w sound)

    whole : size_of (storage_of w.arrays.items a) % 4 ≡ 0
    whole = eqb-true (size_of (storage_of w.arrays.items a) % 4) 0 (and_first _ _ (and_first _ _ (and_second (list_any (is_array a) (globals w)) _ array)))
