-- Bytes of words, and bytes that are written and read.
use Rattle.std.proofs.Common.{◌≡◌, ◌⊎◌, inl, inr, ℕ, zero, suc, ◌+◌, ◌-◌, ◌^◌, ◌<◌, ◌≤◌, Bool, true, false, ◌&&◌}
use Rattle.std.proofs.Common.{nat_le, nat_lt, if◌then◌else◌, List, [], ◌∷◌, length, map, replicate, get_or}
use Rattle.std.proofs.Common.{slice_index_or, All, Option, Some, None, refl, sym, ap, ◌∙◌, subst, arith}
use Rattle.std.specs.Int.{w32, to_le_bytes, from_le_bytes}
use Rattle.std.proofs.lemmas.Bool.{cases_lt}
use Rattle.std.proofs.lemmas.Option.{same_Some}
use Rattle.std.proofs.lemmas.List.{length-replicate, length-map, get_or-map, get_or_past, get_or-replicate}
use Rattle.std.specs.Option.{option_and_then}
use Rattle.tp_step.specs.Memory.{Memory, with_cells, with_bytes, undefined, bytes_at, word_at, with_word}
use Rattle.tp_step.proofs.MemoryLemmas.{cell_at, cell_below, cell_above, word_is, word_apart}
use Rattle.tp_image.specs.declared.image.LoopRow.{LoopRow}
use Rattle.tp_state.specs.declared.cell.Cell.TheVariants as cell
use Rattle.tp_state.specs.Fits.{CellFits}
use Rattle.tp_state.proofs.EntryFits.{word_bytes}

-- each defined byte is one
abbrev pub AreSmall : Memory → Type 0
AreSmall m = (a byte : ℕ) → m a ≡ Some byte → byte < 256

-- ---- the bytes of a word

pub record HasBytes (m : Memory) (a : ℕ) : Type 0 where
  pub b0 : ℕ
  pub b1 : ℕ
  pub b2 : ℕ
  pub b3 : ℕ
  pub is0 : m a ≡ Some b0
  pub is1 : m (a + 1) ≡ Some b1
  pub is2 : m (a + 2) ≡ Some b2
  pub is3 : m (a + 3) ≡ Some b3

pub has_bytes : (m : Memory) (a v : ℕ) → word_at m a ≡ Some v → HasBytes m a
unfolding word_at
has_bytes m a v e = by_bytes (m a) refl (m (a + 1)) refl (m (a + 2)) refl (m (a + 3)) refl e
  where
    by_bytes : (o0 : Option ℕ) → m a ≡ o0 → (o1 : Option ℕ) → m (a + 1) ≡ o1 → (o2 : Option ℕ) → m (a + 2) ≡ o2 → (o3 : Option ℕ) → m (a + 3) ≡ o3
        → option_and_then (λ b0. option_and_then (λ b1. option_and_then (λ b2. option_and_then (λ b3. Some (from_le_bytes w32 (b0 ∷ b1 ∷ b2 ∷ b3 ∷ []))) o3) o2) o1) o0 ≡ Some v → HasBytes m a
    by_bytes None e0 o1 e1 o2 e2 o3 e3 e = cc
    by_bytes (Some b0) e0 None e1 o2 e2 o3 e3 e = cc
    by_bytes (Some b0) e0 (Some b1) e1 None e2 o3 e3 e = cc
    by_bytes (Some b0) e0 (Some b1) e1 (Some b2) e2 None e3 e = cc
    by_bytes (Some b0) e0 (Some b1) e1 (Some b2) e2 (Some b3) e3 e = record { b0 = b0; b1 = b1; b2 = b2; b3 = b3; is0 = e0; is1 = e1; is2 = e2; is3 = e3 }

joined_lt : (b0 b1 b2 b3 : ℕ) → b0 < 256 → b1 < 256 → b2 < 256 → b3 < 256 → from_le_bytes w32 (b0 ∷ b1 ∷ b2 ∷ b3 ∷ []) < 2 ^ 32
joined_lt b0 b1 b2 b3 h0 h1 h2 h3 = omega arith

pub bytes_word : (rows : List LoopRow) (m : Memory) (a : ℕ) → AreSmall m → HasBytes m a → CellFits rows cell.Any (word_at m a)
bytes_word rows m a small h =
    let is = word_is m a h.b0 h.b1 h.b2 h.b3 h.is0 h.is1 h.is2 h.is3 in
    (from_le_bytes w32 (h.b0 ∷ h.b1 ∷ h.b2 ∷ h.b3 ∷ []), is, joined_lt h.b0 h.b1 h.b2 h.b3 (small a h.b0 h.is0) (small (a + 1) h.b1 h.is1) (small (a + 2) h.b2 h.is2) (small (a + 3) h.b3 h.is3))

-- a defined byte
abbrev pub IsByte : Memory → ℕ → Type 0
IsByte m a = (b : ℕ) × (m a ≡ Some b)

pub byte_of : (m : Memory) (a k : ℕ) → HasBytes m a → k < 4 → IsByte m (a + k)
byte_of m a zero h lt = let same : a ≡ a + zero = omega arith in subst (IsByte m) same (h.b0, h.is0)
byte_of m a (suc zero) h lt = (h.b1, h.is1)
byte_of m a (suc (suc zero)) h lt = (h.b2, h.is2)
byte_of m a (suc (suc (suc zero))) h lt = (h.b3, h.is3)
byte_of m a (suc (suc (suc (suc k)))) h lt = absurd (omega arith)

pub bytes_of : (m : Memory) (a : ℕ) → ((k : ℕ) → k < 4 → IsByte m (a + k)) → HasBytes m a
bytes_of m a each =
    let none_more : a + 0 ≡ a = omega arith in
    let first = subst (IsByte m) none_more (each 0 (omega arith)) in
    let second = each 1 (omega arith) in
    let third = each 2 (omega arith) in
    let fourth = each 3 (omega arith) in
    record { b0 = first.0; b1 = second.0; b2 = third.0; b3 = fourth.0; is0 = first.1; is1 = second.1; is2 = third.1; is3 = fourth.1 }

-- a word whose bytes stand at another place
pub word_moved : (m m' : Memory) (a b : ℕ) → ((k : ℕ) → k < 4 → m' (a + k) ≡ m (b + k)) → word_at m' a ≡ word_at m b
unfolding word_at
word_moved m m' a b each =
    let a_is : a + 0 ≡ a = omega arith in
    let b_is : b + 0 ≡ b = omega arith in
    let e0 : m' a ≡ m b = ap m' (sym a_is) ∙ each 0 (omega arith) ∙ ap m b_is in
    let e1 : m' (a + 1) ≡ m (b + 1) = each 1 (omega arith) in
    let e2 : m' (a + 2) ≡ m (b + 2) = each 2 (omega arith) in
    let e3 : m' (a + 3) ≡ m (b + 3) = each 3 (omega arith) in
    rw (e0, e1, e2, e3) refl

-- ---- bytes that are written

module _ (m : Memory) (a : ℕ) (bytes : List ℕ) where
  long : length (map Some bytes) ≡ length bytes
  long = length-map bytes (λ (b : ℕ). Some b)

  pub written_in : (k : ℕ) → k < length bytes → with_bytes m a bytes (a + k) ≡ Some (get_or bytes k 0)
  unfolding with_bytes
  written_in k lt = cell_at m a (map Some bytes) k (omega (arith, long)) ∙ get_or-map Some bytes k 0 None lt

  pub written_out : (x : ℕ) → (x < a) ⊎ (a + length bytes ≤ x) → with_bytes m a bytes x ≡ m x
  unfolding with_bytes
  written_out x (inl below) = cell_below m a (map Some bytes) x below
  written_out x (inr above) = cell_above m a (map Some bytes) x (omega (arith, long))

  -- what holds of a byte, by where it stands
  pub by_place : {P : Type 0} (x : ℕ) → ((k : ℕ) → k < length bytes → x ≡ a + k → P) → ((x < a) ⊎ (a + length bytes ≤ x) → P) → P
  by_place {P} x inside outside = at (cases_lt x a) (cases_lt x (a + length bytes))
    where
      at : (x < a) ⊎ (a ≤ x) → (x < a + length bytes) ⊎ (a + length bytes ≤ x) → P
      at (inl below) _ = outside (inl below)
      at (inr low) (inr above) = outside (inr above)
      at (inr low) (inl high) = inside (x - a) (omega arith) (omega arith)

  pub written_defined : (x : ℕ) → IsByte m x → IsByte (with_bytes m a bytes) x
  written_defined x (b, is) =
      by_place x (λ k lt same. (get_or bytes k 0, ap (with_bytes m a bytes) same ∙ written_in k lt)) (λ out. (b, written_out x out ∙ is))

  pub written_small : AreSmall m → All (λ byte. byte < 256) bytes → AreSmall (with_bytes m a bytes)
  written_small small all x byte e =
      by_place x
      (λ k lt same.
      let is : get_or bytes k 0 ≡ byte = same_Some _ _ (sym (written_in k lt) ∙ ap (with_bytes m a bytes) (sym same) ∙ e) in
      subst (λ b. b < 256) is (all k 0 lt))
      (λ out. small x byte (sym (written_out x out) ∙ e))

  pub written_apart : (x : ℕ) → (x + 4 ≤ a) ⊎ (a + length bytes ≤ x) → word_at (with_bytes m a bytes) x ≡ word_at m x
  unfolding with_bytes
  written_apart x (inl before) = word_apart m x a (map Some bytes) (inl before)
  written_apart x (inr after) = word_apart m x a (map Some bytes) (inr (omega (arith, long)))

pub word_small : (m : Memory) (a v : ℕ) → AreSmall m → AreSmall (with_word m a v)
unfolding with_word
word_small m a v small = written_small m a (to_le_bytes w32 v) small (word_bytes v)

nothing_at : (n k : ℕ) → slice_index_or (replicate {A = Option ℕ} n None) k None ≡ None
nothing_at n k = at (cases_lt k n)
  where
    at : (k < n) ⊎ (n ≤ k) → slice_index_or (replicate {A = Option ℕ} n None) k None ≡ None
    at (inl lt) = get_or-replicate {A = Option ℕ} n k None None lt
    at (inr past) = get_or_past (replicate {A = Option ℕ} n None) k None (omega (arith, length-replicate {A = Option ℕ} n None))

pub undefined_small : (m : Memory) (a n : ℕ) → AreSmall m → AreSmall (undefined m a n)
unfolding undefined with_cells
undefined_small m a n small x byte e = by_test (nat_le a x && nat_lt x (a + length (replicate {A = Option ℕ} n None))) e
  where
    by_test : (b : Bool) → (if b then slice_index_or (replicate {A = Option ℕ} n None) (x - a) None else m x) ≡ Some byte → byte < 256
    by_test true e = let none = nothing_at n (x - a) in absurd (cc)
    by_test false e = small x byte e

-- ---- bytes that are read

pub record Reads (m : Memory) (a n : ℕ) : Type 0 where
  pub bytes : List ℕ
  pub are : bytes_at m a n ≡ Some bytes
  pub long : length bytes ≡ n
  pub each : (k : ℕ) → k < n → m (a + k) ≡ Some (get_or bytes k 0)

pub reads : (m : Memory) (n a : ℕ) → ((k : ℕ) → k < n → IsByte m (a + k)) → Reads m a n
unfolding bytes_at
reads m zero a each = record { bytes = []; are = refl; long = refl; each = λ k lt. absurd (omega arith) }
reads m (suc n) a each =
    let none_more : a + 0 ≡ a = omega arith in
    let first : IsByte m a = subst (IsByte m) none_more (each 0 (omega arith)) in
    let rest = reads m n (a + 1) (λ k lt. let next : a + suc k ≡ a + 1 + k = omega arith in subst (IsByte m) next (each (suc k) (omega arith))) in
    let is = first.1 in
    let are = rest.are in
    record {
      bytes = first.0 ∷ rest.bytes;
      are = rw (is, are) refl;
      long = ap suc rest.long;
      each = λ k lt. at k lt first rest;
    }
  where
    at : (k : ℕ) → k < suc n → (first : IsByte m a) (rest : Reads m (a + 1) n) → m (a + k) ≡ Some (get_or (first.0 ∷ rest.bytes) k 0)
    at zero lt first rest = let same : a + 0 ≡ a = omega arith in ap m same ∙ first.1
    at (suc k) lt first rest = let same : a + suc k ≡ a + 1 + k = omega arith in ap m same ∙ rest.each k (omega arith)

-- they are bytes
pub reads_small : (m : Memory) (a n : ℕ) (r : Reads m a n) → AreSmall m → All (λ byte. byte < 256) r.bytes
reads_small m a n r small k d lt =
    let here = small (a + k) (get_or r.bytes k 0) (r.each k (omega (arith, r.long))) in
    subst (λ b. b < 256) (same_default r.bytes k d lt) here
  where
    same_default : (bs : List ℕ) (k d : ℕ) → k < length bs → get_or bs k 0 ≡ get_or bs k d
    same_default [] k d lt = absurd (omega arith)
    same_default (b ∷ bs) zero d lt = refl
    same_default (b ∷ bs) (suc k) d lt = same_default bs k d (omega arith)
