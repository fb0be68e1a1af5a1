-- The bytes of a message.
use Rattle.std.proofs.Common.{◌≡◌, ℕ, zero, suc, ◌+◌, ◌<◌, ◌≤◌, true, false, List, ◌∷◌, length, take, drop, slice_index_or, Option, Some, None, refl, subst, arith}
use Rattle.std.proofs.lemmas.List.{drop_more}
use Rattle.tp_step.specs.Maybe.{◌>>=◌}
use Rattle.tp_step.specs.Memory.{bytes_at}
use Rattle.tp_step.specs.State.{mem_start}
use Rattle.std.specs.Prelude.{Bool}
use Rattle.tpw_machine.specs.Meaning.{memory_of}
use Rattle.tpw_machine.proofs.BytesLemmas.{defined_byte, undefined_byte}

-- bytes whose tags are all set are read
pub all_defined : (d : List Bool) (m : List ℕ) (n i x : ℕ) → x ≡ mem_start + i → i + n ≤ length m →
    ((k : ℕ) → k < n → slice_index_or d (i + k) false ≡ true) → bytes_at (memory_of d m) x n ≡ Some (take n (drop i m))
unfolding bytes_at
all_defined d m zero i x x_is within tags = refl
all_defined d m (suc n) i x x_is within tags =
    let here : slice_index_or d i false ≡ true = let same : i + 0 ≡ i = omega arith in subst (λ j. slice_index_or d j false ≡ true) same (tags 0 (omega arith)) in
    let rest = all_defined d m n (i + 1) (x + 1) (omega arith) (omega arith)
    (λ k lt. let same : i + suc k ≡ i + 1 + k = omega arith in
    subst (λ j. slice_index_or d j false ≡ true) same (tags (suc k) (omega arith))) in
    rw (defined_byte d m x i x_is here, rest, drop_more m i 0 (omega arith))

-- bytes with a tag that is not set are not
pub one_undefined : (d : List Bool) (m : List ℕ) (n i x k : ℕ) → x ≡ mem_start + i → k < n → slice_index_or d (i + k) false ≡ false → bytes_at (memory_of d m) x n ≡ None
unfolding bytes_at
one_undefined d m zero i x k x_is lt tag = absurd (omega arith)
one_undefined d m (suc n) i x zero x_is lt tag =
    let same : i + 0 ≡ i = omega arith in
    rw (undefined_byte d m x i x_is (subst (λ j. slice_index_or d j false ≡ false) same tag))
one_undefined d m (suc n) i x (suc k) x_is lt tag =
    let same : i + suc k ≡ i + 1 + k = omega arith in
    let rest = one_undefined d m n (i + 1) (x + 1) k (omega arith) (omega arith) (subst (λ j. slice_index_or d j false ≡ false) same tag) in
    rw rest (by_first (memory_of d m x))
  where
    by_first : (o : Option ℕ) → (o >>= (λ b. ◌>>=◌ {A = List ℕ} None (λ rest. Some (b ∷ rest)))) ≡ None
    by_first None = refl
    by_first (Some b) = refl
