-- The machine's bytes as a memory.
use Rattle.std.proofs.Common.{◌≡◌, ℕ, ◌+◌, ◌-◌, ◌<◌, ◌≤◌, ◌⊎◌, inl, inr, Bool, true, false, nat_le, List, length, map}
use Rattle.std.proofs.Common.{take, drop, ◌++◌, replicate, Option, Some, None, refl, sym, ap, ◌∙◌, arith, slice_index}
use Rattle.std.proofs.Common.{slice_index_or}
use Rattle.std.proofs.lemmas.Bool.Decides.{nat_tests}
use mathlib.Core.Path.{fun_ext}
use Rattle.std.proofs.lemmas.Bool.{cases_lt}
use Rattle.std.proofs.Math.Seq.{paste}
use borrow.Rule.Slice.PartMut.{put_mid}
use Rattle.std.proofs.lemmas.List.{places, append_assoc, drop-drop, get_or-take, get_or-drop, length-replicate, length-map, get_or-replicate, get_or-map}
use Rattle.tp_step.specs.Memory.{with_cells, with_bytes, undefined}
use Rattle.tp_step.specs.State.{mem_start}
use Rattle.tp_step.proofs.MemoryLemmas.{cell_in, cell_below, cell_above}
use Rattle.tpw_machine.specs.Meaning.{memory_of}

pub defined_byte : (d : List Bool) (m : List ℕ) (x i : ℕ) → x ≡ mem_start + i → slice_index_or d i false ≡ true → memory_of d m x ≡ Some (slice_index m i)
unfolding memory_of
defined_byte d m x i x_is e =
    let le : nat_le mem_start x ≡ true = grind (arith, nat_tests) in
    let at : x - mem_start ≡ i = omega arith in
    rw (le, at, e)

pub undefined_byte : (d : List Bool) (m : List ℕ) (x i : ℕ) → x ≡ mem_start + i → slice_index_or d i false ≡ false → memory_of d m x ≡ None
unfolding memory_of
undefined_byte d m x i x_is e =
    let le : nat_le mem_start x ≡ true = grind (arith, nat_tests) in
    let at : x - mem_start ≡ i = omega arith in
    rw (le, at, e)

-- ---- writes

-- an element of a list after a write to a part of it
pub part_at : {X : Type 0} (i k : ℕ) (xs ys : List X) (j : ℕ) (d : X) → length ys ≡ k → i + k ≤ length xs → i ≤ j → j < i + k → slice_index_or (put_mid i k xs ys) j d ≡ slice_index_or ys (j - i) d
part_at i k xs ys j d len within lo hi = grind (arith, places)

pub before_part : {X : Type 0} (i k : ℕ) (xs ys : List X) (j : ℕ) (d : X) → length ys ≡ k → i + k ≤ length xs → j < i → slice_index_or (put_mid i k xs ys) j d ≡ slice_index_or xs j d
before_part i k xs ys j d len within lo = grind (arith, places)

pub after_part : {X : Type 0} (i k : ℕ) (xs ys : List X) (j : ℕ) (d : X) → length ys ≡ k → i + k ≤ length xs → i + k ≤ j → slice_index_or (put_mid i k xs ys) j d ≡ slice_index_or xs j d
after_part i k xs ys j d len within lo = grind (arith, places)

-- bytes that agree at a place agree in the memory
same_byte : (d d' : List Bool) (m m' : List ℕ) (x : ℕ) →
    (mem_start ≤ x → slice_index_or d' (x - mem_start) false ≡ slice_index_or d (x - mem_start) false) →
    (mem_start ≤ x → slice_index m' (x - mem_start) ≡ slice_index m (x - mem_start)) → memory_of d' m' x ≡ memory_of d m x
unfolding memory_of
same_byte d d' m m' x same_d same_m = by_place (cases_lt x mem_start)
  where
    by_place : (x < mem_start) ⊎ (mem_start ≤ x) → memory_of d' m' x ≡ memory_of d m x
    by_place (inl below) = let e : nat_le mem_start x ≡ false = grind (arith, nat_tests) in rw e
    by_place (inr above) = rw (same_d above, same_m above)

-- bytes put into the machine's workspace stand in the memory
pub memory_put : (d : List Bool) (m : List ℕ) (a i k : ℕ) (bs : List ℕ) → a ≡ mem_start + i → length bs ≡ k →
    i + k ≤ length d → i + k ≤ length m → memory_of (put_mid i k d (replicate k true)) (put_mid i k m bs) ≡ with_bytes
    (memory_of d m) a bs
unfolding with_bytes
memory_put d m a i k bs a_is len in_d in_m = fun_ext λ x. at x (cases_lt x a) (cases_lt x (a + k))
  where
    len_true : length (replicate k true) ≡ k
    len_true = length-replicate k true

    len_cells : length (map {B = Option ℕ} Some bs) ≡ k
    len_cells = length-map bs Some ∙ len

    at : (x : ℕ) → (x < a) ⊎ (a ≤ x) → (x < a + k) ⊎ (a + k ≤ x) → memory_of (put_mid i k d (replicate k true)) (put_mid i k m bs) x ≡ with_cells (memory_of d m) a (map Some bs) x
    at x (inl below) _ =
        same_byte d _ m _ x
        (λ in_it. before_part i k d (replicate k true) (x - mem_start) false len_true in_d (omega arith))
        (λ in_it. before_part i k m bs (x - mem_start) 0 len in_m (omega arith))
        ∙ sym (cell_below (memory_of d m) a (map Some bs) x below)
    at x (inr above) (inl within) =
        let j_is : x - mem_start - i ≡ x - a = omega arith in
        let true_at = part_at i k d (replicate k true) (x - mem_start) false len_true in_d (omega arith) (omega arith) in
        let byte_at = part_at i k m bs (x - mem_start) 0 len in_m (omega arith) (omega arith) in
        defined_byte _ _ x (x - mem_start) (omega arith) (true_at ∙ get_or-replicate k (x - mem_start - i) true false (omega arith))
        ∙ ap Some (byte_at ∙ ap (λ j. slice_index bs j) j_is)
        ∙ sym (cell_in (memory_of d m) a (map Some bs) x above (omega (arith, len_cells)) ∙ get_or-map Some bs (x - a) 0 None (omega arith))
    at x (inr above) (inr past) =
        same_byte d _ m _ x
        (λ in_it. after_part i k d (replicate k true) (x - mem_start) false len_true in_d (omega arith))
        (λ in_it. after_part i k m bs (x - mem_start) 0 len in_m (omega arith))
        ∙ sym (cell_above (memory_of d m) a (map Some bs) x (omega (arith, len_cells)))

-- ---- bytes made undefined

-- bytes of the machine's workspace whose tags are cleared are undefined in the memory
pub memory_undefine : (d : List Bool) (m : List ℕ) (a i k : ℕ) → a ≡ mem_start + i → i + k ≤ length d → memory_of (put_mid i k d (replicate k false)) m ≡ undefined (memory_of d m) a k
unfolding undefined
memory_undefine d m a i k a_is in_d = fun_ext λ x. at x (cases_lt x a) (cases_lt x (a + k))
  where
    len_false : length (replicate k false) ≡ k
    len_false = length-replicate k false

    len_cells : length (replicate {A = Option ℕ} k None) ≡ k
    len_cells = length-replicate k None

    at : (x : ℕ) → (x < a) ⊎ (a ≤ x) → (x < a + k) ⊎ (a + k ≤ x) → memory_of (put_mid i k d (replicate k false)) m x ≡ with_cells (memory_of d m) a (replicate k None) x
    at x (inl below) _ =
        same_byte d _ m _ x
        (λ above. before_part i k d (replicate k false) (x - mem_start) false len_false in_d (omega arith))
        (λ above. refl)
        ∙ sym (cell_below (memory_of d m) a (replicate k None) x below)
    at x (inr above) (inl within) =
        undefined_byte _ _ x (x - mem_start) (omega arith)
        (part_at i k d (replicate k false) (x - mem_start) false len_false in_d (omega arith) (omega arith) ∙ get_or-replicate k (x - mem_start - i) false false (omega arith))
        ∙ sym (cell_in (memory_of d m) a (replicate k None) x above (omega (arith, len_cells)) ∙ get_or-replicate k (x - a) None None (omega arith))
    at x (inr above) (inr past) =
        same_byte d _ m _ x
        (λ above. after_part i k d (replicate k false) (x - mem_start) false len_false in_d (omega arith))
        (λ above. refl)
        ∙ sym (cell_above (memory_of d m) a (replicate k None) x (omega (arith, len_cells)))

-- bytes that are pasted are put
pub paste_put : (m s : List ℕ) (i n : ℕ) → paste m i s n ≡ put_mid i n m (take n s)
paste_put m s i n = append_assoc (take i m) (take n s) (drop (i + n) m) ∙ ap (λ rest. take i m ++ (take n s ++ rest)) (sym (drop-drop n i m))

-- a tag in a part of the tags
pub tag_at : (d : List Bool) (i n t : ℕ) → t < n → slice_index_or (take n (drop i d)) t false ≡ slice_index_or d (i + t) false
tag_at d i n t lt = get_or-take n (drop i d) t false lt ∙ get_or-drop i d t false
