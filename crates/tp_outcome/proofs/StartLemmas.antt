-- The workspace at a run's start, word by word.
use Rattle.std.proofs.Common.{◌≡◌, ℕ, ◌+◌, ◌-◌, ◌*◌, ◌<◌, ◌≤◌, ◌⊎◌, inl, inr, List, [], ◌∷◌, ◌++◌, length, map, take, Option, Some, None, sym, ap, ◌∙◌, arith, slice_index_or, length-append, add-one}
use Rattle.std.specs.Prelude.{flat_map}
use Rattle.std.specs.Int.{w32, to_le_bytes}
use Rattle.std.proofs.lemmas.Bool.{cases_lt}
use mathlib.Core.Path.{fun_ext}
use Rattle.std.proofs.lemmas.List.{length-map, length-take-le, take_all, map-append, get_or_append_left, get_or-append-add}
use Rattle.std.proofs.Math.Seq.{take-suc}
use Rattle.std.proofs.lemmas.Grind.{flat_map-append}
use Rattle.tp_image.specs.Image.{ImageValue, InRange}
use Rattle.tp_step.specs.Memory.{Memory, nothing_defined, with_cells, with_bytes}
use Rattle.tp_step.specs.State.{mem_start}
use Rattle.tp_step.specs.Runs.{first_words}
use Rattle.tp_step.proofs.StartLemmas.{few, length-first, first_word}
use Rattle.tp_step.proofs.MemoryLemmas.{cell_in, cell_below, cell_above, length-le}

-- bytes after bytes
pub with_more : (m : Memory) (a : ℕ) (xs ys : List ℕ) → with_bytes (with_bytes m a xs) (a + length xs) ys ≡ with_bytes m a (xs ++ ys)
unfolding with_bytes
with_more m a xs ys = fun_ext λ x. at x (cases_lt x a) (cases_lt x (a + length xs)) (cases_lt x (a + length xs + length ys))
  where
    cells : List ℕ → List (Option ℕ)
    cells bytes = map Some bytes

    some : (bytes : List ℕ) → length (cells bytes) ≡ length bytes
    some bytes = length-map bytes Some

    both : cells (xs ++ ys) ≡ cells xs ++ cells ys
    both = map-append Some xs ys

    all : length (cells (xs ++ ys)) ≡ length xs + length ys
    all = some (xs ++ ys) ∙ length-append xs ys

    at : (x : ℕ) → (x < a) ⊎ (a ≤ x) → (x < a + length xs) ⊎ (a + length xs ≤ x) →
        (x < a + length xs + length ys) ⊎ (a + length xs + length ys ≤ x) →
        with_cells (with_cells m a (cells xs)) (a + length xs) (cells ys) x ≡ with_cells m a (cells (xs ++ ys)) x
    at x (inl below) _ _ =
        cell_below (with_cells m a (cells xs)) (a + length xs) (cells ys) x (omega arith) ∙ cell_below m a (cells xs) x below ∙ sym (cell_below m a (cells (xs ++ ys)) x below)
    at x (inr above) (inl first) _ =
        cell_below (with_cells m a (cells xs)) (a + length xs) (cells ys) x first
        ∙ cell_in m a (cells xs) x above (omega (arith, some xs))
        ∙ sym (cell_in m a (cells (xs ++ ys)) x above (omega (arith, all)) ∙
        ap (λ l. slice_index_or l (x - a) None) both ∙ get_or_append_left (cells xs) (cells ys) None (x - a)
        (omega (arith, some xs)))
    at x (inr above) (inr past) (inl second) =
        let on : x - a ≡ length (cells xs) + (x - (a + length xs)) = omega (arith, some xs) in
        cell_in (with_cells m a (cells xs)) (a + length xs) (cells ys) x past (omega (arith, some ys))
        ∙ sym (cell_in m a (cells (xs ++ ys)) x above (omega (arith, all)) ∙
        ap (λ l. slice_index_or l (x - a) None) both ∙ ap (λ j. slice_index_or (cells xs ++ cells ys) j None) on ∙
        get_or-append-add (cells xs) (cells ys) (x - (a + length xs)) None)
    at x (inr above) (inr past) (inr beyond) =
        cell_above (with_cells m a (cells xs)) (a + length xs) (cells ys) x (omega (arith, some ys))
        ∙ cell_above m a (cells xs) x (omega (arith, some xs))
        ∙ sym (cell_above m a (cells (xs ++ ys)) x (omega (arith, all)))

pub with_none : (m : Memory) (a : ℕ) → with_bytes m a [] ≡ m
unfolding with_bytes
with_none m a = fun_ext λ x. at x (cases_lt x a)
  where
    at : (x : ℕ) → (x < a) ⊎ (a ≤ x) → with_cells m a (map Some []) x ≡ m x
    at x (inl below) = cell_below m a (map Some []) x below
    at x (inr above) = cell_above m a (map Some []) x (omega arith)

-- one word more of the workspace
module _ (image : ImageValue) (range : InRange image) where
  fits : length image.initial ≤ image.workspace
  fits = few image.version (length image.initial) image.workspace range.initial

  long-first : length (first_words image) ≡ image.workspace
  long-first = length-first image fits

  pub word_more : (i word : ℕ) → i < image.workspace → word ≡ slice_index_or image.initial i 0
      → with_bytes (with_bytes nothing_defined mem_start (flat_map (to_le_bytes w32) (take i (first_words image))))
      (mem_start + 4 * i) (to_le_bytes w32 word) ≡ with_bytes nothing_defined mem_start
      (flat_map (to_le_bytes w32) (take (i + 1) (first_words image)))
  word_more i word lt is =
      let before : List ℕ = take i (first_words image) in
      let bytes : List ℕ = flat_map (to_le_bytes w32) before in
      let here : slice_index_or (first_words image) i 0 ≡ word = first_word image fits i lt ∙ sym is in
      let taken : length before ≡ i = length-take-le i (first_words image) (omega (arith, long-first)) in
      let long : length bytes ≡ 4 * i = length-le before ∙ ap (λ k. 4 * k) taken in
      let one : take (i + 1) (first_words image) ≡ before ++ word ∷ [] = rw add-one (take-suc (first_words image) i 0 (omega (arith, long-first)) ∙ ap (λ w. before ++ w ∷ []) here) in
      ap (λ k. with_bytes (with_bytes nothing_defined mem_start bytes) (mem_start + k) (to_le_bytes w32 word)) (sym long)
      ∙ with_more nothing_defined mem_start bytes (to_le_bytes w32 word)
      ∙ ap (with_bytes nothing_defined mem_start) (sym (ap (flat_map (to_le_bytes w32)) one ∙ flat_map-append (to_le_bytes w32) before (word ∷ [])))

  pub all_words : (i : ℕ) → i ≡ image.workspace → take i (first_words image) ≡ first_words image
  all_words i is = take_all i (first_words image) (omega (arith, long-first))
