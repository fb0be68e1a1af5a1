-- Bytes that a writer is known to hold.
use Rattle.std.proofs.Common.{◌≡◌, ℕ, ◌-◌, List, ◌++◌, length, take, drop, Option, ap, sym, ◌∙◌}
use Rattle.std.proofs.Common.{append_assoc, length-drop}
use Rattle.std.specs.Io.KnownBytes.{Appends}
use Rattle.std.proofs.KnownBytes.{Appends-trans}
use Rattle.std.proofs.lemmas.List.{take-append-drop}
use Rattle.std.proofs.Math.Seq.{take-append_seam, take-length}

pub appends_same : (a b : Option (List ℕ)) (xs ys : List ℕ) → xs ≡ ys → Appends a b xs → Appends a b ys
appends_same a b xs ys e h = rw (← e) h

-- a beginning of some bytes, by its length
pub appends_front : (a b : Option (List ℕ)) (front rest all : List ℕ) → all ≡ front ++ rest → Appends a b front
    → (n : ℕ) × Appends a b (take n all)
appends_front a b front rest all e h = (
  length front,
  appends_same a b front (take (length front) all)
      (sym (ap (take (length front)) e ∙ take-append_seam front rest)) h,
)

-- some bytes more of a text are written
pub some_more : (a b c : Option (List ℕ)) (text written rest : List ℕ) (n : ℕ) → text ≡ written ++ rest → Appends a b written
    → Appends b c (take n rest) →
    (text ≡ (written ++ take n rest) ++ drop n rest) × Appends a c (written ++ take n rest)
some_more a b c text written rest n e h k = (
  e ∙ ap (λ l. written ++ l) (sym (take-append-drop n rest)) ∙ sym (append_assoc written (take n rest) (drop n rest)),
  Appends-trans a b c written (take n rest) h k,
)

pub slice_rest : (xs : List ℕ) (n : ℕ) → take (length xs - n) (drop n xs) ≡ drop n xs
slice_rest xs n = ap (λ m. take m (drop n xs)) (sym (length-drop n xs)) ∙ take-length (drop n xs)
