-- A text is its lines.
use Rattle.std.proofs.Common.{◌≡◌, ℕ, zero, suc, ◌-◌, ◌<◌, ◌==◌, ◌&&◌, not, Bool, true, false, List, [], ◌∷◌, ◌++◌, length, refl, ap, ◌∙◌, arith, append_assoc}
use Rattle.std.specs.Prelude.{slice_index}
use Rattle.std.specs.List.{list_all, flat_map, slice_split, onto_first, AllByRecursion}
use Rattle.std.specs.Str.Lines.{lines, lines_of_parts, strip_carriage_return}
use Rattle.std.proofs.lemmas.List.Splits.{length-slice_split, slice_split-cons_no}
use Rattle.tpw_text.specs.Written.{as_line}
use Rattle.tpw_text.proofs.Tokens.{both_true}
use Rattle.tpw_text_laws.proofs.Tests.{not_true}

-- a byte of a line
abbrev pub is_shown : ℕ → Bool
is_shown b = not (b == 10) && not (b == 13)

abbrev pub IsLine : List ℕ → Type 0
IsLine line = list_all is_shown line ≡ true

not_feed : (b : ℕ) → is_shown b ≡ true → (b == 10) ≡ false
not_feed b h = not_true (b == 10) (both_true (not (b == 10)) (not (b == 13)) h).0

not_return : (b : ℕ) → is_shown b ≡ true → (b == 13) ≡ false
not_return b h = not_true (b == 13) (both_true (not (b == 10)) (not (b == 13)) h).1

split_at : (a b : List ℕ) → IsLine a → slice_split (λ c. c == 10) (a ++ 10 ∷ b) ≡ a ∷ slice_split (λ c. c == 10) b
split_at [] b all = refl
split_at (x ∷ a) b all =
    let both = both_true (is_shown x) (list_all is_shown a) all in
    slice_split-cons_no (λ c. c == 10) x (a ++ 10 ∷ b) (not_feed x both.0) ∙ ap (onto_first x) (split_at a b both.1)

no_return : (line : List ℕ) (k : ℕ) → IsLine line → (slice_index line k == 13) ≡ false
no_return [] k all = refl
no_return (x ∷ line) zero all = not_return x (both_true (is_shown x) (list_all is_shown line) all).0
no_return (x ∷ line) (suc k) all = no_return line k (both_true (is_shown x) (list_all is_shown line) all).1

strip : (line : List ℕ) → IsLine line → strip_carriage_return line ≡ line
strip line all = rw (no_return line (length line - 1) all) refl

parts_on : (a : List ℕ) (parts : List (List ℕ)) → 0 < length parts → IsLine a → lines_of_parts (a ∷ parts) ≡ a ∷ lines_of_parts parts
parts_on a [] some all = absurd (omega arith)
parts_on a (y ∷ more) some all = ap (λ l. l ∷ lines_of_parts (y ∷ more)) (strip a all)

a_line : (a b : List ℕ) → IsLine a → lines (a ++ 10 ∷ b) ≡ a ∷ lines b
a_line a b all =
    let some : 0 < length (slice_split (λ c. c == 10) b) = omega (arith, length-slice_split (λ c. c == 10) b) in
    ap lines_of_parts (split_at a b all) ∙ parts_on a (slice_split (λ c. c == 10) b) some all

pub all_lines : (ls : List (List ℕ)) → AllByRecursion IsLine ls → lines (flat_map as_line ls) ≡ ls
all_lines [] all = refl
all_lines (line ∷ ls) all =
    ap lines (append_assoc line (10 ∷ []) (flat_map as_line ls)) ∙ a_line line (flat_map as_line ls) all.0 ∙ ap (λ more. line ∷ more) (all_lines ls all.1)
