-- Texts in parts.
use Rattle.std.proofs.Common.{Fits, get_or, nat_lt, ◌≡◌, ℕ, zero, suc, ◌+◌, List, [], ◌∷◌, ◌++◌, length, take, Some}
use Rattle.std.proofs.Common.{refl, ap, ◌∙◌, arith, append_assoc, slice_get, codes, add-one, nat_eq, Bool, true}
use Rattle.std.proofs.Common.{false}
use Rattle.std.specs.List.{flat_map, list_all}
use Rattle.std.proofs.lemmas.List.{append-nil}
use Rattle.std.proofs.lemmas.Option.{same_Some}
use Rattle.std.proofs.lemmas.Bool.Decides.{nat_tests}
use Rattle.tp_decode.specs.Cutting.{Cut}
use Rattle.tp_decode.specs.Lines.{lines_from}
use Rattle.hex.specs.Hex.{encode_lower}
use Rattle.std.specs.Int.{from_bool, w8}
use Rattle.tp_answers.specs.Texts.{text_line, flag, trace_text}

pub regrouped : (a b c d e : List ℕ) → a ++ (b ++ (c ++ (d ++ e))) ≡ (((a ++ b) ++ c) ++ d) ++ e
regrouped a b c d e = simp append_assoc

pub as_many_lines : (at : ℕ) (cuts : List Cut) → length (lines_from at cuts) ≡ length cuts
as_many_lines at [] = refl
as_many_lines at (cut ∷ cuts) = ap suc (as_many_lines (at + length cut.bytes) cuts)

-- one line more
pub line_more : (lines : List (List ℕ)) (i : ℕ) (line : List ℕ) → slice_get lines i ≡ Some line
    → flat_map text_line (take (i + 1) lines) ≡ flat_map text_line (take i lines) ++ line ++ codes "\n"
line_more lines i line e = ap (λ n. flat_map text_line (take n lines)) (add-one i) ∙ by_recursion lines i line e
  where
    by_recursion : (lines : List (List ℕ)) (i : ℕ) (line : List ℕ) → slice_get lines i ≡ Some line
        → flat_map text_line (take (suc i) lines) ≡ flat_map text_line (take i lines) ++ line ++ codes "\n"
    by_recursion [] i line e = cc
    by_recursion (l ∷ lines) zero line e = append-nil (text_line l) ∙ ap text_line (same_Some l line e)
    by_recursion (l ∷ lines) (suc i) line e =
        ap (λ xs. text_line l ++ xs) (by_recursion lines i line e) ∙ simp append_assoc

pub flag_is : (b : Bool) → from_bool b ≡ flag b
flag_is true = refl
flag_is false = refl

text_of_none : (trace : List ℕ) → true ≡ nat_eq (length trace) 0 → trace_text trace ≡ codes "-"
text_of_none [] e = refl
text_of_none (b ∷ trace) e = absurd (grind (arith, nat_tests, e))

text_of_some : (trace : List ℕ) → false ≡ nat_eq (length trace) 0 → trace_text trace ≡ encode_lower trace
text_of_some [] e = cc
text_of_some (b ∷ trace) e = refl

-- the bytes of a trace, or a dash
pub text_of_trace : (trace : List ℕ) → (true ≡ nat_eq (length trace) 0 → trace_text trace ≡ codes "-")
    × (false ≡ nat_eq (length trace) 0 → trace_text trace ≡ encode_lower trace)
text_of_trace trace = (text_of_none trace, text_of_some trace)

-- numbers that are bytes
pub all_bytes : (xs : List ℕ) → ((i : ℕ) → Fits w8 (get_or xs i 0)) → list_all (λ b. nat_lt b 256) xs ≡ true
all_bytes [] fit = refl
all_bytes (x ∷ xs) fit =
    let fits : Fits w8 x = fit zero in
    let test : nat_lt x 256 ≡ true = grind (arith, nat_tests, fits) in
    rw test (all_bytes xs (λ i. fit (suc i)))

-- the parts of a result's line, one behind another
pub result_told : (before number error steps result : List ℕ) {a b c d e f : List ℕ} → a ≡ before ++ codes "R "
    → b ≡ a ++ number ++ codes " " → c ≡ b ++ error ++ codes " " → d ≡ c ++ steps ++ codes " " → e ≡ d ++ result
    → f ≡ e ++ codes "\n"
    → f ≡ before ++ text_line (codes "R " ++ number ++ codes " " ++ error ++ codes " " ++ steps ++ codes " " ++ result)
result_told before number error steps result at_a at_b at_c at_d at_e at_f =
    let field : List ℕ → List ℕ → List ℕ = λ n l. l ++ n ++ codes " " in
    at_f ∙ ap (λ l. l ++ codes "\n") (at_e ∙ ap (λ l. l ++ result)
    (at_d ∙ ap (field steps) (at_c ∙ ap (field error) (at_b ∙ ap (field number) at_a)))) ∙ simp append_assoc
