-- One byte more.
use Rattle.std.proofs.Common.{◌≡◌, ◌∙◌, ◌+◌, ◌<◌, ◌≤◌, ℕ, zero, suc, nat_eq, true, false, cond, List, [], ◌∷◌, length, take, get_or, ap, sym, refl, arith, add-one}
use Rattle.tpw_text.specs.declared.words.Position.{Position}
use Rattle.tpw_files.specs.Positions.{behind, behind_all}

one_more : (p : Position) (bytes : List ℕ) (i : ℕ) → i < length bytes
    → behind_all p (take (i + 1) bytes) ≡ behind (behind_all p (take i bytes)) (get_or bytes i 0)
one_more p bytes i h = ap (λ n. behind_all p (take n bytes)) (add-one i) ∙ from p bytes i h
  where
    from : (p : Position) (bytes : List ℕ) (i : ℕ) → i < length bytes
        → behind_all p (take (suc i) bytes) ≡ behind (behind_all p (take i bytes)) (get_or bytes i 0)
    from p [] i h = absurd (omega (arith, h))
    from p (b ∷ bytes) zero h = refl
    from p (b ∷ bytes) (suc i) h = from (behind p b) bytes i (omega (arith, h))

least_line : (p : Position) (b : ℕ) → (behind p b).line ≤ p.line + 1
least_line p b = elim (nat_eq b 10) as (λ t. (cond {A = Position} t record { line = p.line + 1; column = 1 } record { line = p.line; column = p.column + 1 }).line ≤ p.line + 1) [
  | true ↦ omega arith
  | false ↦ omega arith
]

least_column : (p : Position) (b : ℕ) → (behind p b).column ≤ p.column + 1
least_column p b = elim (nat_eq b 10) as (λ t. (cond {A = Position} t record { line = p.line + 1; column = 1 } record { line = p.line; column = p.column + 1 }).column ≤ p.column + 1) [
  | true ↦ omega arith
  | false ↦ omega arith
]

pub line_more : (p q : Position) (b : ℕ) → q ≡ behind p b → q.line ≤ p.line + 1
line_more p q b e = omega (arith, ap (λ r. r.line) e, least_line p b)

pub column_more : (p q : Position) (b : ℕ) → q ≡ behind p b → q.column ≤ p.column + 1
column_more p q b e = omega (arith, ap (λ r. r.column) e, least_column p b)

pub behind_more : (p q r : Position) (bytes : List ℕ) (i : ℕ) → i < length bytes → q ≡ behind_all p (take i bytes)
    → r ≡ behind q (get_or bytes i 0) → r ≡ behind_all p (take (i + 1) bytes)
behind_more p q r bytes i h e f = f ∙ ap (λ x. behind x (get_or bytes i 0)) e ∙ sym (one_more p bytes i h)
