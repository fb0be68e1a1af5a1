use Rattle.std.proofs.Common.{◌≡◌, ℕ, List, [], ◌∷◌, ◌++◌, get_or, All, arith}
use Rattle.std.proofs.lemmas.List.Elements.{All-push}
use Rattle.std.proofs.lemmas.List.Quantifiers.{all_pairs_push}
use Rattle.tpw_occam_terms.specs.declared.fault.Fault.{Fault}
use Rattle.tpw_occam_terms.specs.Places.{IsInOrder, AreInOrder}

-- each fault begins at a place or in front of it
abbrev pub StandBefore : List Fault → ℕ → ℕ → Type 0
StandBefore faults line column = All (λ f. IsInOrder f.span.line f.span.column line column) faults

pub further : (a b c d e f : ℕ) → IsInOrder a b c d → IsInOrder c d e f → IsInOrder a b e f
further a b c d e f r s = record {
  lines = let p = r.lines in let q = s.lines in omega arith;
  columns = λ same. let p = r.lines in let q = s.lines in
      let first : a ≡ c = omega arith in let second : c ≡ e = omega arith in
      let x = r.columns first in let y = s.columns second in omega arith;
}

pub same : (line column : ℕ) → IsInOrder line column line column
same line column = record { lines = omega arith; columns = λ _. omega arith }

-- one more fault, at a place that is not in front of the last
pub stand_before_push : (faults : List Fault) (f : Fault) (line column : ℕ) → StandBefore faults line column
    → IsInOrder line column f.span.line f.span.column → StandBefore (faults ++ f ∷ []) f.span.line f.span.column
stand_before_push faults f line column all next = All-push (λ g. IsInOrder g.span.line g.span.column f.span.line f.span.column) faults f
    (λ k d below. let g = get_or faults k d in further g.span.line g.span.column line column f.span.line f.span.column (all k d below) next)
    (same f.span.line f.span.column)

pub in_order_push : (faults : List Fault) (f : Fault) (line column : ℕ) → AreInOrder faults → StandBefore faults line column
    → IsInOrder line column f.span.line f.span.column → AreInOrder (faults ++ f ∷ [])
in_order_push faults f line column ordered all next =
    all_pairs_push (λ a b. IsInOrder a.span.line a.span.column b.span.line b.span.column) faults f ordered
    (λ k d below. let g = get_or faults k d in further g.span.line g.span.column line column f.span.line f.span.column (all k d below) next)
