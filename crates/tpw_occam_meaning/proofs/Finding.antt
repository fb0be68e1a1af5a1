-- What is found among names.
use Rattle.std.proofs.Common.{◌≡◌, ◌≢◌, ℕ, nat_eq, Bool, true, false, List, [], ◌∷◌, refl, arith}
use Rattle.std.specs.Cmp.Lexicographic.{same_text}
use Rattle.std.proofs.lemmas.Grind.{common_steps}
use lib.Pointwise.{pointwise}
use Rattle.tpw_occam_terms.specs.declared.name.Name.{Name}
use Rattle.tpw_occam_meaning.specs.Names.{Entry, Names, found, with_name}

same : (xs : List ℕ) → pointwise nat_eq xs xs ≡ true
same [] = refl
same (x ∷ xs) = let h = same xs in grind (arith, common_steps)

pub first_found : (name : Name) (entry : Entry) (names : Names) → found name (with_name name entry names) ≡ entry
first_found name entry names = rw (same name.text.now) refl

others : (xs ys : List ℕ) (b : Bool) → xs ≢ ys → b ≡ pointwise nat_eq xs ys → b ≡ false
others xs ys true differ h = absurd (differ (same_text xs ys h))
others xs ys false differ h = refl

pub further_found : (name other : Name) (entry : Entry) (names : Names) → name.text.now ≢ other.text.now →
    found name (with_name other entry names) ≡ found name names
further_found name other entry names differ =
    rw (others name.text.now other.text.now (pointwise nat_eq name.text.now other.text.now) differ refl) refl
