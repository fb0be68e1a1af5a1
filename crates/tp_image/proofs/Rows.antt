-- Twelve bytes as a row.
use Rattle.std.proofs.Common.{◌≡◌, ℕ, List, [], ◌∷◌, ◌++◌, length, get_or, sym}
use Rattle.tp_image.proofs.Cells.{all_cells}

-- a row's five fields are its twelve bytes
pub row_spelled : (bytes a b c d e : List ℕ) → length bytes ≡ 12
    → a ≡ get_or bytes 0 0 ∷ get_or bytes 1 0 ∷ []
    → b ≡ get_or bytes 2 0 ∷ get_or bytes 3 0 ∷ []
    → c ≡ get_or bytes 4 0 ∷ get_or bytes 5 0 ∷ []
    → d ≡ get_or bytes 6 0 ∷ get_or bytes 7 0 ∷ []
    → e ≡ get_or bytes 8 0 ∷ get_or bytes 9 0 ∷ get_or bytes 10 0 ∷ get_or bytes 11 0 ∷ []
    → a ++ b ++ c ++ d ++ e ≡ bytes
row_spelled bytes a b c d e long a-is b-is c-is d-is e-is = rw (a-is, b-is, c-is, d-is, e-is) (sym (all_cells 12 bytes long))
