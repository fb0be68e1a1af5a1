-- The canonical spelling, which is of least length.
use Rattle.std.specs.Prelude.{ℕ, zero, suc, ◌+◌, ◌-◌, ◌*◌, ◌/◌, ◌%◌, nat_lt, if◌then◌else◌, ℤ, pos, negsuc, List, []}
use Rattle.std.specs.Prelude.{◌∷◌, ◌++◌}

-- A number of at most this many hexadecimal digits: one byte below 16, else pfix of the number shifted down by four,
-- spelled by the same rule, and a byte with the last digit.
unfoldable pub natural_spelling : (digits : ℕ) → ℕ → ℕ → List ℕ
natural_spelling zero f e = []
natural_spelling (suc digits) f e =
    if nat_lt e 16 then (16 * f + e) ∷ [] else natural_spelling digits 2 (e / 16) ++ (16 * f + e % 16) ∷ []

-- Below zero: nfix of the complement shifted down by four, and a byte with the last digit. (The complement of negsuc c
-- is c.)
unfoldable pub canonical : ℕ → ℤ → List ℕ
canonical f (pos e) = natural_spelling 8 f e
canonical f (negsuc c) = natural_spelling 7 6 (c / 16) ++ (16 * f + (15 - c % 16)) ∷ []
