-- How often a number is in a list, and among what is in hand.
use Rattle.std.specs.Prelude.{◌≡◌, ℕ, ◌+◌, ◌==◌, ltb, List, [], ◌∷◌, Option, Some, None, if◌then◌else◌}

-- how often x is in the list
abbrev pub times : ℕ → List ℕ → ℕ
times x [] = 0
times x (y ∷ ys) = (if y == x then 1 else 0) + times x ys

-- 1 where x is below n, and else 0
abbrev pub once_below : ℕ → ℕ → ℕ
once_below x n = if ltb x n then 1 else 0

-- the list has the numbers below n, each once, and nothing else
abbrev pub AreBelow : List ℕ → ℕ → Type 0
AreBelow xs n = (x : ℕ) → times x xs ≡ once_below x n

-- what a hand has, as a list of at most one number
abbrev pub hand_list : Option ℕ → List ℕ
hand_list None = []
hand_list (Some n) = n ∷ []

-- how often x is in one of the hands
abbrev pub times_in_hands : ℕ → List (Option ℕ) → ℕ
times_in_hands x [] = 0
times_in_hands x (h ∷ hs) = times x (hand_list h) + times_in_hands x hs
