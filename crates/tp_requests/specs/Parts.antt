-- Bytes that are parted at the first of a kind.
use Rattle.std.specs.Prelude.{◌≡◌, ℕ, nat_eq, false, List}
use Rattle.std.specs.List.{AllByRecursion}

-- none of them is this one
abbrev pub IsWithout : ℕ → List ℕ → Type 0
IsWithout byte bytes = AllByRecursion (λ b. nat_eq b byte ≡ false) bytes
