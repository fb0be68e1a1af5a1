-- What is spelled between the quotes of a text.
use Rattle.std.specs.Prelude.{◌≡◌, ℕ, ◌+◌, ◌-◌, ◌*◌, ◌==◌, ◌||◌, ◌&&◌, nat_lt, nat_le, if◌then◌else◌}
use Rattle.std.specs.Prelude.{Option, Some, None, List, [], ◌∷◌}

-- the number that a hexadecimal digit stands for: 0 to 9, or A to F
abbrev pub digit : ℕ → Option ℕ
digit c =
    if nat_le 48 c && nat_le c 57 then Some (c - 48)
    else (if nat_le 65 c && nat_le c 70 then Some (c - 55) else None)

abbrev pub two_digits : Option ℕ → Option ℕ → List ℕ → Option (ℕ × List ℕ)
two_digits (Some high) (Some low) behind = Some (16 * high + low, behind)
two_digits high low behind = None

-- the byte that two digits behind *# spell, and what stands behind them
abbrev pub hexadecimal : List ℕ → Option (ℕ × List ℕ)
hexadecimal (high ∷ low ∷ behind) = two_digits (digit high) (digit low) behind
hexadecimal short = None

-- the byte that a character behind * stands for: of c, n, t, s, and of quotes and *
abbrev pub letter : ℕ → Option ℕ
letter c =
    if (c == 99) || (c == 67) then Some 13
    else (if (c == 110) || (c == 78) then Some 10
    else (if (c == 116) || (c == 84) then Some 9
    else (if (c == 115) || (c == 83) then Some 32
    else (if (c == 39) || (c == 34) || (c == 42) then Some c
    else None))))

abbrev pub in_front : Option ℕ → List ℕ → Option (ℕ × List ℕ)
in_front (Some byte) behind = Some (byte, behind)
in_front None behind = None

-- what stands behind *
abbrev pub escaped : List ℕ → Option (ℕ × List ℕ)
escaped [] = None
escaped (c ∷ behind) = if c == 35 then hexadecimal behind else in_front (letter c) behind

-- the byte that the front of a text spells, and what stands behind: each character of ASCII itself, but for *
abbrev pub front : List ℕ → Option (ℕ × List ℕ)
front [] = None
front (c ∷ behind) = if c == 42 then escaped behind else (if nat_lt c 128 then Some (c, behind) else None)

-- a text spells these bytes, up to what spells nothing
pub data Spells : List ℕ → List ℕ → Type 0 where
  stops : {spelled : List ℕ} → front spelled ≡ None → Spells spelled []
  goes_on : {spelled behind bytes : List ℕ} {byte : ℕ} → front spelled ≡ Some (byte, behind) →
      Spells behind bytes → Spells spelled (byte ∷ bytes)
