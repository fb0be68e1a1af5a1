-- What numbers, characters and texts spell.
use Rattle.std.specs.Prelude.{ℕ, ◌+◌, ◌*◌, ◌^◌, ◌==◌, nat_lt, nat_le, if◌then◌else◌, Option, Some, None}
use Rattle.std.specs.Prelude.{List, [], ◌∷◌, length}
use Rattle.tpw_occam_terms.specs.Spelling.{digit, letter}
use Rattle.tpw_occam_meaning.specs.Maybe.{and_then, where_true}

-- the number behind one, by further digits of a base
abbrev pub further : ℕ → ℕ → List ℕ → Option ℕ
further base n [] = Some n
further base n (c ∷ more) =
    and_then (digit c) (λ digit. where_true (nat_lt digit base) (further base (base * n + digit) more))

-- a decimal number is at most 2147483647
abbrev pub decimal : List ℕ → Option ℕ
decimal digits = and_then (further 10 0 digits) (λ n. where_true (nat_lt n (2 ^ 31)) (Some n))

-- behind # stand one to eight digits
abbrev pub hexadecimal : List ℕ → Option ℕ
hexadecimal digits =
    where_true (nat_lt 0 (length digits)) (where_true (nat_le (length digits) 8) (further 16 0 digits))

-- the number that is spelled
abbrev pub number : List ℕ → Option ℕ
number [] = None
number (c ∷ more) = if c == 35 then hexadecimal more else decimal (c ∷ more)

-- what stands in front of a character of a text: none of its own, a *, a *#, or a *# and a digit
pub data Escape : Type 0 where
  Plain : Escape
  Star : Escape
  Hash : Escape
  High : ℕ → Escape

abbrev pub in_front : ℕ → Option (List ℕ) → Option (List ℕ)
in_front byte bytes = and_then bytes (λ bytes. Some (byte ∷ bytes))

-- the bytes that a text spells, which goes on behind such an escape
abbrev pub spelled_behind : Escape → List ℕ → Option (List ℕ)
spelled_behind Plain [] = Some []
spelled_behind Plain (c ∷ more) =
    if c == 42 then spelled_behind Star more
    else where_true (nat_lt c 128) (in_front c (spelled_behind Plain more))
spelled_behind Star (c ∷ more) =
    if c == 35 then spelled_behind Hash more
    else and_then (letter c) (λ byte. in_front byte (spelled_behind Plain more))
spelled_behind Hash (c ∷ more) = and_then (digit c) (λ high. spelled_behind (High high) more)
spelled_behind (High high) (c ∷ more) =
    and_then (digit c) (λ low. in_front (16 * high + low) (spelled_behind Plain more))
spelled_behind other [] = None

-- the bytes of a text
abbrev pub text : List ℕ → Option (List ℕ)
text spelled = spelled_behind Plain spelled

abbrev pub only : List ℕ → Option ℕ
only (byte ∷ []) = Some byte
only other = None

-- the byte of a character
abbrev pub character : List ℕ → Option ℕ
character spelled = and_then (text spelled) only
