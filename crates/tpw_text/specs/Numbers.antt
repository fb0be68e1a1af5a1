-- Numbers of 32 bits, as a text writes them.
use Rattle.std.specs.Prelude.{ℕ, ◌^◌, ◌==◌, ◌&&◌, ◌||◌, nat_eq, nat_lt, nat_le, codes, ℤ, pos, neg_ℤ, Bool, false}
use Rattle.std.specs.Prelude.{if◌then◌else◌, List, [], ◌∷◌, length, drop, Option, Some, None}
use Rattle.std.specs.Int.{w32, cast_signed, cast_unsigned}
use Rattle.std.specs.List.{list_all, starts_with}
use Rattle.std.specs.Option.{option_map, option_and_then}
use Rattle.std.specs.Char.{is_digit, is_ascii_digit}
use Rattle.std.specs.Str.Parse.{digits_value}

-- one digit or more of a radix, and nothing else
abbrev pub are_digits : ℕ → List ℕ → Bool
are_digits radix digits = nat_lt 0 (length digits) && list_all (λ b. is_digit b radix) digits

-- the number that digits of a radix write, if it has 32 bits
unfoldable pub digits_said : ℕ → List ℕ → Option ℕ
digits_said radix digits =
    if are_digits radix digits && nat_lt (digits_value radix digits) (2 ^ 32) then Some (digits_value radix digits)
    else None

-- a natural number in decimal, or in hexadecimal behind # or 0x
unfoldable pub natural_said : List ℕ → Option ℕ
natural_said word =
    if starts_with nat_eq word (codes "#") then digits_said 16 (drop 1 word)
    else if starts_with nat_eq word (codes "0x") then digits_said 16 (drop 2 word)
    else digits_said 10 word

-- the number behind a minus, if a word holds it
abbrev pub negative : ℕ → Option ℤ
negative n = if nat_le n (2 ^ 31) then Some (neg_ℤ (pos n)) else None

-- a number behind a minus, or the word of 32 bits that a natural number is
unfoldable pub signed_said : List ℕ → Option ℤ
signed_said word =
    if starts_with nat_eq word (codes "-") then option_and_then negative (natural_said (drop 1 word))
    else option_map (cast_signed w32) (natural_said word)

-- a number of 32 bits that is not above a limit
abbrev pub up_to : ℕ → ℕ → Option ℕ
up_to most n = if nat_le n most then Some n else None

unfoldable pub count_said : ℕ → List ℕ → Option ℕ
count_said most word = option_and_then (up_to most) (option_map (cast_unsigned w32) (signed_said word))

-- a number begins with a digit, # or -
abbrev pub begins_number : List ℕ → Bool
begins_number [] = false
begins_number (b ∷ word) = is_ascii_digit b || ((b == 35) || (b == 45))
