-- The words that name places of a run.
use Rattle.std.specs.Prelude.{◌≡◌, ◌<◌, ◌^◌, ◌⊎◌, ℕ, List, ◌++◌, codes}
use Rattle.std.specs.Str.Parse.{IsNumeral, digits_value}
use Rattle.tpw_step.specs.declared.span.Place.{Place}
use Rattle.tpw_step.specs.declared.span.Place.TheVariants.{Address, Count}

-- one digit or more of a radix, and nothing else, that write a number
abbrev pub Writes : ℕ → List ℕ → ℕ → Type 0
Writes radix digits number = IsNumeral radix digits × (digits_value radix digits ≡ number)

-- An address, in decimal or behind 0x in hexadecimal; a count of steps, in decimal behind a plus.
abbrev pub Names : List ℕ → Place → Type 0
Names word (Address address) = (address < 2 ^ 32)
    × (Writes 10 word address ⊎ ((digits : List ℕ) × (word ≡ codes "0x" ++ digits) × Writes 16 digits address))
Names word (Count steps) = (steps < 2 ^ 64)
    × ((digits : List ℕ) × (word ≡ codes "+" ++ digits) × Writes 10 digits steps)
