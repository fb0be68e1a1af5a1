-- Lines and columns of a text, from 1. Columns count bytes.
use Rattle.std.specs.Prelude.{ℕ, ◌+◌, ◌==◌, if◌then◌else◌, List, [], ◌∷◌, take}
use Rattle.tpw_text.specs.declared.words.Position.{Position}

-- behind a byte: a line feed ends its line
abbrev pub behind : Position → ℕ → Position
behind p b =
    if b == 10 then record { line = p.line + 1; column = 1 } else record { line = p.line; column = p.column + 1 }

abbrev pub behind_all : Position → List ℕ → Position
behind_all p [] = p
behind_all p (b ∷ bytes) = behind_all (behind p b) bytes

-- behind the first bytes of a text
abbrev pub position_behind : List ℕ → ℕ → Position
position_behind text bytes = behind_all record { line = 1; column = 1 } (take bytes text)
