-- What is written of images.
use Rattle.std.specs.Prelude.{◌≡◌, ℕ, List, ◌++◌, codes, Option, Some, None}
use Rattle.hex.specs.Hex.{encode_lower}
use Rattle.tpw_assembly.specs.Programs.{IsAssembledTo}

-- an image in hexadecimal on a line, behind `NAME IMAGE` where a name is given
abbrev pub image_line : Option (List ℕ) → List ℕ → List ℕ
image_line None bytes = encode_lower bytes ++ codes "\n"
image_line (Some name) bytes = name ++ codes " IMAGE " ++ encode_lower bytes ++ codes "\n"

-- a line has the image of the program that an assembly text says, behind `NAME IMAGE` where a name is given
pub record IsImageLine (text : List ℕ) (name : Option (List ℕ)) (line : List ℕ) : Type 0 where
  pub bytes : List ℕ
  pub image : IsAssembledTo text bytes
  pub written : line ≡ image_line name bytes
