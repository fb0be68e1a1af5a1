-- What an image says, with each field in the range of its version.
use Rattle.std.specs.Prelude.{ℕ, ◌<◌, ◌≤◌, ◌^◌, List, length, All, FitsSigned}
use Rattle.std.specs.Int.{w32}
use Rattle.tp_image.specs.declared.image.Version.{Version}
use Rattle.tp_image.specs.declared.image.Version.TheVariants.{One, Two}
use Rattle.tp_image.specs.declared.image.LoopRow.{LoopRow}
use Rattle.tp_image.specs.Limits.{most_code, least_workspace, most_workspace, least_start, most_message, most_loops}

-- an image without where it lies in memory
pub record ImageValue : Type 0 where
  pub version : Version
  pub workspace : ℕ
  pub start : ℕ
  pub packet : ℕ
  pub result : ℕ
  pub loops : List LoopRow
  pub initial : List ℕ
  pub code : List ℕ

-- the number in the magic
abbrev pub number_of : Version → ℕ
number_of One = 1
number_of Two = 2

-- version 1 has no initial words
abbrev pub most_initial : Version → ℕ → ℕ
most_initial One workspace = 0
most_initial Two workspace = workspace

-- a number from least to most
abbrev pub IsWithin : ℕ → ℕ → ℕ → Type 0
IsWithin least most n = (least ≤ n) × (n ≤ most)

-- what four fields of 16 bits and a signed one of 32 bits can say
pub record IsRow (row : LoopRow) : Type 0 where
  pub head : row.head < 2 ^ 16
  pub lend : row.lend < 2 ^ 16
  pub control : row.control < 2 ^ 16
  pub count : row.count < 2 ^ 16
  pub start : FitsSigned w32 row.start

-- each field in the range of the image's version
pub record InRange (image : ImageValue) : Type 0 where
  pub code : IsWithin 1 (most_code image.version) (length image.code)
  pub workspace : IsWithin least_workspace (most_workspace image.version) image.workspace
  pub start_least : least_start ≤ image.start
  pub start_most : image.start < image.workspace
  pub packet : IsWithin 1 most_message image.packet
  pub result : IsWithin 1 most_message image.result
  pub loops : length image.loops ≤ most_loops
  pub initial : length image.initial ≤ most_initial image.version image.workspace
  pub rows : All IsRow image.loops
  pub words : All (λ word. word < 2 ^ 32) image.initial
  pub bytes : All (λ byte. byte < 256) image.code
