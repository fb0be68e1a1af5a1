-- The places of a header's fields, in bytes from the image's first, and how long the parts of an image are.
use Rattle.std.specs.Prelude.{ℕ}
use Rattle.tp_image.specs.declared.image.Version.{Version}
use Rattle.tp_image.specs.declared.image.Version.TheVariants.{One, Two}

abbrev pub code_at : ℕ
code_at = 4

abbrev pub workspace_at : ℕ
workspace_at = 6

abbrev pub start_at : ℕ
start_at = 8

abbrev pub packet_at : ℕ
packet_at = 10

abbrev pub result_at : ℕ
result_at = 12

abbrev pub loops_at : ℕ
loops_at = 14

-- in version 2
abbrev pub initial_at : ℕ
initial_at = 16

-- the bytes of a header, its magic counted
abbrev pub header_bytes : Version → ℕ
header_bytes One = 16
header_bytes Two = 18

-- the bytes of a loop row
abbrev pub row_bytes : ℕ
row_bytes = 12

-- the bytes of an initial word
abbrev pub word_bytes : ℕ
word_bytes = 4
