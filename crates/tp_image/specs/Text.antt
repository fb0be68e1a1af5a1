-- The one text of each image: a header, the loop rows, the initial words and the code.
use Rattle.std.specs.Prelude.{◌≡◌, ℕ, List, [], ◌++◌, length, codes}
use Rattle.std.specs.List.{flat_map}
use Rattle.std.specs.Int.{w16, w32, to_le_bytes, cast_unsigned}
use Rattle.tp_image.specs.declared.image.Version.{Version}
use Rattle.tp_image.specs.declared.image.Version.TheVariants.{One, Two}
use Rattle.tp_image.specs.declared.image.LoopRow.{LoopRow}
use Rattle.tp_image.specs.declared.header.Header.{Header}
use Rattle.tp_image.specs.Image.{ImageValue, InRange}

-- the bytes that an image begins with
abbrev pub magic : Version → List ℕ
magic One = codes "TPW1"
magic Two = codes "TPW2"

-- 16 bits, low byte first
abbrev pub half_word : ℕ → List ℕ
half_word n = to_le_bytes w16 n

-- 32 bits, low byte first
abbrev pub word : ℕ → List ℕ
word n = to_le_bytes w32 n

-- version 1 does not say how many initial words there are
abbrev pub initial_count : Version → ℕ → List ℕ
initial_count One n = []
initial_count Two n = half_word n

abbrev pub header_text : Header → List ℕ
header_text h =
    magic h.version ++ half_word h.code ++ half_word h.workspace ++ half_word h.start ++ half_word h.packet
    ++ half_word h.result ++ half_word h.loops
    ++ initial_count h.version h.initial

abbrev pub row_text : LoopRow → List ℕ
row_text row =
    half_word row.head ++ half_word row.lend ++ half_word row.control ++ half_word row.count
    ++ word (cast_unsigned w32 row.start)

-- what an image's header says
abbrev pub header_of : ImageValue → Header
header_of image = record {
  version = image.version;
  code = length image.code;
  workspace = image.workspace;
  start = image.start;
  packet = image.packet;
  result = image.result;
  loops = length image.loops;
  initial = length image.initial;
}

abbrev pub text : ImageValue → List ℕ
text image = header_text (header_of image) ++ flat_map row_text image.loops ++ flat_map word image.initial ++ image.code

-- The grammar: the bytes are the text of an image that has each field in its range.
abbrev pub IsTextOf : List ℕ → ImageValue → Type 0
IsTextOf bytes image = InRange image × (bytes ≡ text image)
