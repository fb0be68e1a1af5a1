-- The first test that bytes fail.
use Rattle.std.specs.Prelude.{◌≡◌, ◌≤◌, ℕ, ◌+◌, ◌*◌, Bool, List, [], ◌∷◌, ◌++◌, length, slice_index, Option, Some, None}
use Rattle.std.specs.Prelude.{nat_eq, nat_lt, nat_le, ◌||◌, if◌then◌else◌}
use Rattle.std.specs.List.{starts_with}
use Rattle.tp_image.specs.declared.fault.ImageCode.{ImageCode}
use Rattle.tp_image.specs.declared.fault.ImageCode.TheVariants.{F1, F2, F3, F4, F5, F6, F7, F8, F9, F10}
use Rattle.tp_image.specs.declared.fault.ImageFault.{ImageFault}
use Rattle.tp_image.specs.declared.fault.ImageFault.TheVariants.{Refused}
use Rattle.tp_image.specs.declared.image.Version.{Version}
use Rattle.tp_image.specs.declared.image.Version.TheVariants.{One, Two}
use Rattle.tp_image.specs.declared.header.Header.{Header}
use Rattle.tp_image.specs.Layout.{code_at, workspace_at, start_at, packet_at, result_at, loops_at, initial_at}
use Rattle.tp_image.specs.Layout.{header_bytes, row_bytes, word_bytes}
use Rattle.tp_image.specs.Limits.{most_code, least_workspace, most_workspace, least_start, most_message, most_loops}
use Rattle.tp_image.specs.Image.{most_initial}
use Rattle.tp_image.specs.Text.{magic}

-- the version that the first four bytes spell
abbrev pub version_of : List ℕ → Option Version
version_of bytes =
    if starts_with nat_eq bytes (magic One) then Some One
    else if starts_with nat_eq bytes (magic Two) then Some Two
    else None

-- the field of 16 bits at a place
abbrev pub half_word_at : List ℕ → ℕ → ℕ
half_word_at bytes place = slice_index bytes place + 256 * slice_index bytes (place + 1)

-- version 1 has no initial words
abbrev pub initial_count_at : Version → List ℕ → ℕ
initial_count_at One bytes = 0
initial_count_at Two bytes = half_word_at bytes initial_at

-- what the bytes of a header say
abbrev pub header_at : Version → List ℕ → Header
header_at version bytes = record {
  version = version;
  code = half_word_at bytes code_at;
  workspace = half_word_at bytes workspace_at;
  start = half_word_at bytes start_at;
  packet = half_word_at bytes packet_at;
  result = half_word_at bytes result_at;
  loops = half_word_at bytes loops_at;
  initial = initial_count_at version bytes;
}

-- how many bytes an image with this header has
abbrev pub image_bytes : Header → ℕ
image_bytes h = header_bytes h.version + row_bytes * h.loops + word_bytes * h.initial + h.code

-- A test: where it is true, the bytes are refused.
pub record Test : Type 0 where
  pub fails : Bool
  pub code : ImageCode
  pub place : ℕ

abbrev pub test : Bool → ImageCode → ℕ → Test
test fails code place = record { fails = fails; code = code; place = place }

abbrev pub is_outside : ℕ → ℕ → ℕ → Bool
is_outside least most n = nat_lt n least || nat_lt most n

-- the tests on the fields of a header, in their order
abbrev pub field_tests : Header → List Test
field_tests h =
    test (is_outside 1 (most_code h.version) h.code) F3 code_at
    ∷ test (is_outside least_workspace (most_workspace h.version) h.workspace) F4 workspace_at
    ∷ test (nat_lt h.start least_start || nat_le h.workspace h.start) F5 start_at
    ∷ test (is_outside 1 most_message h.packet) F6 packet_at
    ∷ test (is_outside 1 most_message h.result) F7 result_at
    ∷ test (nat_lt most_loops h.loops) F8 loops_at
    ∷ test (nat_lt (most_initial h.version h.workspace) h.initial) F10 initial_at
    ∷ []

-- the tests on a header of an image of this many bytes: its fields, then the size
abbrev pub header_tests : Header → ℕ → List Test
header_tests h bytes =
    field_tests h
    ++ test (nat_lt bytes (image_bytes h)) F2 bytes
    ∷ test (nat_lt (image_bytes h) bytes) F9 (image_bytes h)
    ∷ []

-- the refusal of the first test that fails
abbrev pub first_refusal : List Test → Option ImageFault
first_refusal [] = None
first_refusal (t ∷ ts) = if t.fails then Some (Refused t.code t.place) else first_refusal ts

-- the refusal of a header for one of its fields
abbrev pub field_fault : Header → Option ImageFault
field_fault h = first_refusal (field_tests h)

-- the refusal of a header of an image of this many bytes
abbrev pub header_fault : Header → ℕ → Option ImageFault
header_fault h bytes = first_refusal (header_tests h bytes)

-- The magic is tested first, then that the header is whole, then what it says.
abbrev pub fault_of : Option Version → List ℕ → Option ImageFault
fault_of None bytes = Some (Refused F1 0)
fault_of (Some version) bytes =
    if nat_lt (length bytes) (header_bytes version) then Some (Refused F2 (length bytes))
    else header_fault (header_at version bytes) (length bytes)

-- the refusal of the first test that the bytes fail
unfoldable pub first_fault : List ℕ → Option ImageFault
first_fault bytes = fault_of (version_of bytes) bytes

-- The header is at the front of the bytes, and no test fails.
pub record IsWholeHeader (h : Header) (bytes : List ℕ) : Type 0 where
  pub version : version_of bytes ≡ Some h.version
  pub long : header_bytes h.version ≤ length bytes
  pub fields : h ≡ header_at h.version bytes
  pub passes : header_fault h (length bytes) ≡ None
