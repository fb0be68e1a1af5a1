-- The packets that a command line asks for, in order, and where each is said.
use Rattle.std.specs.Prelude.{ℕ, suc, zero, ◌-◌, Bool, false, List, [], ◌∷◌, ◌++◌, length, map, take, drop, Option}
use Rattle.std.specs.Prelude.{Some, None, string_bytes}
use Rattle.tpw_files.specs.Names.{is_standard}
use Rattle.tpw_command_line.specs.declared.packet_source.Origin.{Origin}
use Rattle.tpw_command_line.specs.declared.packet_source.Origin.TheVariants as origin
use Rattle.tpw_command_line.specs.declared.packet_source.PacketFile.{PacketFile}

-- words of the command line, or a file and the number of a packet in it
pub data OriginSaid : Type 0 where
  InWords : (words : List ℕ) → OriginSaid
  InFile : (name : List ℕ) (number : ℕ) → OriginSaid

abbrev pub origin_said : Origin → OriginSaid
origin_said (origin.Words words) = InWords words.now
origin_said (origin.File name number) = InFile name.now number

-- a number of packets of a file, from a number on
abbrev pub in_file : List ℕ → (number count : ℕ) → List OriginSaid
in_file name number zero = []
in_file name number (suc count) = InFile name number ∷ in_file name (suc number) count

abbrev pub is_standard_file : Option PacketFile → Bool
is_standard_file None = false
is_standard_file (Some file) = is_standard (string_bytes file.name)

abbrev pub words_said : List (List ℕ) → List OriginSaid
words_said words = map InWords words

-- where packets are said: by words, of which some come before those of a file
abbrev pub origins : (words : List (List ℕ)) → Option PacketFile → (packets : ℕ) → List OriginSaid
origins words None packets = words_said words
origins words (Some file) packets =
    words_said (take file.after words)
    ++ (in_file (string_bytes file.name) 0 (packets - length words) ++ words_said (drop file.after words))
