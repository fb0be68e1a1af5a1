-- The lines of the protocol, each as it is spelled.
use Rattle.std.specs.Prelude.{◌≡◌, ℕ, ◌≤◌, List, ◌++◌, length, codes, Option, Some, None, Ok}
use Rattle.std.specs.List.{All, Contains}
use Rattle.hex.specs.Hex.{IsBytes, decode_of, encode_lower}
use Rattle.tp_requests.specs.Requests.{Asked, ToList, ToOpen, ToKeep, ToRun, ToRunAll, ToDrop}

-- what names are spelled with
abbrev pub name_characters : List ℕ
name_characters = codes "abcdefghijklmnopqrstuvwxyz0123456789"

-- the name of a session
pub record IsName (name : List ℕ) : Type 0 where
  pub some : 1 ≤ length name
  pub most : length name ≤ 16
  pub characters : All (λ b. Contains name_characters b) name

-- two or more hexadecimal digits of either case, an even number, that spell these bytes
pub record AreDigitsFor (digits bytes : List ℕ) : Type 0 where
  pub some : 2 ≤ length digits
  pub spell : decode_of digits ≡ Ok bytes

-- a line that asks for this
abbrev pub IsLineFor : List ℕ → Asked → Type 0
IsLineFor line (ToList code) = (digits : List ℕ) × AreDigitsFor digits code × (line ≡ codes "LIST " ++ digits)
IsLineFor line (ToOpen name text) =
    (digits : List ℕ) × IsName name × AreDigitsFor digits text × (line ≡ name ++ codes " IMAGE " ++ digits)
IsLineFor line (ToKeep name bytes) =
    (digits : List ℕ) × IsName name × AreDigitsFor digits bytes × (line ≡ name ++ codes " PACKET " ++ digits)
IsLineFor line (ToRun name) = IsName name × (line ≡ name ++ codes " RUN")
IsLineFor line ToRunAll = line ≡ codes "RUN *"
IsLineFor line (ToDrop name) = IsName name × (line ≡ name ++ codes " DROP")

-- what a line asks for, if it is a line of the protocol
abbrev pub AsksFor : List ℕ → Option Asked → Type 0
AsksFor line (Some request) = IsLineFor line request
AsksFor line None = (request : Asked) → IsLineFor line request → ⊥

-- what digits may spell: one byte or more
pub record MayBeSpelled (bytes : List ℕ) : Type 0 where
  pub some : 1 ≤ length bytes
  pub small : IsBytes bytes

-- what a line may ask for
abbrev pub MayBeAsked : Asked → Type 0
MayBeAsked (ToList code) = MayBeSpelled code
MayBeAsked (ToOpen name text) = IsName name × MayBeSpelled text
MayBeAsked (ToKeep name bytes) = IsName name × MayBeSpelled bytes
MayBeAsked (ToRun name) = IsName name
MayBeAsked ToRunAll = Unit {0}
MayBeAsked (ToDrop name) = IsName name

-- the line that asks for this with digits in lower case
abbrev pub line_for : Asked → List ℕ
line_for (ToList code) = codes "LIST " ++ encode_lower code
line_for (ToOpen name text) = name ++ codes " IMAGE " ++ encode_lower text
line_for (ToKeep name bytes) = name ++ codes " PACKET " ++ encode_lower bytes
line_for (ToRun name) = name ++ codes " RUN"
line_for ToRunAll = codes "RUN *"
line_for (ToDrop name) = name ++ codes " DROP"
