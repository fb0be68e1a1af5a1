-- How a line is read: by what stands before and behind its first space.
use Rattle.std.specs.Prelude.{ℕ, nat_le, ◌&&◌, ◌||◌, Bool, if◌then◌else◌, List, length, take, drop, codes, Option, Some}
use Rattle.std.specs.Prelude.{None}
use Rattle.std.specs.List.{list_all}
use Rattle.std.specs.Option.{option_map}
use Rattle.tp_requests.specs.Fields.{is_text, hex_bytes}
use Rattle.tp_requests.specs.Requests.{Asked, ToList, ToOpen, ToKeep, ToRun, ToRunAll, ToDrop}

abbrev pub space : ℕ
space = 32

-- `a` to `z`, `0` to `9`
abbrev pub is_name_byte : ℕ → Bool
is_name_byte b = (nat_le 97 b && nat_le b 122) || (nat_le 48 b && nat_le b 57)

abbrev pub is_name : List ℕ → Bool
is_name field = nat_le 1 (length field) && nat_le (length field) 16 && list_all is_name_byte field

abbrev pub begins : List ℕ → List ℕ → Bool
begins words text = is_text (take (length text) words) text

-- what is asked of the session of a name, by the words behind it
abbrev pub of_name : List ℕ → List ℕ → Option Asked
of_name name words =
    if begins words (codes "PACKET ") then option_map (ToKeep name) (hex_bytes (drop 7 words))
    else if begins words (codes "IMAGE ") then option_map (ToOpen name) (hex_bytes (drop 6 words))
    else if is_text words (codes "RUN") then Some (ToRun name)
    else if is_text words (codes "DROP") then Some (ToDrop name)
    else None

abbrev pub of_parts : List ℕ → List ℕ → Option Asked
of_parts first words =
    if is_text first (codes "LIST") then option_map ToList (hex_bytes words)
    else if is_text first (codes "RUN") && is_text words (codes "*") then Some ToRunAll
    else if is_name first then of_name first words
    else None
