-- Spellings: how prefix bytes and one other byte spell a function and its operand.
--
-- Compiler Writer's Guide, "Prefixing": an instruction byte has its function in the high four bits and data in the
-- low four. Each byte loads its data into Oreg. pfix then shifts Oreg up four places; nfix complements it first.
use Rattle.std.specs.Prelude.{◌≡◌, ℕ, ◌+◌, ◌*◌, ◌/◌, ◌%◌, ◌<◌, ◌≤◌, Bool, ◌||◌, ◌==◌, IsTrue, if◌then◌else◌, ℤ, pos}
use Rattle.std.specs.Prelude.{List, [], ◌∷◌, length, take, slice_range, Option, Some, None}
use Rattle.std.specs.List.{list_all}
use Rattle.tp_words.specs.Words.{signed, low_word, complement}
use Rattle.tp_prefix.specs.declared.spelled.Spelled.{Spelled}

-- the function in a byte, and its data
abbrev pub function_of : ℕ → ℕ
function_of byte = byte / 16

abbrev pub digit_of : ℕ → ℕ
digit_of byte = byte % 16

abbrev pub is_pfix : ℕ → Bool
is_pfix byte = function_of byte == 2

abbrev pub is_nfix : ℕ → Bool
is_nfix byte = function_of byte == 6

abbrev pub is_prefix : ℕ → Bool
is_prefix byte = is_pfix byte || is_nfix byte

-- what pfix and nfix make of Oreg with their data in it
abbrev pub shifted : ℕ → ℕ
shifted oreg = low_word (pos (16 * oreg))

abbrev pub shifted_complement : ℕ → ℕ
shifted_complement oreg = shifted (complement oreg)

-- the function and the operand that bytes spell, from what Oreg holds
unfoldable pub spelled : ℕ → List ℕ → Option (ℕ × ℤ)
spelled oreg [] = None
spelled oreg (b ∷ []) = if is_prefix b then None else Some (function_of b, signed (oreg + digit_of b))
spelled oreg (b ∷ c ∷ rest) =
    if is_pfix b then spelled (shifted (oreg + digit_of b)) (c ∷ rest)
    else if is_nfix b then spelled (shifted_complement (oreg + digit_of b)) (c ∷ rest)
    else None

-- 0 to 7 prefix bytes and one other byte, which spell this function and this operand
pub record IsSpelling (bytes : List ℕ) (function : ℕ) (operand : ℤ) : Type 0 where
  pub short : length bytes ≤ 8
  pub spells : spelled 0 bytes ≡ Some (function, operand)

-- the spelling in a code at an address, up to the next
pub record IsSpelledAt (code : List ℕ) (at : ℕ) (s : Spelled) : Type 0 where
  pub forward : at ≤ s.next
  pub within : s.next ≤ length code
  pub spelling : IsSpelling (slice_range code at s.next) s.function s.operand

-- a code that ends after 1 to 7 prefixes
pub record IsCutOff (code : List ℕ) : Type 0 where
  pub some : 0 < length code
  pub few : length code < 8
  pub prefixes : IsTrue (list_all is_prefix code)

-- a code that begins with eight prefixes
pub record IsTooLong (code : List ℕ) : Type 0 where
  pub many : 8 ≤ length code
  pub prefixes : IsTrue (list_all is_prefix (take 8 code))
