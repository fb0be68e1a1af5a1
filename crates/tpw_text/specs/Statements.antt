-- What the words of a statement are, and what is read of them.
use Rattle.std.specs.Prelude.{ℕ, nat_le, ℤ, ◌||◌, Bool, if◌then◌else◌, List, Option, Some, None, Result, Ok, Err}
use Rattle.std.specs.Prelude.{slice_get}
use Rattle.std.specs.Int.{w32, cast_unsigned}
use Rattle.std.specs.Option.{ok_or}
use Rattle.std.specs.Str.{str_eq_ignore_ascii_case}
use Rattle.tpw_text.specs.declared.words.Word.{Word}
use Rattle.tpw_text.specs.declared.fault.SourceFault.{SourceFault}
use Rattle.tpw_text.specs.declared.fault.TextFault.TheVariants.{Missing, Extra, Unexpected, NoName, NoNumber}
use Rattle.tpw_text.specs.declared.fault.TextFault.TheVariants.{OutOfRange}
use Rattle.tpw_text.specs.Faults.{fault_at, then_read}
use Rattle.tpw_text.specs.declared.draft.Target.{Target}
use Rattle.tpw_text.specs.declared.draft.Target.TheVariants.{Label, Address}
use Rattle.tpw_text.specs.Limits.{most_count}
use Rattle.tpw_text.specs.Numbers.{signed_said, begins_number}
use Rattle.tpw_text.specs.Words.{begins, is_mark}

-- the word of a number, behind another
unfoldable pub word_said : List Word → ℕ → Word → Result Word SourceFault
word_said words i behind = ok_or (slice_get words i) (fault_at behind Missing)

-- a name is no mark, and does not begin as a number does
unfoldable pub is_no_name : List ℕ → Bool
is_no_name text = begins is_mark text || begins_number text

abbrev pub name_said : Word → Result Word SourceFault
name_said word = if is_no_name word.text.now then Err (fault_at word NoName) else Ok word

-- a word that has to be this one
abbrev pub this_word : Word → List ℕ → Result Word SourceFault
this_word word name = if str_eq_ignore_ascii_case word.text.now name then Ok word else Err (fault_at word Unexpected)

-- the number that a word writes
unfoldable pub number_read : Word → Result ℤ SourceFault
number_read word = ok_or (signed_said word.text.now) (fault_at word NoNumber)

-- the same, not above a limit
abbrev pub within : Word → ℕ → ℕ → Result ℕ SourceFault
within word most n = if nat_le n most then Ok n else Err (fault_at word OutOfRange)

unfoldable pub count_read : ℕ → Word → Result ℕ SourceFault
count_read most word = then_read (number_read word) (λ n. within word most (cast_unsigned w32 n))

-- nothing stands at a word, or behind it
abbrev pub nothing_at : Option Word → Result (Unit {0}) SourceFault
nothing_at None = Ok tt
nothing_at (Some word) = Err (fault_at word Extra)

unfoldable pub end_said : List Word → ℕ → Result (Unit {0}) SourceFault
end_said words i = nothing_at (slice_get words i)

-- the one number of a statement
unfoldable pub one_number_said : List Word → Word → ℕ → Result ℕ SourceFault
one_number_said words first most = then_read (word_said words 1 first)
    (λ word. then_read (end_said words 2) (λ _. count_read most word))

-- a word of a number, which has to be this one
unfoldable pub expect_said : List Word → ℕ → Word → List ℕ → Result Word SourceFault
expect_said words i behind name = then_read (word_said words i behind) (λ word. this_word word name)

-- a label, or an address of 16 bits
unfoldable pub target_said : Word → Result Target SourceFault
target_said word =
    if begins_number word.text.now then then_read (count_read most_count word) (λ n. Ok (Address n))
    else Ok (Label word)
