-- What is known of a register, and of what is made of registers.
use Rattle.std.specs.Prelude.{ℕ, ◌*◌, ◌^◌, ◌<◌, ◌==◌, Bool, false, ◌&&◌, nat_lt, if◌then◌else◌, ℤ, pos, negsuc, Result}
use Rattle.std.specs.Prelude.{Ok, Err, FitsSigned}
use Rattle.std.specs.Ordering.{int_eq}
use Rattle.std.specs.Int.{w32, int_min, int_max}
use Rattle.tp_image.specs.Image.{ImageValue}
use Rattle.tp_words.specs.Numbers.{least_integer, greatest_integer, overflows}
use Rattle.tp_state.specs.declared.kind.Kind.{Kind}
use Rattle.tp_state.specs.declared.kind.Kind.TheVariants.{Undef, Int, Ptr, BytePtr}
use Rattle.tp_state.specs.declared.fault.StateCode.{StateCode}
use Rattle.tp_state.specs.declared.fault.StateCode.TheVariants.{S1, S2, S3}

-- ---- kinds

-- any number
abbrev pub full : Kind
full = Int least_integer greatest_integer

-- one number
abbrev pub exactly : ℤ → Kind
exactly n = Int n n

abbrev pub is_exactly : ℤ → Kind → Bool
is_exactly n (Int low high) = int_eq low n && int_eq high n
is_exactly n kind = false

-- the address of one word
abbrev pub points_at : ℕ → Kind → Bool
points_at x (Ptr p q) = (p == x) && (q == x)
points_at x kind = false

-- the ends of a range are words
abbrev pub HasWordEnds : Kind → Type 0
HasWordEnds Undef = Unit {0}
HasWordEnds (Int low high) = FitsSigned w32 low × FitsSigned w32 high
HasWordEnds (Ptr p q) = (p < 2 ^ 32) × (q < 2 ^ 32)
HasWordEnds (BytePtr p q) = (p < 2 ^ 32) × (q < 2 ^ 32)

-- ---- what a rule asks of a register

-- something: S1
unfoldable pub known : Kind → Result Kind StateCode
known Undef = Err S1
known kind = Ok kind

-- a number, by its range: S2
unfoldable pub number : Kind → Result (ℤ × ℤ) StateCode
number (Int low high) = Ok (low, high)
number kind = Err S2

-- the address of a word, by the range of the word's number: S2
unfoldable pub pointer : Kind → Result (ℕ × ℕ) StateCode
pointer (Ptr p q) = Ok (p, q)
pointer kind = Err S2

-- the address of one word
unfoldable pub one_word : Kind → Result ℕ StateCode
one_word (Ptr p q) = if p == q then Ok p else Err S2
one_word kind = Err S2

-- the address of a byte, by the range of the byte's number; a word's address is that of its bytes' first
unfoldable pub byte_pointer : Kind → Result (ℕ × ℕ) StateCode
byte_pointer (Ptr p q) = Ok (4 * p, 4 * q)
byte_pointer (BytePtr p q) = Ok (p, q)
byte_pointer kind = Err S2

-- ---- places

-- a whole number below a bound: S3
unfoldable pub below : ℕ → ℤ → Result ℕ StateCode
below bound (pos x) = if nat_lt x bound then Ok x else Err S3
below bound (negsuc x) = Err S3

-- a word of the workspace
unfoldable pub word_in : ImageValue → ℤ → Result ℕ StateCode
word_in image x = below image.workspace x

-- a byte of the workspace
unfoldable pub byte_in : ImageValue → ℤ → Result ℕ StateCode
byte_in image x = below (4 * image.workspace) x

-- ---- numbers that are made

-- a range of whole numbers, and any number where an end is none of a word's
unfoldable pub range : ℤ → ℤ → Kind
range low high = if overflows low then full else if overflows high then full else Int low high

-- the least range that has four whole numbers, and any number where one of them is none of a word's
unfoldable pub hull : ℤ → ℤ → ℤ → ℤ → Kind
hull a b c d = range (int_min (int_min a b) (int_min c d)) (int_max (int_max a b) (int_max c d))

-- the results at the ends of two ranges
abbrev pub at_ends : (ℤ → ℤ → ℤ) → ℤ × ℤ → ℤ × ℤ → Kind
at_ends f b a = hull (f b.0 a.0) (f b.0 a.1) (f b.1 a.0) (f b.1 a.1)
