-- The rules of the verifier: what is known after each instruction, a clause for each, in the order of their codes.
--
-- A clause speaks of the instruction that stands at an address, where next follows it, on an edge that it has. Where
-- several refusals hold, S11 comes first, then the lowest number; for in and out the order is S1, S2, S8, S7, S9, S3,
-- S4, S5. The effects of the instructions stand in tp_step/specs/Effects.antt, in the same order.
--
-- Sums of a word's number and an operand are whole numbers, never wrapped.
use Rattle.std.specs.Prelude.{◌≡◌, ℕ, ◌+◌, ◌-◌, ◌*◌, ◌/◌, ◌%◌, ◌^◌, ◌==◌, Bool, ◌&&◌, ◌||◌, not, nat_le, nat_lt}
use Rattle.std.specs.Prelude.{if◌then◌else◌, ℤ, pos, negsuc, ◌+ℤ◌, ◌-ℤ◌, ◌*ℤ◌, int_le, int_lt, int_div, List, map}
use Rattle.std.specs.Prelude.{replicate, slice_get, slice_set, Option, Result, Ok, Err}
use Rattle.std.specs.Ordering.{int_eq}
use Rattle.std.specs.Option.{option_and_then}
use Rattle.tp_words.specs.Words.{signed}
use Rattle.tp_decode.specs.declared.instr.Instr.{Instr}
use Rattle.tp_decode.specs.declared.instr.Instr.TheVariants.{Jump, Ldlp, Ldnl, Ldc, Ldnlp, Ldl, Adc, Cj, Ajw, Eqc, Stl}
use Rattle.tp_decode.specs.declared.instr.Instr.TheVariants.{Stnl, Rev, Lb, Bsub, Diff, Add, Input, Prod, Gt, Wsub}
use Rattle.tp_decode.specs.declared.instr.Instr.TheVariants.{Output, Sub, Seterr, Csub0, Stopp, Rem, Lend, Div, BitNot}
use Rattle.tp_decode.specs.declared.instr.Instr.TheVariants.{BitXor, Sb, Shr, Shl, Mint, BitAnd, MoveBytes, BitOr, Sum}
use Rattle.tp_decode.specs.declared.instr.Instr.TheVariants.{Mul}
use Rattle.tp_image.specs.declared.image.LoopRow.{LoopRow}
use Rattle.tp_image.specs.Image.{ImageValue}
use Rattle.tp_flow.specs.declared.edge.Edge.{Edge}
use Rattle.tp_flow.specs.declared.edge.Edge.TheVariants.{Taken, Out}
use Rattle.tp_flow.specs.NestRanges.{ranges, number_ended_at}
use Rattle.tp_words.specs.Numbers.{least_integer}
use Rattle.tp_step.specs.Effects.{link0_output, link1_output, link0_input, most_trace_message, has_move}
use Rattle.tp_state.specs.declared.kind.Kind.{Kind}
use Rattle.tp_state.specs.declared.kind.Kind.TheVariants as kind
use Rattle.tp_state.specs.declared.cell.Cell.{Cell}
use Rattle.tp_state.specs.declared.cell.Cell.TheVariants as cell
use Rattle.tp_state.specs.declared.state.State.{State}
use Rattle.tp_state.specs.declared.fault.StateCode.{StateCode}
use Rattle.tp_state.specs.declared.fault.StateCode.TheVariants.{S1, S2, S3, S4, S5, S6, S7, S8, S9, S10, S11}
use Rattle.tp_state.specs.Answer.{◌>>=◌, ◌>>◌, unless, found, answered}
use Rattle.tp_state.specs.Kinds.{full, exactly, is_exactly, points_at, known, number, pointer, one_word, byte_pointer}
use Rattle.tp_state.specs.Kinds.{word_in, byte_in, range, at_ends}
use Rattle.tp_state.specs.CellRules.{cell_at, cells_from, with_cells, is_free, are_free, are_defined, read, written}
use Rattle.tp_state.specs.CellRules.{blurred, copied}

-- ---- registers: as in the effects

abbrev pub push : Kind → State → State
push k t = record t { a = k; b = t.a; c = t.b }

abbrev pub pop : State → State
pop t = record t { a = t.b; b = t.c; c = kind.Undef }

abbrev pub pop_two : State → State
pop_two t = record t { a = t.c; b = kind.Undef; c = kind.Undef }

abbrev pub set_areg : Kind → State → State
set_areg k t = record t { a = k }

abbrev pub replace_pair : Kind → State → State
replace_pair k t = record t { a = k; b = t.c; c = kind.Undef }

abbrev pub no_registers : State → State
no_registers t = record t { a = kind.Undef; b = kind.Undef; c = kind.Undef }

-- ---- what a rule reads

-- Areg as a number
unfoldable pub one_number : State → Result (ℤ × ℤ) StateCode
one_number t = do
  known t.a
  number t.a

-- Areg and Breg as numbers
unfoldable pub two_numbers : State → Result ((ℤ × ℤ) × (ℤ × ℤ)) StateCode
two_numbers t = do
  known t.a
  known t.b
  a ← number t.a
  b ← number t.b
  Ok (a, b)

-- the word n words on from Wptr
unfoldable pub local : ImageValue → State → ℤ → Result ℕ StateCode
local image t n = word_in image (pos t.wptr +ℤ n)

-- the words that a range of words on from a pointer may be
unfoldable pub words_on : ImageValue → ℕ × ℕ → ℤ × ℤ → Result (ℕ × ℕ) StateCode
words_on image p n = do
  first ← word_in image (pos p.0 +ℤ n.0)
  last ← word_in image (pos p.1 +ℤ n.1)
  Ok (first, last)

-- the bytes likewise
unfoldable pub bytes_on : ImageValue → ℕ × ℕ → ℤ × ℤ → Result (ℕ × ℕ) StateCode
bytes_on image p n = do
  first ← byte_in image (pos p.0 +ℤ n.0)
  last ← byte_in image (pos p.1 +ℤ n.1)
  Ok (first, last)

-- what is n words on from a register: a place in the workspace, or a number
unfoldable pub words_further : ImageValue → ℤ → Kind → Result Kind StateCode
words_further image n kind.Undef = Err S1
words_further image n (kind.Int low high) = Ok (range (low +ℤ (n *ℤ pos 4)) (high +ℤ (n *ℤ pos 4)))
words_further image n (kind.Ptr p q) = do
  w ← words_on image (p, q) (n, n)
  Ok (kind.Ptr w.0 w.1)
words_further image n (kind.BytePtr p q) = Err S2

-- a place for Wptr, which has five words of the workspace below it: S6
unfoldable pub frame_at : ImageValue → ℤ → Result ℕ StateCode
frame_at image (pos x) = if nat_le 5 x && nat_lt x image.workspace then Ok x else Err S6
frame_at image (negsuc x) = Err S6

-- the words from the first to the last
unfoldable pub between : List Cell → ℕ × ℕ → List Cell
between cells w = cells_from cells w.0 (w.1 + 1 - w.0)

-- the words that have the bytes from the first to the last
abbrev pub words_of_bytes : ℕ × ℕ → ℕ × ℕ
words_of_bytes p = (p.0 / 4, p.1 / 4)

-- a word takes a kind
abbrev pub with_word : ℕ → Kind → State → State
with_word x k t = record t { cells = slice_set t.cells x (written k) }

-- of several words one takes something, or a part of something, and which is not known
abbrev pub with_blurred : ℕ × ℕ → State → State
with_blurred w t = record t { cells = with_cells t.cells w.0 (map blurred (between t.cells w)) }

-- ---- descheduling

-- the five words below Wptr
abbrev pub below_wptr : State → List Cell
below_wptr t = cells_from t.cells (t.wptr - 5) 5

-- registers and the five words below Wptr undefined
abbrev pub suspended : State → State
suspended t = no_registers (record t { cells = with_cells t.cells (t.wptr - 5) (replicate 5 cell.Undef) })

-- the same, unless one of these is a live control word
unfoldable pub descheduled : State → Result State StateCode
descheduled t = do
  unless S5 (are_free (below_wptr t))
  Ok (suspended t)

-- ---- numbers

-- operations on numbers, Breg first
abbrev pub sum_of : ℤ → ℤ → ℤ
sum_of b a = b +ℤ a

abbrev pub difference : ℤ → ℤ → ℤ
difference b a = b -ℤ a

abbrev pub product : ℤ → ℤ → ℤ
product b a = b *ℤ a

abbrev pub is_positive : ℤ × ℤ → Bool
is_positive a = int_eq a.0 a.1 && int_lt (pos 0) a.0

-- by one divisor above 0, the quotients at the ends
abbrev pub quotients : ℤ × ℤ → ℤ × ℤ → Kind
quotients b a = if is_positive a then kind.Int (int_div b.0 a.0) (int_div b.1 a.0) else full

-- by one divisor above 0, what is less than it, with the dividend's sign
abbrev pub remainders : ℤ × ℤ → ℤ × ℤ → Kind
remainders b a =
    if not (is_positive a) then full
    else if int_le (pos 0) b.0 then kind.Int (pos 0) (a.0 -ℤ pos 1)
    else kind.Int (pos 1 -ℤ a.0) (a.0 -ℤ pos 1)

-- no more than an operand that is never below 0
abbrev pub conjunctions : ℤ × ℤ → ℤ × ℤ → Kind
conjunctions b a =
    if int_le (pos 0) a.0 then
    kind.Int (pos 0) (if int_le (pos 0) b.0 && int_lt b.1 a.1 then b.1 else a.1)
    else if int_le (pos 0) b.0 then kind.Int (pos 0) b.1
    else full

-- from 0 to 31
abbrev pub is_shift_count : ℤ → Bool
is_shift_count n = int_le (pos 0) n && int_le n (pos 31)

abbrev pub are_shift_counts : ℤ × ℤ → Bool
are_shift_counts a = is_shift_count a.0 && is_shift_count a.1

abbrev pub count_of : ℤ → ℕ
count_of (pos n) = n
count_of (negsuc n) = 0

-- 2 to a shift count
abbrev pub power : ℤ → ℤ
power n = pos (2 ^ count_of n)

-- a number that is never below 0, shifted up by one count
abbrev pub shifted_up : ℤ × ℤ → ℤ × ℤ → Kind
shifted_up b a =
    if int_eq a.0 a.1 && int_le (pos 0) b.0 then range (b.0 *ℤ power a.0) (b.1 *ℤ power a.0)
    else full

-- shifted down; a number below 0 is a large one without its sign
abbrev pub shifted_down : ℤ × ℤ → ℤ × ℤ → Kind
shifted_down b a =
    if int_le (pos 0) b.0 then kind.Int (int_div b.0 (power a.1)) (int_div b.1 (power a.0))
    else if int_le (pos 1) a.0 then kind.Int (pos 0) (power (pos 32 -ℤ a.0) -ℤ pos 1)
    else full

abbrev pub truth_value : Kind
truth_value = kind.Int (pos 0) (pos 1)

-- ---- messages

-- a message's words, from this one on: S3
unfoldable pub message_in : ImageValue → ℕ → ℕ → Result Bool StateCode
message_in image x n = unless S3 (nat_le (x + n) image.workspace)

-- a channel, as a number
abbrev pub channel : ℕ → ℤ
channel address = signed address

-- the words of a trace message of this many bytes: 1 to 64
abbrev pub is_trace_length : ℕ → Bool
is_trace_length n = (n % 4 == 0) && nat_le 4 n && nat_le n most_trace_message

-- one number of bytes
abbrev pub is_one_length : ℤ × ℤ → Bool
is_one_length a = int_eq a.0 a.1 && int_le (pos 0) a.0

-- how many words a result or a trace message has, by its channel: S8, S7
unfoldable pub words_to_send : ImageValue → Kind → ℤ × ℤ → Result ℕ StateCode
words_to_send image b a =
    if is_exactly (channel link0_output) b then
    (do
      unless S7 (is_one_length a && (count_of a.0 == 4 * image.result))
      Ok image.result)
    else if is_exactly (channel link1_output) b then
    (do
      unless S7 (is_one_length a && is_trace_length (count_of a.0))
      Ok (count_of a.0 / 4))
    else Err S8

-- the phase after a message on a channel: the result comes after the packet, and a trace message at any time
unfoldable pub phase_after : Kind → ℕ → Result ℕ StateCode
phase_after b phase =
    if is_exactly (channel link1_output) b then Ok phase
    else if phase == 1 then Ok 2
    else Err S9

-- words that move copies: 1 to 512 of them
unfoldable pub is_move_length : ℤ × ℤ → Bool
is_move_length a =
    int_eq a.0 a.1 && int_le (pos 4) a.0 && int_le a.0 (pos 2048) && (count_of a.0 % 4 == 0)

-- two ranges of n words do not touch
unfoldable pub are_apart : ℕ → ℕ → ℕ → Bool
are_apart n x y = nat_le (x + n) y || nat_le (y + n) x

-- n words, from x on, take copies of n others, from y on: S3, S4, S5
abbrev pub moved : ℕ → ℕ → ℕ → State → Result State StateCode
moved n x y t = do
  unless S3 (are_apart n x y)
  unless S4 (are_defined (cells_from t.cells y n))
  unless S5 (are_free (cells_from t.cells x n))
  Ok (no_registers (record t { cells = with_cells t.cells x (map copied (cells_from t.cells y n)) }))

-- ---- loops

-- both words of a loop's block
abbrev pub with_block : LoopRow → Cell → Cell → State → State
with_block row index count t =
    record t { cells = slice_set (slice_set t.cells row.control index) (row.control + 1) count }

-- the loop whose lend stands at an address
unfoldable pub row_ended_at : ImageValue → ℕ → Option LoopRow
row_ended_at image at = option_and_then (slice_get image.loops) (number_ended_at (ranges image.loops) at)

-- a loop that is left has no block any more
abbrev pub leaving : Edge → LoopRow → State → State
leaving Out row t = with_block row cell.Undef cell.Undef t
leaving edge row t = t

-- ---- the rules
unfoldable pub rule : ImageValue → (at next : ℕ) → Instr → Edge → State → Result State StateCode
-- ---- functions
-- j
rule image at next (Jump n) edge t = descheduled t
-- ldlp
rule image at next (Ldlp n) edge t = do
  x ← local image t n
  Ok (push (kind.Ptr x x) t)
-- ldnl: of several words, any value
rule image at next (Ldnl n) edge t = do
  known t.a
  p ← pointer t.a
  w ← words_on image p (n, n)
  unless S4 (are_defined (between t.cells w))
  k ← if w.0 == w.1 then read image.loops (cell_at t.cells w.0) else Ok full
  Ok (set_areg k t)
-- ldc
rule image at next (Ldc n) edge t = Ok (push (exactly n) t)
-- ldnlp: of a pointer, or of a number
rule image at next (Ldnlp n) edge t = do
  k ← words_further image n t.a
  Ok (set_areg k t)
-- ldl
rule image at next (Ldl n) edge t = do
  x ← local image t n
  k ← read image.loops (cell_at t.cells x)
  Ok (push k t)
-- adc
rule image at next (Adc n) edge t = do
  a ← one_number t
  Ok (set_areg (range (a.0 +ℤ n) (a.1 +ℤ n)) t)
-- cj: where it jumps Areg is 0, and the stack stays
rule image at next (Cj n) Taken t = do
  one_number t
  Ok (set_areg (exactly (pos 0)) t)
rule image at next (Cj n) edge t = do
  one_number t
  Ok (pop t)
-- ajw
rule image at next (Ajw n) edge t = do
  x ← frame_at image (pos t.wptr +ℤ n)
  Ok (record t { wptr = x })
-- eqc
rule image at next (Eqc n) edge t = do
  one_number t
  Ok (set_areg truth_value t)
-- stl
rule image at next (Stl n) edge t = do
  k ← known t.a
  x ← local image t n
  unless S5 (is_free (cell_at t.cells x))
  Ok (pop (with_word x k t))
-- stnl: of several words, one takes it
rule image at next (Stnl n) edge t = do
  known t.a
  k ← known t.b
  p ← pointer t.a
  w ← words_on image p (n, n)
  unless S5 (are_free (between t.cells w))
  Ok (pop_two (if w.0 == w.1 then with_word w.0 k t else with_blurred w t))
-- ---- operations
-- rev
rule image at next Rev edge t = do
  a ← known t.a
  b ← known t.b
  Ok (record t { a = b; b = a })
-- lb
rule image at next Lb edge t = do
  known t.a
  p ← byte_pointer t.a
  unless S4 (are_defined (between t.cells (words_of_bytes p)))
  Ok (set_areg (kind.Int (pos 0) (pos 255)) t)
-- bsub
rule image at next Bsub edge t = do
  known t.a
  known t.b
  p ← byte_pointer t.a
  b ← number t.b
  w ← bytes_on image p b
  Ok (replace_pair (kind.BytePtr w.0 w.1) t)
-- diff
rule image at next Diff edge t = do
  (a, b) ← two_numbers t
  Ok (replace_pair (at_ends difference b a) t)
-- add
rule image at next Add edge t = do
  (a, b) ← two_numbers t
  Ok (replace_pair (at_ends sum_of b a) t)
-- in: the packet, whole, on its channel, once, to one place; the process is descheduled after it is written
rule image at next Input edge t = do
  known t.a
  known t.b
  known t.c
  number t.a
  number t.b
  x ← one_word t.c
  unless S8 (is_exactly (channel link0_input) t.b)
  unless S7 (is_exactly (pos (4 * image.packet)) t.a)
  unless S9 (t.phase == 0)
  message_in image x image.packet
  unless S5 (are_free (cells_from t.cells x image.packet))
  descheduled (record t { cells = with_cells t.cells x (replicate image.packet cell.Any); phase = 1 })
-- prod
rule image at next Prod edge t = do
  (a, b) ← two_numbers t
  Ok (replace_pair (at_ends product b a) t)
-- gt
rule image at next Gt edge t = do
  two_numbers t
  Ok (replace_pair truth_value t)
-- wsub
rule image at next Wsub edge t = do
  known t.a
  known t.b
  p ← pointer t.a
  b ← number t.b
  w ← words_on image p b
  Ok (replace_pair (kind.Ptr w.0 w.1) t)
-- out: the result, or a trace message, from one place; the process is descheduled before it is read
rule image at next Output edge t = do
  known t.a
  known t.b
  known t.c
  a ← number t.a
  number t.b
  x ← one_word t.c
  n ← words_to_send image t.b a
  phase ← phase_after t.b t.phase
  message_in image x n
  unless S4 (are_defined (cells_from (suspended t).cells x n))
  t ← descheduled t
  Ok (record t { phase = phase })
-- sub
rule image at next Sub edge t = do
  (a, b) ← two_numbers t
  Ok (replace_pair (at_ends difference b a) t)
-- seterr
rule image at next Seterr edge t = Ok t
-- csub0
rule image at next Csub0 edge t = do
  two_numbers t
  Ok (pop t)
-- stopp: it has no edge, and is asked all the same
rule image at next Stopp edge t = do
  unless S9 (t.phase == 2)
  Ok t
-- rem
rule image at next Rem edge t = do
  (a, b) ← two_numbers t
  Ok (replace_pair (remainders b a) t)
-- lend: of the loop that ends here, by its block and its distance
rule image at next Lend edge t = do
  known t.a
  known t.b
  number t.a
  pointer t.b
  row ← found S5 (row_ended_at image at)
  unless S5 (points_at row.control t.b && is_exactly (pos next -ℤ pos row.head) t.a)
  t ← descheduled t
  Ok (leaving edge row t)
-- div
rule image at next Div edge t = do
  (a, b) ← two_numbers t
  Ok (replace_pair (quotients b a) t)
-- not
rule image at next BitNot edge t = do
  a ← one_number t
  Ok (set_areg (kind.Int (negsuc 0 -ℤ a.1) (negsuc 0 -ℤ a.0)) t)
-- xor
rule image at next BitXor edge t = do
  two_numbers t
  Ok (replace_pair full t)
-- sb
rule image at next Sb edge t = do
  known t.a
  known t.b
  p ← byte_pointer t.a
  number t.b
  let w = words_of_bytes p
  unless S5 (are_free (between t.cells w))
  Ok (pop_two (with_blurred w t))
-- shr
rule image at next Shr edge t = do
  (a, b) ← two_numbers t
  unless S10 (are_shift_counts a)
  Ok (replace_pair (shifted_down b a) t)
-- shl
rule image at next Shl edge t = do
  (a, b) ← two_numbers t
  unless S10 (are_shift_counts a)
  Ok (replace_pair (shifted_up b a) t)
-- mint
rule image at next Mint edge t = Ok (push (exactly least_integer) t)
-- and
rule image at next BitAnd edge t = do
  (a, b) ← two_numbers t
  Ok (replace_pair (conjunctions b a) t)
-- move: from one place to another
rule image at next MoveBytes edge t = do
  unless S11 (has_move image.version)
  known t.a
  known t.b
  known t.c
  a ← number t.a
  x ← one_word t.b
  y ← one_word t.c
  unless S7 (is_move_length a)
  let n = count_of a.0 / 4
  message_in image x n
  message_in image y n
  moved n x y t
-- or
rule image at next BitOr edge t = do
  two_numbers t
  Ok (replace_pair full t)
-- sum
rule image at next Sum edge t = do
  (a, b) ← two_numbers t
  Ok (replace_pair (at_ends sum_of b a) t)
-- mul
rule image at next Mul edge t = do
  (a, b) ← two_numbers t
  Ok (replace_pair (at_ends product b a) t)

-- ---- a call that changes a state in place

-- it answers as the instruction's rule does, wherever the instruction stands and on each of its edges
abbrev pub FollowsRule : {A : Type 0} → ImageValue → Instr → Result A StateCode → (old new : State) → Type 0
FollowsRule image instr answer old new =
    (at next : ℕ) (edge : Edge) → answered answer new ≡ rule image at next instr edge old

-- and in each image
abbrev pub FollowsEachRule : {A : Type 0} → Instr → Result A StateCode → (old new : State) → Type 0
FollowsEachRule instr answer old new = (image : ImageValue) → FollowsRule image instr answer old new
