-- The symbolic machine: what steps do before items have places. It has the transputer's registers, in which an address
-- is an item and a place in it, and memory in blocks.
--
-- It is defined where every register and byte is: what the transputer's profile leaves undefined it keeps.
use Rattle.std.specs.Prelude.{◌≡◌, ℕ, ◌+◌, ◌*◌, ◌/◌, ◌%◌, ◌^◌, Bool, true, not, ◌||◌, ◌==◌, nat_le}
use Rattle.std.specs.Prelude.{nat_lt}
use Rattle.std.specs.Prelude.{if◌then◌else◌, pos, ◌+ℤ◌, ◌-ℤ◌, int_lt, List, [], ◌∷◌, ◌++◌, length, take, drop}
use Rattle.std.specs.Prelude.{slice_get}
use Rattle.std.specs.Prelude.{Option, Some, None}
use Rattle.std.specs.Ordering.{int_eq}
use Rattle.tp_words.specs.Words.{signed, low_word, complement}
use Rattle.tp_decode.specs.declared.instr.Instr.{Instr}
use Rattle.tp_decode.specs.declared.instr.Instr.TheVariants.{Ldnl, Ldc, Adc, Eqc, Stnl, Rev, Lb, Bsub, Diff, Add, Input}
use Rattle.tp_decode.specs.declared.instr.Instr.TheVariants.{Prod, Gt, Wsub, Output, Sub, Seterr, Csub0, Stopp, Rem}
use Rattle.tp_decode.specs.declared.instr.Instr.TheVariants.{Lend, Div, BitNot, BitXor, Sb, Shr, Shl, BitAnd, MoveBytes}
use Rattle.tp_decode.specs.declared.instr.Instr.TheVariants.{BitOr, Sum, Mul}
use Rattle.tp_step.specs.Maybe.{◌>>=◌, ◌>>◌, only_if}
use Rattle.tp_words.specs.Numbers.{truth}
use Rattle.tp_step.specs.Effects.{link0_output, link1_output, link0_input}
use Rattle.tpw_occam_core.specs.declared.arithmetic.Answer.{Answer}
use Rattle.tpw_occam_core.specs.declared.expression.Operator.TheVariants as operator
use Rattle.tpw_occam_core.specs.Arithmetic.{pure, checked, applied}
use Rattle.tpw_occam_symbolic.specs.declared.items.Item.{Item}
use Rattle.tpw_occam_symbolic.specs.declared.code.Step.{Step}
use Rattle.tpw_occam_symbolic.specs.declared.code.Step.TheVariants.{Plain, Load, Store, Pointer, JumpTo, CjTo, Distance}
use Rattle.tpw_occam_symbolic.specs.declared.code.CodeLine.{CodeLine}
use Rattle.tpw_occam_symbolic.specs.Blocks.{Blocks, with_bytes, bytes_at, word_at, with_word}

-- what a register holds: a number, the address of a byte of an item, or the distance from one place to another
pub data Contents : Type 0 where
  number : ℕ → Contents
  address : Item → ℕ → Contents
  distance : ℕ → ℕ → Contents

pub record Machine : Type 0 where
  -- the code, and how many bytes each item has; no step changes them
  pub code : List CodeLine
  pub sizes : Item → ℕ
  -- the place of the next line
  pub place : ℕ
  pub areg : Contents
  pub breg : Contents
  pub creg : Contents
  pub blocks : Blocks
  -- the error flag
  pub error : Bool
  pub stopped : Bool
  -- the bytes to come on link 0, and those sent on links 0 and 1
  pub to_come : List ℕ
  pub sent : List ℕ
  pub traced : List ℕ

-- ---- registers

abbrev pub push : Contents → Machine → Machine
push c m = record m { areg = c; breg = m.areg; creg = m.breg }

abbrev pub pop : Machine → Machine
pop m = record m { areg = m.breg; breg = m.creg }

abbrev pub pop_two : Machine → Machine
pop_two m = record m { areg = m.creg }

abbrev pub set_areg : Contents → Machine → Machine
set_areg c m = record m { areg = c }

-- what is made of Areg and Breg takes their place
abbrev pub replace_pair : Contents → Machine → Machine
replace_pair c m = record m { areg = c; breg = m.creg }

abbrev pub raised : Bool → Machine → Machine
raised flag m = record m { error = m.error || flag }

abbrev pub at_place : ℕ → Machine → Machine
at_place place m = record m { place = place }

abbrev pub with_blocks : Blocks → Machine → Machine
with_blocks blocks m = record m { blocks = blocks }

abbrev pub number_in : Contents → Option ℕ
number_in (number n) = Some n
number_in c = None

abbrev pub address_in : Contents → Option (Item × ℕ)
address_in (address item at) = Some (item, at)
address_in c = None

-- where the distance to a place is from
abbrev pub distance_to : ℕ → Contents → Option ℕ
distance_to place (distance from to) = if to == place then Some from else None
distance_to place c = None

-- this many bytes of an item, from a place on, are there
abbrev pub has_bytes : Machine → Item → ℕ → ℕ → Bool
has_bytes m item at n = nat_le (at + n) (m.sizes item)

-- ---- instructions

-- a shift by 32 and more has no outcome
abbrev pub shifted : ℕ → ℕ → Option Answer
shifted a word = do
  only_if (nat_lt a 32)
  Some (pure word)

-- what is made of two numbers: b in Breg and a in Areg
abbrev pub pair_answer : Instr → (b a : ℕ) → Option Answer
pair_answer Add b a = Some (applied operator.Add b a)
pair_answer Sub b a = Some (applied operator.Subtract b a)
pair_answer Mul b a = Some (applied operator.Multiply b a)
pair_answer Sum b a = Some (applied operator.Plus b a)
pair_answer Diff b a = Some (applied operator.Minus b a)
pair_answer Prod b a = Some (applied operator.Times b a)
pair_answer Div b a = Some (applied operator.Divide b a)
pair_answer Rem b a = Some (applied operator.Remainder b a)
pair_answer BitAnd b a = Some (applied operator.BitAnd b a)
pair_answer BitOr b a = Some (applied operator.BitOr b a)
pair_answer BitXor b a = Some (applied operator.BitXor b a)
pair_answer Gt b a = Some (applied operator.Greater b a)
pair_answer Shl b a = shifted a (low_word (pos (b * 2 ^ a)))
pair_answer Shr b a = shifted a (b / 2 ^ a)
pair_answer instr b a = None

unfoldable pub pair_effect : Instr → Machine → Option Machine
pair_effect instr m = do
  a ← number_in m.areg
  b ← number_in m.breg
  made ← pair_answer instr b a
  Some (replace_pair (number made.word) (raised made.flag m))

-- the end of a turn: where turns are left the index goes up by one and control goes back
abbrev pub turn_ended : Item → (at index left back : ℕ) → Machine → Machine
turn_ended block at index left back m =
    if int_lt (pos 0) (signed left) then
    at_place back (with_blocks (with_word block at (low_word (signed index +ℤ pos 1)) m.blocks) m)
    else m

-- a message goes out on one of the links
abbrev pub sent_on : ℕ → List ℕ → Machine → Option Machine
sent_on channel message m =
    if channel == link0_output then Some (record m { sent = m.sent ++ message })
    else if channel == link1_output then Some (record m { traced = m.traced ++ message })
    else None

-- What an instruction does; the place is already that behind its line. Those that no code has are left out.
unfoldable pub effect : Instr → Machine → Option Machine
effect (Ldc n) m = Some (push (number (low_word n)) m)
effect (Adc n) m = do
  a ← number_in m.areg
  let made = checked (signed a +ℤ n)
  Some (set_areg (number made.word) (raised made.flag m))
effect (Eqc n) m = do
  a ← number_in m.areg
  Some (set_areg (number (truth (int_eq (signed a) n))) m)
effect BitNot m = do
  a ← number_in m.areg
  Some (set_areg (number (complement a)) m)
effect Rev m = Some (record m { areg = m.breg; breg = m.areg })
effect (Ldnl (pos n)) m = do
  a ← address_in m.areg
  only_if (has_bytes m a.0 (a.1 + 4 * n) 4)
  Some (set_areg (number (word_at m.blocks a.0 (a.1 + 4 * n))) m)
effect (Stnl (pos n)) m = do
  a ← address_in m.areg
  b ← number_in m.breg
  only_if (has_bytes m a.0 (a.1 + 4 * n) 4)
  Some (pop_two (with_blocks (with_word a.0 (a.1 + 4 * n) b m.blocks) m))
effect Lb m = do
  a ← address_in m.areg
  only_if (has_bytes m a.0 a.1 1)
  Some (set_areg (number (m.blocks a.0 a.1)) m)
effect Sb m = do
  a ← address_in m.areg
  b ← number_in m.breg
  only_if (has_bytes m a.0 a.1 1)
  Some (pop_two (with_blocks (with_bytes a.0 a.1 (b % 256 ∷ []) m.blocks) m))
effect Bsub m = do
  a ← address_in m.areg
  b ← number_in m.breg
  Some (replace_pair (address a.0 (a.1 + b)) m)
effect Wsub m = do
  a ← address_in m.areg
  b ← number_in m.breg
  Some (replace_pair (address a.0 (a.1 + 4 * b)) m)
effect Csub0 m = do
  a ← number_in m.areg
  b ← number_in m.breg
  Some (pop (raised (nat_le a b) m))
effect Seterr m = Some (raised true m)
effect MoveBytes m = do
  n ← number_in m.areg
  target ← address_in m.breg
  source ← address_in m.creg
  only_if (has_bytes m source.0 source.1 n)
  only_if (has_bytes m target.0 target.1 n)
  Some (with_blocks (with_bytes target.0 target.1 (bytes_at m.blocks source.0 source.1 n) m.blocks) m)
effect Input m = do
  n ← number_in m.areg
  channel ← number_in m.breg
  target ← address_in m.creg
  only_if (channel == link0_input)
  only_if (nat_le n (length m.to_come))
  only_if (has_bytes m target.0 target.1 n)
  Some (with_blocks (with_bytes target.0 target.1 (take n m.to_come) m.blocks)
      (record m { to_come = drop n m.to_come }))
effect Output m = do
  n ← number_in m.areg
  channel ← number_in m.breg
  source ← address_in m.creg
  only_if (has_bytes m source.0 source.1 n)
  sent_on channel (bytes_at m.blocks source.0 source.1 n) m
effect Lend m = do
  block ← address_in m.breg
  only_if (has_bytes m block.0 block.1 8)
  back ← distance_to m.place m.areg
  let index = word_at m.blocks block.0 block.1
  let left = low_word (signed (word_at m.blocks block.0 (block.1 + 4)) -ℤ pos 1)
  Some (turn_ended block.0 block.1 index left back (with_blocks (with_word block.0 (block.1 + 4) left m.blocks) m))
effect Stopp m = Some (record m { stopped = true })
effect instr m = pair_effect instr m

-- ---- steps

-- what a step does; the place is already that behind its line
unfoldable pub performed : Step → Machine → Option Machine
performed (Plain instr) m = effect instr m
performed (Load item word) m = do
  only_if (has_bytes m item (4 * word) 4)
  Some (push (number (word_at m.blocks item (4 * word))) m)
performed (Store item word) m = do
  a ← number_in m.areg
  only_if (has_bytes m item (4 * word) 4)
  Some (pop (with_blocks (with_word item (4 * word) a m.blocks) m))
performed (Pointer item word) m = Some (push (address item (4 * word)) m)
performed (JumpTo to) m = Some (at_place to m)
performed (CjTo to) m = do
  a ← number_in m.areg
  Some (if a == 0 then at_place to m else pop m)
performed (Distance from to) m = Some (push (distance from to) m)

unfoldable pub step : Machine → Option Machine
step m = do
  only_if (not m.stopped)
  line ← slice_get m.code m.place
  performed line.step (at_place (m.place + 1) m)

-- steps lead from one machine to another
pub data Leads : Machine → Machine → Type 0 where
  nowhere : (m : Machine) → Leads m m
  onward : (m next end : Machine) → step m ≡ Some next → Leads next end → Leads m end
