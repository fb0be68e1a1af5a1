-- What is known of values, and what code of expressions makes of registers.
use Rattle.std.specs.Prelude.{◌≡◌, ℕ, ◌*◌, ◌<◌, ◌≤◌, ◌^◌, ◌||◌, List, Some}
use Rattle.tp_decode.specs.declared.instr.Instr.{Instr}
use Rattle.tpw_occam_core.specs.declared.arithmetic.Answer.{Answer}
use Rattle.tpw_occam_core.specs.declared.expression.Operator.{Operator}
use Rattle.tpw_occam_core.specs.declared.expression.Operator.TheVariants.{Add, Plus, Multiply, Times, Minus, Equal}
use Rattle.tpw_occam_core.specs.declared.expression.Operator.TheVariants.{ShiftLeft, ShiftRight}
use Rattle.std.specs.Prelude.{slice_index, length}
use Rattle.tpw_occam_core.specs.declared.kind.Kind.{Kind}
use Rattle.tpw_occam_core.specs.declared.kind.Kind.TheVariants.{Word, Byte}
use Rattle.tpw_occam_core.specs.Arithmetic.{applied}
use Rattle.tpw_occam_symbolic.specs.declared.items.Item.TheVariants.{Array}
use Rattle.tpw_occam_expressions.specs.declared.expressions.Value.{Value}
use Rattle.tpw_occam_expressions.specs.Ranges.{Contains}
use Rattle.tpw_occam_symbolic.specs.Symbolic.{Machine, effect, number, address, replace_pair, set_areg, raised}
use Rattle.tpw_occam_symbolic.specs.Code.{Lines}
use Rattle.tpw_occam_symbolic.specs.Leading.{Does, HasConstants, HasArray, word_bytes}

-- what is known of a word
pub record Holds (value : Value) (word : ℕ) : Type 0 where
  pub small : word < 2 ^ 32
  pub source : Contains value.source word
  pub known : Contains value.known word

-- two numbers in registers: b in Breg and a in Areg
abbrev pub HasOperands : ℕ → ℕ → Machine → Type 0
HasOperands b a m = (m.breg ≡ number b) × (m.areg ≡ number a)

abbrev pub HasNumber : ℕ → Machine → Type 0
HasNumber a m = m.areg ≡ number a

-- what an operator answers takes the place of its operands
abbrev pub answered : Answer → Machine → Machine
answered made m = replace_pair (number made.word) (raised made.flag m)

-- .. or of the one operand in Areg
abbrev pub answered_one : Answer → Machine → Machine
answered_one made m = set_areg (number made.word) (raised made.flag m)

-- the count of a shift is one that the instruction takes
abbrev pub HasCount : Operator → ℕ → Type 0
HasCount ShiftLeft a = a < 32
HasCount ShiftRight a = a < 32
HasCount operator a = Unit {0}

-- operands are equal where their difference is 0
abbrev pub working : Operator → Operator
working Equal = Minus
working operator = operator

-- the operator that may set the flag, and the one that wraps, make the same of two words
abbrev pub AreTwins : Operator → (b a : ℕ) → Type 0
AreTwins Plus b a = applied Add b a ≡ applied Plus b a
AreTwins Multiply b a = applied Multiply b a ≡ applied Times b a
AreTwins operator b a = Unit {0}

-- A value takes the place of the one in Areg. This many registers are used at most: what the others hold stays.
pub record Replaces (registers : ℕ) (made : Answer) (m end : Machine) : Type 0 where
  pub areg : end.areg ≡ number made.word
  pub breg : registers ≤ 2 → end.breg ≡ m.breg
  pub creg : registers ≤ 1 → end.creg ≡ m.creg
  pub error : end.error ≡ (m.error || made.flag)
  pub blocks : end.blocks ≡ m.blocks
  pub to_come : end.to_come ≡ m.to_come
  pub sent : end.sent ≡ m.sent
  pub traced : end.traced ≡ m.traced

-- A value is pushed. This many registers are used at most, that of the value among them: what the others hold stays.
pub record Pushes (registers : ℕ) (made : Answer) (m end : Machine) : Type 0 where
  pub areg : end.areg ≡ number made.word
  pub breg : registers ≤ 2 → end.breg ≡ m.areg
  pub creg : registers ≤ 1 → end.creg ≡ m.breg
  pub error : end.error ≡ (m.error || made.flag)

-- .. and nothing else
pub record PushesAlone (made : Answer) (m end : Machine) : Type 0 where
  pub pushed : Pushes 1 made m end
  pub blocks : end.blocks ≡ m.blocks
  pub to_come : end.to_come ≡ m.to_come
  pub sent : end.sent ≡ m.sent
  pub traced : end.traced ≡ m.traced

-- the lines lengthen code; of a number in Areg they make this, with this many registers
abbrev pub Answers : (old new : Lines) (registers a : ℕ) → Answer → Type 0
Answers old new registers a made =
    (arrays : List ℕ) → Does arrays old new (λ m. HasConstants m × HasNumber a m) (Replaces registers made)

-- the place of an element in its array
abbrev pub scaled : Kind → ℕ → ℕ
scaled Word i = 4 * i
scaled Byte i = i

-- Areg is the address of a byte of an array, which has room for all of its words
pub record HasAddress (arrays : List ℕ) (a at : ℕ) (m end : Machine) : Type 0 where
  pub areg : end.areg ≡ address (Array a) at
  pub breg : end.breg ≡ m.breg
  pub error : end.error ≡ m.error
  pub blocks : end.blocks ≡ m.blocks
  pub to_come : end.to_come ≡ m.to_come
  pub sent : end.sent ≡ m.sent
  pub traced : end.traced ≡ m.traced
  pub room : word_bytes (slice_index arrays a) ≤ end.sizes (Array a)

-- Areg is the address of an element of an array whose bytes are these, all of which are there
pub record IsAtElement (kind : Kind) (a : ℕ) (bytes : List ℕ) (i : ℕ) (m : Machine) : Type 0 where
  pub areg : m.areg ≡ address (Array a) (scaled kind i)
  pub has : HasArray a bytes m
  pub room : length bytes ≤ m.sizes (Array a)

-- an instruction makes this of a number in Areg, and leaves the other registers
abbrev pub WorksOn : Instr → ℕ → Answer → Type 0
WorksOn instr a made = (m : Machine) → HasNumber a m → effect instr m ≡ Some (answered_one made m)

-- The address of a byte of an array is pushed, which has room for all of its words.
pub record PushesAddress (arrays : List ℕ) (a at : ℕ) (m end : Machine) : Type 0 where
  pub areg : end.areg ≡ address (Array a) at
  pub breg : end.breg ≡ m.areg
  pub error : end.error ≡ m.error
  pub blocks : end.blocks ≡ m.blocks
  pub to_come : end.to_come ≡ m.to_come
  pub sent : end.sent ≡ m.sent
  pub traced : end.traced ≡ m.traced
  pub room : word_bytes (slice_index arrays a) ≤ end.sizes (Array a)

-- A value is pushed with this many registers, and nothing else is changed.
pub record PushesOver (registers : ℕ) (made : Answer) (m end : Machine) : Type 0 where
  pub pushed : Pushes registers made m end
  pub blocks : end.blocks ≡ m.blocks
  pub to_come : end.to_come ≡ m.to_come
  pub sent : end.sent ≡ m.sent
  pub traced : end.traced ≡ m.traced
