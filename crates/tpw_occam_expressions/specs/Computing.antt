-- What the code of an expression does.
use Rattle.std.specs.Prelude.{◌≡◌, ℕ, ◌+◌, ◌-◌, ◌%◌, ◌^◌, ◌<◌, ◌≤◌, Bool, true, false, not, ◌||◌, ◌&&◌, ◌==◌}
use Rattle.std.specs.Prelude.{if◌then◌else◌, List, [], ◌∷◌, ◌++◌, length, map, slice_index, Option, Some, None, is_some}
use Rattle.std.specs.Prelude.{IsTrue, pos, ◌⊎◌, ◌≢◌, Box}
use Rattle.std.specs.Global.{Global}
use Rattle.std.specs.Option.{option_and_then, option_map_or}
use Rattle.std.specs.List.{list_any}
use Rattle.tpw_occam_core.specs.declared.worker.Storage.{Storage}
use Rattle.tpw_occam_core.specs.declared.arithmetic.Answer.{Answer}
use Rattle.tpw_occam_core.specs.declared.scope.Entry.{Entry}
use Rattle.tpw_occam_core.specs.declared.expression.Operator.{Operator}
use Rattle.tpw_occam_core.specs.declared.expression.Operator.TheVariants.{Add, Subtract, Multiply, Plus, Minus, Times}
use Rattle.tpw_occam_core.specs.declared.expression.Operator.TheVariants.{BitAnd, BitOr, BitXor, Equal, ShiftLeft}
use Rattle.tpw_occam_core.specs.declared.expression.Operator.TheVariants.{ShiftRight}
use Rattle.tpw_occam_core.specs.declared.expression.Expression.{Expression}
use Rattle.tpw_occam_core.specs.declared.expression.Expression.TheVariants.{Constant, Variable, Element', Checked'}
use Rattle.tpw_occam_core.specs.declared.expression.Expression.TheVariants.{Binary', Complement', Not', LowByte', And'}
use Rattle.tpw_occam_core.specs.declared.expression.Expression.TheVariants.{Or', Let'}
use Rattle.tp_words.specs.Numbers.{truth}
use Rattle.tpw_occam_core.specs.Arithmetic.{pure, subscript, applied}
use Rattle.tpw_occam_core.specs.Meaning.{Store, value_of, bind, with_value}
use Rattle.tpw_occam_expressions.specs.Ranges.{from_to, Contains, ContainsAllOf}
use Rattle.tpw_occam_core.specs.declared.scope.Entry.TheVariants as entry
use Rattle.tpw_occam_core.specs.Sound.{is_sound_expression, is_new_name, is_array, bytes_of}
use Rattle.tpw_occam_core.specs.declared.kind.Kind.{Kind}
use Rattle.tpw_occam_core.specs.declared.kind.Kind.TheVariants.{Word, Byte}
use Rattle.tpw_occam_expressions.specs.declared.expressions.Value.{Value}
use Rattle.tpw_occam_symbolic.specs.Code.{Lines, is_short}
use Rattle.tpw_occam_symbolic.specs.Leading.{Does}
use Rattle.tpw_occam_expressions.specs.Values.{Holds, HasOperands, Pushes}
use Rattle.tpw_occam_symbolic.specs.Symbolic.{Machine, number}
use Rattle.tpw_occam_expressions.specs.Agreement.{Knowledge, elements_of, fact_at, constant_in, Knows, Agrees, LeavesItems}

-- ---- registers

-- the operand of the instruction that works out an operator with this right operand
abbrev pub operand_of : Operator → ℕ → Option ℕ
operand_of Add c = Some c
operand_of Plus c = Some c
operand_of Equal c = Some c
operand_of Subtract c = Some ((2 ^ 32 - c) % 2 ^ 32)
operand_of Minus c = Some ((2 ^ 32 - c) % 2 ^ 32)
operand_of operator c = None

-- .. where it is short, and not the least number, which has no negative
abbrev pub immediate_of : Operator → ℕ → Option ℕ
immediate_of operator c =
    option_and_then (λ operand. if is_short operand && not (operand == 2 ^ 31) then Some operand else None)
    (operand_of operator c)

-- there is such an instruction; PLUS and MINUS may have to wrap, which none does
abbrev pub has_immediate : Operator → ℕ → Bool
has_immediate Plus c = false
has_immediate Minus c = false
has_immediate operator c = is_some (immediate_of operator c)

abbrev pub is_immediate : Knowledge → Operator → Expression → Bool
is_immediate k operator e = option_map_or (has_immediate operator) (constant_in k e) false

abbrev pub commutes : Operator → Bool
commutes Add = true
commutes Multiply = true
commutes Plus = true
commutes Times = true
commutes BitAnd = true
commutes BitOr = true
commutes BitXor = true
commutes Equal = true
commutes operator = false

-- where operands commute a constant is last, that which is the operand of an instruction if only one is
abbrev pub is_swapped : Knowledge → Operator → (left right : Expression) → Bool
is_swapped k operator left right =
    commutes operator && is_some (constant_in k left) && not (is_immediate k operator right)
    && (not (is_some (constant_in k right)) || is_immediate k operator left)

-- one register is enough
abbrev pub is_simple : Knowledge → Expression → Bool
is_simple k (Constant c) = true
is_simple k (Variable x) = true
is_simple k (Element' a kind p e) = false
is_simple k (Checked' below p e) = false
is_simple k (LowByte' p e) = false
is_simple k (Let' x p e q f) = false
is_simple k (Complement' p e) = is_simple k e
is_simple k (Not' p e) = is_simple k e
is_simple k (And' p e q f) = is_simple k e && is_simple k f
is_simple k (Or' p e q f) = is_simple k e && is_simple k f
is_simple k (Binary' operator p e q f) =
    (is_immediate k operator f && is_simple k e) || (commutes operator && is_immediate k operator e && is_simple k f)

-- one to three registers, and more than one where that is not enough
pub record Suffices (k : Knowledge) (registers : ℕ) (e : Expression) : Type 0 where
  pub least : 1 ≤ registers
  pub most : registers ≤ 3
  pub simple : registers ≤ 1 → IsTrue (is_simple k e)

-- ---- expressions

-- whether an expression reads a variable
abbrev pub reads : Expression → ℕ → Bool
reads (Constant c) x = false
reads (Variable y) x = y == x
reads (Element' a kind p e) x = reads e x
reads (Checked' below p e) x = reads e x
reads (Binary' operator p e q f) x = reads e x || reads f x
reads (Complement' p e) x = reads e x
reads (Not' p e) x = reads e x
reads (LowByte' p e) x = reads e x
reads (And' p e q f) x = reads e x || reads f x
reads (Or' p e q f) x = reads e x || reads f x
reads (Let' y p e q f) x = reads e x || reads f x

-- Where expressions stand: arrays are those of the storages, those in scope of 1 to 2,048 bytes, and each name has a
-- fact.
pub record IsPlace (k : Knowledge) (storages : List Storage) (scope : List Entry) : Type 0 where
  pub arrays : k.arrays ≡ map bytes_of storages
  pub least : (a : ℕ) → IsTrue (list_any (is_array a) scope) → 0 < slice_index k.arrays a
  pub most : (a : ℕ) → IsTrue (list_any (is_array a) scope) → slice_index k.arrays a ≤ 2048
  pub facts : length k.facts ≡ length k.kinds

-- An expression may stand there: it is sound, and reads no name that is not assigned yet.
pub record MayStand (k : Knowledge) (storages : List Storage) (scope : List Entry) (unset : ℕ → Bool) (e : Expression)
    : Type 0 where
  pub sound : IsTrue (is_sound_expression (length k.kinds) storages scope e)
  pub assigned : (x : ℕ) → unset x ≡ true → reads e x ≡ false

-- The code of an expression pushes what is made of its state, sets the error flag where that does, and leaves what is
-- in use.
abbrev pub ComputesTo : Knowledge → (old new : Lines) → Expression → (Store → Answer) → (registers kept : ℕ) → Type 0
ComputesTo k old new e made registers kept =
    (storages : List Storage) (scope : List Entry) (unset : ℕ → Bool) (s : Store) → IsPlace k storages scope
    → MayStand k storages scope unset e → Suffices k registers e → Knows k scope unset s
    → Does k.arrays old new (Agrees k scope unset s)
    (λ m end. Pushes registers (made s) m end × LeavesItems scope kept m end)

-- .. its value
abbrev pub Computes : Knowledge → (old new : Lines) → Expression → (registers kept : ℕ) → Type 0
Computes k old new e registers kept = ComputesTo k old new e (value_of e) registers kept

-- what is known of what is made holds
abbrev pub IsKnownOf : Knowledge → Expression → (Store → Answer) → Value → Type 0
IsKnownOf k e made value =
    (storages : List Storage) (scope : List Entry) (unset : ℕ → Bool) (s : Store) → IsPlace k storages scope
    → MayStand k storages scope unset e → Knows k scope unset s → Holds value (made s).word

abbrev pub IsKnown : Knowledge → Expression → Value → Type 0
IsKnown k e value = IsKnownOf k e (value_of e) value

-- whether a value is FALSE
abbrev pub inverse_of : Expression → Store → Answer
inverse_of e s = bind (value_of e s) (λ a. pure (truth (a == 0)))

-- a value as a subscript
abbrev pub subscript_value : Expression → ℕ → Store → Answer
subscript_value e size s = bind (value_of e s) (subscript size)

-- an expression that is one constant, below a size
abbrev pub IsConstantBelow : Knowledge → Expression → ℕ → Type 0
IsConstantBelow k e size = (c : ℕ) × (constant_in k e ≡ Some c) × (c < size)

-- a variable that is a byte and has a word
pub record IsByteVariable (k : Knowledge) (e : Expression) (x : ℕ) : Type 0 where
  pub variable : e ≡ Variable x
  pub word : (fact_at k x).constant ≡ None
  pub small : ContainsAllOf (from_to (pos 0) (pos 255)) (fact_at k x).source

-- ---- operators

abbrev pub IsNoShift : Operator → Type 0
IsNoShift ShiftLeft = ⊥
IsNoShift ShiftRight = ⊥
IsNoShift operator = Unit {0}

-- what an operator makes of two values, of a value and a constant, and of a constant and a value
abbrev pub applied_value : Operator → (left right : Expression) → Store → Answer
applied_value operator left right s = bind (value_of left s) (λ b. bind (value_of right s) (applied operator b))

abbrev pub applied_last : Operator → Expression → ℕ → Store → Answer
applied_last operator left c s = bind (value_of left s) (λ b. applied operator b c)

abbrev pub applied_first : Operator → ℕ → Expression → Store → Answer
applied_first operator c right s = bind (value_of right s) (applied operator c)

-- the code of two operands
abbrev pub ComputesBoth : Knowledge → (old new : Lines) → (left right : Expression) → (Store → Answer)
    → (registers kept : ℕ) → Type 0
ComputesBoth k old new left right made registers kept =
    (storages : List Storage) (scope : List Entry) (unset : ℕ → Bool) (s : Store) → IsPlace k storages scope
    → MayStand k storages scope unset left → MayStand k storages scope unset right → 1 ≤ registers → registers ≤ 3
    → Knows k scope unset s
    → Does k.arrays old new (Agrees k scope unset s)
    (λ m end. Pushes registers (made s) m end × LeavesItems scope kept m end)

abbrev pub IsKnownOfBoth : Knowledge → (left right : Expression) → (Store → Answer) → Value → Type 0
IsKnownOfBoth k left right made value =
    (storages : List Storage) (scope : List Entry) (unset : ℕ → Bool) (s : Store) → IsPlace k storages scope
    → MayStand k storages scope unset left → MayStand k storages scope unset right → Knows k scope unset s
    → Holds value (made s).word

-- one register is enough for an operator's operands, in this order or in either
abbrev pub HasImmediate : Knowledge → Operator → (left right : Expression) → Type 0
HasImmediate k operator left right = IsTrue (is_immediate k operator right && is_simple k left)

abbrev pub IsSimplePair : Knowledge → Operator → (left right : Expression) → Type 0
IsSimplePair k operator left right =
    IsTrue ((is_immediate k operator right && is_simple k left)
    || (commutes operator && is_immediate k operator left && is_simple k right))

-- Two numbers are pushed, b below a; where they may change places, in either order.
pub record PushesTwo (registers b a : ℕ) (flag may_change : Bool) (m end : Machine) : Type 0 where
  pub operands : HasOperands b a end ⊎ ((may_change ≡ true) × HasOperands a b end)
  pub creg : registers ≤ 2 → end.creg ≡ m.areg
  pub error : end.error ≡ (m.error || flag)

-- the code of two operands that are left in registers
abbrev pub ComputesTwo : Knowledge → (old new : Lines) → (left right : Expression) → (Store → Answer) → (Store → Answer)
    → Bool → (registers kept : ℕ) → Type 0
ComputesTwo k old new left right b a may_change registers kept =
    (storages : List Storage) (scope : List Entry) (unset : ℕ → Bool) (s : Store) → IsPlace k storages scope
    → MayStand k storages scope unset left → MayStand k storages scope unset right → 2 ≤ registers → registers ≤ 3
    → Knows k scope unset s
    → Does k.arrays old new (Agrees k scope unset s)
    (λ m end. PushesTwo registers (b s).word (a s).word ((b s).flag || (a s).flag) may_change m end
    × LeavesItems scope kept m end)

-- ---- names with values

-- a name that is not in scope takes the value of an expression: what is known then holds of the state with that value
abbrev pub Binds : (before after : Knowledge) → ℕ → Expression → Type 0
Binds before after x e =
    (storages : List Storage) (scope : List Entry) (unset : ℕ → Bool) (s : Store) → IsPlace before storages scope
    → MayStand before storages scope unset e → Knows before scope unset s
    → IsTrue (is_new_name (length before.kinds) scope x)
    → Knows after (scope ++ entry.Value x ∷ []) unset (with_value x (value_of e s).word s)

-- .. and its code gives the name's word that value, if it has a word, and leaves what is in use
pub record Binding (registers kept : ℕ) (scope : List Entry) (flag : Bool) (m end : Machine) : Type 0 where
  pub areg : registers ≤ 2 → end.areg ≡ m.areg
  pub breg : registers ≤ 1 → end.breg ≡ m.breg
  pub error : end.error ≡ (m.error || flag)
  pub leaves : LeavesItems scope kept m end

abbrev pub ComputesBinding : (before after : Knowledge) → (old new : Lines) → ℕ → Expression → (registers kept : ℕ)
    → Type 0
ComputesBinding before after old new x e registers kept =
    (storages : List Storage) (scope : List Entry) (unset : ℕ → Bool) (s : Store) → IsPlace before storages scope
    → MayStand before storages scope unset e → Suffices before registers e → Knows before scope unset s
    → IsTrue (is_new_name (length before.kinds) scope x)
    → Does before.arrays old new (Agrees before scope unset s)
    (λ m end. Binding registers kept scope (value_of e s).flag m end
    × Agrees after (scope ++ entry.Value x ∷ []) unset (with_value x (value_of e s).word s) end)

-- a subscript that is one constant, of a word or of the first byte of a word that there is
pub record IsFixed (k : Knowledge) (a : ℕ) (view : Kind) (e : Expression) (c : ℕ) : Type 0 where
  pub constant : constant_in k e ≡ Some c
  pub below : slice_index k.arrays a < 2 ^ 32 → c < elements_of view (slice_index k.arrays a)
  pub whole : view ≡ Byte → c % 4 ≡ 0

-- one more and one less than the value of an expression that is one constant
pub record IsSuccessor (k : Knowledge) (e : Expression) (next : ℕ) : Type 0 where
  pub of : ℕ
  pub constant : constant_in k e ≡ Some of
  pub small : of < 2 ^ 32
  pub less : of ≢ 2 ^ 31 - 1
  pub is : next ≡ (of + 1) % 2 ^ 32

pub record IsPredecessor (k : Knowledge) (e : Expression) (before : ℕ) : Type 0 where
  pub of : ℕ
  pub constant : constant_in k e ≡ Some of
  pub small : of < 2 ^ 32
  pub more : of ≢ 2 ^ 31
  pub is : before ≡ (of + (2 ^ 32 - 1)) % 2 ^ 32

-- operands of a sum that is a word's subscript: a variable that has a word, and a constant, together below the array's
-- size
pub record IsOffsetOf (k : Knowledge) (a : ℕ) (view : Kind) (left right : Expression) (x c : ℕ) : Type 0 where
  pub variable : left ≡ Variable x
  pub constant : constant_in k right ≡ Some c
  pub words : view ≡ Word
  pub word : (fact_at k x).constant ≡ None
  pub below : slice_index k.arrays a ≤ 2048 → (v : ℕ) → v < 2 ^ 32 → Contains (fact_at k x).known v
      → v + c < elements_of view (slice_index k.arrays a)

pub record IsOffset (k : Knowledge) (a : ℕ) (view : Kind) (e : Expression) (x c : ℕ) : Type 0 where
  pub operator : Operator
  pub which : (operator ≡ Add) ⊎ (operator ≡ Plus)
  pub p : Box (Unit {0}) Global
  pub left : Expression
  pub q : Box (Unit {0}) Global
  pub right : Expression
  pub is : e ≡ Binary' operator p left q right
  pub offset : IsOffsetOf k a view left right x c

-- ---- conditions

-- What is 0 exactly where a value is 0 is pushed.
pub record Decided (made : Answer) (scope : List Entry) (kept : ℕ) (m end : Machine) : Type 0 where
  pub word : ℕ
  pub areg : end.areg ≡ number word
  pub same : (word == 0) ≡ (made.word == 0)
  pub error : end.error ≡ (m.error || made.flag)
  pub leaves : LeavesItems scope kept m end

-- the code of a condition
abbrev pub Decides : Knowledge → (old new : Lines) → Expression → (registers kept : ℕ) → Type 0
Decides k old new e registers kept =
    (storages : List Storage) (scope : List Entry) (unset : ℕ → Bool) (s : Store) → IsPlace k storages scope
    → MayStand k storages scope unset e → 2 ≤ registers → registers ≤ 3 → Knows k scope unset s
    → Does k.arrays old new (Agrees k scope unset s) (Decided (value_of e s) scope kept)

-- .. and of one that two operands are not equal
abbrev pub unequal_value : (left right : Expression) → Store → Answer
unequal_value left right s = bind (applied_value Equal left right s) (λ a. pure (truth (a == 0)))

abbrev pub DecidesUnequal : Knowledge → (old new : Lines) → (left right : Expression) → (registers kept : ℕ) → Type 0
DecidesUnequal k old new left right registers kept =
    (storages : List Storage) (scope : List Entry) (unset : ℕ → Bool) (s : Store) → IsPlace k storages scope
    → MayStand k storages scope unset left → MayStand k storages scope unset right → 2 ≤ registers → registers ≤ 3
    → Knows k scope unset s
    → Does k.arrays old new (Agrees k scope unset s) (Decided (unequal_value left right s) scope kept)
