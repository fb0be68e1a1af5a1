-- When a machine agrees with the state of a worker: what the code of a construct may count on, and what it keeps.
use Rattle.std.specs.Prelude.{◌≡◌, ℕ, ◌/◌, ◌^◌, ◌<◌, pos, Bool, false, List, length}
use Rattle.std.specs.Prelude.{map, slice_index, slice_index_or}
use Rattle.std.specs.Prelude.{slice_set, Option, Some, None, IsTrue}
use Rattle.std.specs.List.{list_any}
use Rattle.tp_words.specs.Words.{signed}
use Rattle.tpw_occam_core.specs.declared.kind.Kind.{Kind}
use Rattle.tpw_occam_core.specs.declared.kind.Kind.TheVariants as kind
use Rattle.tpw_occam_core.specs.declared.scope.Entry.{Entry}
use Rattle.tpw_occam_core.specs.declared.worker.Worker.{Worker}
use Rattle.tpw_occam_core.specs.declared.expression.Expression.{Expression}
use Rattle.tpw_occam_core.specs.declared.expression.Expression.TheVariants.{Constant, Variable}
use Rattle.tpw_occam_core.specs.Meaning.{Store, array_of}
use Rattle.tpw_occam_core.specs.Sound.{is_name, is_array, bytes_of as size_of}
use Rattle.tpw_occam_symbolic.specs.declared.items.Item.{Item}
use Rattle.tpw_occam_symbolic.specs.declared.items.Item.TheVariants as item
use Rattle.tpw_occam_expressions.specs.declared.emitter.Fact.{Fact}
use Rattle.tpw_occam_expressions.specs.declared.range.Range.{Range}
use Rattle.tpw_occam_expressions.specs.Ranges.{full, from_to, Contains}
use Rattle.tpw_occam_symbolic.specs.Symbolic.{Machine}
use Rattle.tpw_occam_symbolic.specs.Leading.{HasConstants, HasArray, HasWord}

-- ---- what is known of names

-- the kinds of variables, how many bytes each array has, and what is known of each name
pub record Knowledge : Type 0 where
  pub kinds : List Kind
  pub arrays : List ℕ
  pub facts : List Fact

-- nothing is known of a word
abbrev pub any_word : Fact
any_word = record { source = full; known = full; constant = None }

-- what is known of a variable of a kind
abbrev pub fact_of_kind : Kind → Fact
fact_of_kind kind.Word = any_word
fact_of_kind kind.Byte = record { source = from_to (pos 0) (pos 255); known = full; constant = None }

-- what is known of a worker's names at first
abbrev pub knowledge_of : Worker → Knowledge
knowledge_of w = record {
  kinds = w.variables.items;
  arrays = map size_of w.arrays.items;
  facts = map fact_of_kind w.variables.items;
}

-- what is known of a name with a value in a range, of one with a constant, and of the index of a loop
abbrev pub valued_fact : Range → Fact
valued_fact source = record { source = source; known = full; constant = None }

abbrev pub constant_fact : ℕ → Fact
constant_fact c = record {
  source = from_to (signed c) (signed c);
  known = from_to (signed c) (signed c);
  constant = Some c;
}

abbrev pub counted_fact : Range → Fact
counted_fact range = record { source = range; known = range; constant = None }

-- the elements of this many bytes, seen as words or bytes
abbrev pub elements_of : Kind → ℕ → ℕ
elements_of kind.Word bytes = bytes / 4
elements_of kind.Byte bytes = bytes

abbrev pub fact_at : Knowledge → ℕ → Fact
fact_at k x = slice_index_or k.facts x any_word

abbrev pub with_fact : ℕ → Fact → Knowledge → Knowledge
with_fact x fact k = record k { facts = slice_set k.facts x fact }

-- the value of an expression that is one constant
abbrev pub constant_in : Knowledge → Expression → Option ℕ
constant_in k (Constant c) = Some c
constant_in k (Variable x) = (fact_at k x).constant
constant_in k e = None

-- ---- agreement

-- what is known of a name holds of its value
pub record FitsFact (fact : Fact) (value : ℕ) : Type 0 where
  pub small : value < 2 ^ 32
  pub source : Contains fact.source value
  pub known : Contains fact.known value
  pub constant : (c : ℕ) → fact.constant ≡ Some c → value ≡ c

-- What is known holds of a state, for the names in scope that are assigned and for the arrays in scope.
pub record Knows (k : Knowledge) (scope : List Entry) (unset : ℕ → Bool) (s : Store) : Type 0 where
  pub names : (x : ℕ) → IsTrue (list_any (is_name x) scope) → unset x ≡ false
      → FitsFact (fact_at k x) (slice_index s.values x)
  pub lengths : (a : ℕ) → IsTrue (list_any (is_array a) scope) → length (array_of s a) ≡ slice_index k.arrays a
  pub count : length s.values ≡ length k.kinds
  pub bytes : (a i : ℕ) → slice_index (array_of s a) i < 256

-- A machine agrees with a state in the names in scope that are assigned and have a word, and in the arrays in scope.
pub record Agrees (k : Knowledge) (scope : List Entry) (unset : ℕ → Bool) (s : Store) (m : Machine) : Type 0 where
  pub words : (x : ℕ) → IsTrue (list_any (is_name x) scope) → unset x ≡ false → (fact_at k x).constant ≡ None
      → HasWord (item.Variable x) (slice_index s.values x) m
  pub arrays : (a : ℕ) → IsTrue (list_any (is_array a) scope) → HasArray a (array_of s a) m
  pub constants : HasConstants m

-- ---- what stays

-- what the code of an expression leaves: the names in scope, the words that are kept, arrays and constants
abbrev pub Stays : List Entry → ℕ → Item → Type 0
Stays scope kept (item.Variable x) = IsTrue (list_any (is_name x) scope)
Stays scope kept (item.Temporary t) = t < kept
Stays scope kept other = Unit {0}

pub record LeavesItems (scope : List Entry) (kept : ℕ) (m end : Machine) : Type 0 where
  pub blocks : (i : Item) (at : ℕ) → Stays scope kept i → end.blocks i at ≡ m.blocks i at
  pub to_come : end.to_come ≡ m.to_come
  pub sent : end.sent ≡ m.sent
  pub traced : end.traced ≡ m.traced
