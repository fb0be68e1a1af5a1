-- The code of each construct of expressions.
use Rattle.std.proofs.Common.{◌≡◌, ◌⊎◌, inl, inr, ◌+◌, ◌/◌, ◌%◌, ◌^◌, ◌≤◌, ◌<◌, [], ◌∷◌, ℕ, zero, suc, List, length, map, Some, None, Bool, false, true, refl, ap, sym, subst, ◌∙◌, arith, w32}
use Rattle.std.specs.Prelude.{slice_index, ◌||◌, IsTrue, pos}
use Rattle.std.specs.List.{list_any}
use Rattle.std.specs.Option.{option_map_or}
use Rattle.std.proofs.Math.Bool.{or-false}
use Rattle.std.proofs.Math.Pow.{mod-mod-pow}
use Rattle.std.proofs.lemmas.Bool.{cases_lt, lt-ltb, le-ltb, eqb-true}
use Rattle.tp_words.specs.Words.{complement}
use Rattle.tp_decode.specs.declared.instr.Instr.TheVariants.{BitNot}
use Rattle.tpw_occam_core.specs.declared.arithmetic.Answer.{Answer}
use Rattle.tpw_occam_core.specs.declared.worker.Storage.{Storage}
use Rattle.tpw_occam_core.specs.declared.scope.Entry.{Entry}
use Rattle.tpw_occam_core.specs.declared.kind.Kind.{Kind}
use Rattle.tpw_occam_core.specs.declared.kind.Kind.TheVariants as kind
use Rattle.tpw_occam_core.specs.declared.expression.Operator.{Operator}
use Rattle.tpw_occam_core.specs.declared.expression.Expression.{Expression}
use Rattle.tpw_occam_core.specs.declared.expression.Expression.TheVariants.{Constant, Variable, Element', Checked', Binary', Complement', Not', LowByte'}
use Rattle.std.proofs.lemmas.Int.{ints, to_z_pos}
use Rattle.std.proofs.lemmas.Bool.Decides.{nat_tests}
use Rattle.std.specs.Prelude.{◌+ℤ◌}
use Rattle.tp_words.specs.Words.{signed}
use Rattle.tp_words.specs.Numbers.{overflows}
use Rattle.tpw_occam_core.specs.declared.expression.Operator.TheVariants as operators
use Rattle.tpw_occam_core.specs.Arithmetic.{answer, pure, checked, wrapped, applied, subscript, low_byte}
use Rattle.tpw_occam_core.specs.Arrays.{size, element}
use Rattle.tpw_occam_core.specs.Meaning.{Store, bind, value_of, array_of, element_at}
use Rattle.tpw_occam_core.specs.Sound.{is_name, is_array, is_seen, bytes_of, storage_of}
use Rattle.tpw_occam_symbolic.specs.declared.code.Step.TheVariants.{Plain}
use Rattle.tpw_occam_expressions.specs.declared.expressions.Value.{Value}
use Rattle.tpw_occam_symbolic.specs.Code.{Lines, followed_by, line_of, place_behind}
use Rattle.tpw_occam_symbolic.specs.Symbolic.{Machine, effect, performed, number, push, set_areg}
use Rattle.tpw_occam_symbolic.specs.declared.items.Item.TheVariants as item
use Rattle.tpw_occam_expressions.specs.Ranges.{ContainsAllOf, from_to}
use Rattle.tpw_occam_symbolic.specs.Leading.{Does, HasConstants, HasArray, HasWord, Makes}
use Rattle.tpw_occam_expressions.specs.Values.{Holds, HasNumber, Replaces, Pushes, PushesAlone, PushesOver, Answers}
use Rattle.tpw_occam_expressions.specs.Agreement.{Knowledge, elements_of, constant_in, fact_at, Knows, Agrees, LeavesItems}
use Rattle.tpw_occam_expressions.specs.Computing.{IsPlace, MayStand, Suffices, Computes, ComputesTo, ComputesBoth, IsKnown, IsKnownOf, IsKnownOfBoth, inverse_of, subscript_value, applied_value, applied_last, applied_first, IsConstantBelow, IsByteVariable, IsSimplePair, HasImmediate, IsNoShift, IsFixed, IsOffset, has_immediate, is_immediate}
use Rattle.tpw_occam_symbolic.proofs.Leading.{does_both, does_less, does_step}
use Rattle.std.proofs.lemmas.Option.{same_Some}
use Rattle.tpw_occam_expressions.proofs.Indexing.{subscript_below, subscript_word_below, byte_small}
use Rattle.tpw_occam_expressions.proofs.Elements.{pushes_alone, replaces_set}
use Rattle.tpw_occam_expressions.proofs.Computing.{in_scope, set_name, agrees_after, alone_pushes, replaces_pushed, replaces_more}
use Rattle.tpw_occam_expressions.proofs.Standing.{Place, stand_checked, stand_element, stand_binary, stand_complement, stand_not, stand_low_byte, two_registers, suffices_two, suffices_part}
use Rattle.tpw_occam_symbolic.proofs.Sizes.{and_first, and_second}

-- what is done with a value that was pushed
pub record Goes (k : Knowledge) (scope : List Entry) (unset : ℕ → Bool) (s : Store) (between new : Lines) (registers few : ℕ)
    (one two : Answer) : Type 0 where
  pub enough : few ≤ registers
  pub does : Does k.arrays between new (λ m. Agrees k scope unset s m × HasNumber one.word m) (Replaces few two)

pub goes_by : (k : Knowledge) (scope : List Entry) (unset : ℕ → Bool) (s : Store) (between new : Lines) (registers few : ℕ)
    (one two : Answer) → few ≤ registers → Answers between new few one.word two → Goes k scope unset s between new registers few one two
goes_by k scope unset s between new registers few one two h makes = record {
  enough = h;
  does = does_less k.arrays between new _ _ _ _ (makes k.arrays) (λ m said. (said.0.constants, said.1)) (λ m end said after. after);
}

-- a value that is pushed, and another that takes its place
pub computes_then : (k : Knowledge) (old between new : Lines) (outer inner : Expression) (f : Store → Answer) (next : ℕ → Answer)
    (registers few kept : ℕ) → ComputesTo k old between inner f registers kept
    → ((storages : List Storage) (scope : List Entry) (unset : ℕ → Bool) (s : Store) → IsPlace k storages scope
    → MayStand k storages scope unset outer → Suffices k registers outer → Knows k scope unset s
    → MayStand k storages scope unset inner × Suffices k registers inner × Goes k scope unset s between new registers few (f s) (next (f s).word))
    → ComputesTo k old new outer (λ s. bind (f s) next) registers kept
computes_then k old between new outer inner f next registers few kept first second storages scope unset s place stands suffices knows =
    let parts = second storages scope unset s place stands suffices knows in
    does_both k.arrays old between new _ _ _ _ _ (first storages scope unset s place parts.0 parts.1 knows) parts.2.does
    (λ m middle agrees after. (agrees_after k scope unset kept s m middle agrees after.1, after.0.areg))
    (λ m middle end agrees after after2.
    replaces_pushed registers kept scope (f s) (next (f s).word) m middle end after
    (replaces_more few registers (next (f s).word) middle end parts.2.enough after2))

-- ---- a constant

pub constant_computes : (k : Knowledge) (old new : Lines) (c registers kept : ℕ) → Makes old new HasConstants (push (number c))
    → Computes k old new (Constant c) registers kept
constant_computes k old new c registers kept makes storages scope unset s place stands suffices knows =
    does_less k.arrays old new _ _ _ _ (makes k.arrays) (λ m said. said.constants)
    (λ m end said after. alone_pushes registers kept scope (pure c) m end suffices.least (pushes_alone c (place_behind new) m end after))

-- ---- a check

pub checked_computes : (k : Knowledge) (old between new : Lines) (below : ℕ) (p : Place) (e : Expression) (value : Value) (registers kept : ℕ)
    → Computes k old between e registers kept → IsKnown k e value
    → ((i : ℕ) → Holds value i → 0 < below → below ≤ 2 ^ 31 → Answers between new 2 i (subscript below i))
    → Computes k old new (Checked' below p e) registers kept
checked_computes k old between new below p e value registers kept computes known makes =
    computes_then k old between new (Checked' below p e) e (value_of e) (subscript below) registers 2 kept computes
    (λ storages scope unset s place stands suffices knows.
    let parts = stand_checked k storages scope unset below p e stands in
    let two = two_registers k registers (Checked' below p e) refl suffices in (
      parts.2,
      suffices_two k registers e two suffices.most,
      goes_by k scope unset s between new registers 2 (value_of e s) (subscript below (value_of e s).word) two
          (makes (value_of e s).word (known storages scope unset s place parts.2 knows) parts.0 parts.1),
    ))

pub checked_known : (k : Knowledge) (below : ℕ) (p : Place) (e : Expression) (value made : Value) → IsKnown k e value
    → ((i : ℕ) → Holds value i → 0 < below → below ≤ 2 ^ 31 → Holds made (subscript below i).word)
    → IsKnown k (Checked' below p e) made
checked_known k below p e value made known holds storages scope unset s place stands knows =
    let parts = stand_checked k storages scope unset below p e stands in
    holds (value_of e s).word (known storages scope unset s place parts.2 knows) parts.0 parts.1

-- ---- a low byte

low_byte_is : (i : ℕ) → low_byte i ≡ subscript 256 i
low_byte_is i = by_test (cases_lt i 256)
  where
    by_test : (i < 256) ⊎ (256 ≤ i) → low_byte i ≡ subscript 256 i
    by_test (inl below) = rw (lt-ltb i 256 below) (ap (λ n. answer n false) (omega arith))
    by_test (inr above) = rw (le-ltb i 256 above) (ap (λ n. answer n true) (sym (mod-mod-pow i 23 8)))

pub low_byte_computes : (k : Knowledge) (old between new : Lines) (p : Place) (e : Expression) (value : Value) (registers kept : ℕ)
    → Computes k old between e registers kept → IsKnown k e value
    → ((i : ℕ) → Holds value i → 0 < 256 → 256 ≤ 2 ^ 31 → Answers between new 2 i (subscript 256 i))
    → Computes k old new (LowByte' p e) registers kept
low_byte_computes k old between new p e value registers kept computes known makes =
    computes_then k old between new (LowByte' p e) e (value_of e) low_byte registers 2 kept computes
    (λ storages scope unset s place stands suffices knows.
    let two = two_registers k registers (LowByte' p e) refl suffices in
    let word = (value_of e s).word in
    let part = stand_low_byte k storages scope unset p e stands in (
      part,
      suffices_two k registers e two suffices.most,
      goes_by k scope unset s between new registers 2 (value_of e s) (low_byte word) two
          (subst (λ made. Answers between new 2 word made) (sym (low_byte_is word))
          (makes word (known storages scope unset s place part knows) (omega arith) (omega arith))),
    ))

pub low_byte_known : (k : Knowledge) (p : Place) (e : Expression) (value made : Value) → IsKnown k e value
    → ((i : ℕ) → Holds value i → 0 < 256 → 256 ≤ 2 ^ 31 → Holds made (subscript 256 i).word)
    → IsKnown k (LowByte' p e) made
low_byte_known k p e value made known holds storages scope unset s place stands knows =
    let word = (value_of e s).word in
    subst (λ a. Holds made a.word) (sym (low_byte_is word))
    (holds word (known storages scope unset s place (stand_low_byte k storages scope unset p e stands) knows) (omega arith) (omega arith))

-- ---- a complement

complement_small : (i : ℕ) → complement i < 2 ^ 32
complement_small i = omega arith

pub answers_not : (old new : Lines) (source i : ℕ) → new ≡ followed_by old (line_of source (Plain BitNot) ∷ [])
    → Answers old new 1 i (pure (complement i))
unfolding performed effect
answers_not old new source i is arrays =
    does_less arrays old new _ _ _ _
    (does_step arrays old new source (Plain BitNot) (HasNumber i) (set_areg (number (complement i))) is
    (λ m areg served. rw areg refl) (λ m. refl) (λ m. refl) (λ m. refl))
    (λ m said. said.1) (λ m end said after. replaces_set (complement i) (place_behind new) m end after)

pub complement_computes : (k : Knowledge) (old between new : Lines) (source : ℕ) (p : Place) (e : Expression) (registers kept : ℕ)
    → Computes k old between e registers kept → new ≡ followed_by between (line_of source (Plain BitNot) ∷ [])
    → Computes k old new (Complement' p e) registers kept
complement_computes k old between new source p e registers kept computes is =
    computes_then k old between new (Complement' p e) e (value_of e) (λ a. pure (complement a)) registers 1 kept computes
    (λ storages scope unset s place stands suffices knows. (
      stand_complement k storages scope unset p e stands,
      suffices_part k registers (Complement' p e) e (λ simple. simple) suffices,
      goes_by k scope unset s between new registers 1 (value_of e s) (pure (complement (value_of e s).word)) suffices.least
          (answers_not between new source (value_of e s).word is),
    ))

pub complement_known : (k : Knowledge) (p : Place) (e : Expression) (value made : Value) → IsKnown k e value
    → ((word : ℕ) → Holds value word → Holds made (complement word))
    → IsKnown k (Complement' p e) made
complement_known k p e value made known holds storages scope unset s place stands knows =
    holds (value_of e s).word (known storages scope unset s place (stand_complement k storages scope unset p e stands) knows)

-- ---- an operator

pub binary_computes : (k : Knowledge) (old new : Lines) (operator : Operator) (p : Place) (e : Expression) (q : Place) (f : Expression)
    (registers kept : ℕ)
    → ((registers ≤ 1 → IsSimplePair k operator e f) → ComputesBoth k old new e f (applied_value operator e f) registers kept)
    → Computes k old new (Binary' operator p e q f) registers kept
binary_computes k old new operator p e q f registers kept both storages scope unset s place stands suffices knows =
    let parts = stand_binary k storages scope unset operator p e q f stands in
    both suffices.simple storages scope unset s place parts.0 parts.1 suffices.least suffices.most knows

pub binary_known : (k : Knowledge) (operator : Operator) (p : Place) (e : Expression) (q : Place) (f : Expression) (value : Value)
    → IsKnownOfBoth k e f (applied_value operator e f) value → IsKnown k (Binary' operator p e q f) value
binary_known k operator p e q f value known storages scope unset s place stands knows =
    let parts = stand_binary k storages scope unset operator p e q f stands in
    known storages scope unset s place parts.0 parts.1 knows

-- ---- constants

-- the value of an expression that is one constant
pub constant_value : (k : Knowledge) (storages : List Storage) (scope : List Entry) (unset : ℕ → Bool) (s : Store) (e : Expression) (c : ℕ)
    → MayStand k storages scope unset e → Knows k scope unset s → constant_in k e ≡ Some c → value_of e s ≡ pure c
constant_value k storages scope unset s (Constant d) c stands knows is = ap pure (same_Some d c is)
constant_value k storages scope unset s (Variable x) c stands knows is =
    let fits = knows.names x (in_scope k storages scope unset x stands) (set_name k storages scope unset x stands) in
    ap pure (fits.constant c is)
constant_value k storages scope unset s e c stands knows is = cc

-- ---- elements

-- an array in scope
pub seen_array : (storages : List Storage) (scope : List Entry) (a : ℕ) (view : Kind) → is_seen storages scope a view ≡ true
    → list_any (is_array a) scope ≡ true
seen_array storages scope a kind.Word e = and_first _ _ e
seen_array storages scope a kind.Byte e = e

-- how many bytes a storage has
slice_bytes : (storages : List Storage) (a : ℕ) → slice_index (map bytes_of storages) a ≡ bytes_of (storage_of storages a)
slice_bytes [] a = refl
slice_bytes (storage ∷ storages) zero = refl
slice_bytes (storage ∷ storages) (suc a) = slice_bytes storages a

-- an array seen as words has whole ones
pub seen_size : (k : Knowledge) (storages : List Storage) (scope : List Entry) (a : ℕ) (view : Kind) → IsPlace k storages scope
    → is_seen storages scope a view ≡ true → 0 < elements_of view (slice_index k.arrays a)
seen_size k storages scope a kind.Word place e =
    let least = place.least a (seen_array storages scope a kind.Word e) in
    let whole : bytes_of (storage_of storages a) % 4 ≡ 0 = eqb-true _ 0 (and_second (list_any (is_array a) scope) _ e) in
    let same : slice_index k.arrays a ≡ bytes_of (storage_of storages a) = ap (λ l. slice_index l a) place.arrays ∙ slice_bytes storages a in
    omega (arith, least, whole, same)
seen_size k storages scope a kind.Byte place e = place.least a e

pub size_is : (view : Kind) (bytes : List ℕ) (n : ℕ) → length bytes ≡ n → elements_of view n ≡ size view bytes
size_is kind.Word bytes n e = ap (λ m. m / 4) (sym e)
size_is kind.Byte bytes n e = sym e

pub elements_most : (view : Kind) (n : ℕ) → n ≤ 2048 → elements_of view n ≤ 2 ^ 31
elements_most kind.Word n h = omega arith
elements_most kind.Byte n h = omega arith

-- the element of a subscript that is pushed
pub element_computes : (k : Knowledge) (old between new : Lines) (a : ℕ) (view : Kind) (p : Place) (e : Expression) (elements : ℕ) (registers kept : ℕ)
    → (slice_index k.arrays a < 2 ^ 32 → elements ≡ elements_of view (slice_index k.arrays a))
    → (0 < elements → elements ≤ 2 ^ 31 → (registers ≤ 1 → IsConstantBelow k e elements)
    → ComputesTo k old between e (subscript_value e elements) registers kept)
    → ((arrays bytes : List ℕ) (i : ℕ) → length bytes ≡ slice_index arrays a → i < size view bytes
    → Does arrays between new (λ m. HasNumber i m × HasArray a bytes m) (Replaces 2 (pure (element view bytes i))))
    → Computes k old new (Element' a view p e) registers kept
element_computes k old between new a view p e elements registers kept counted computes makes storages scope unset s place stands suffices knows =
    let parts = stand_element k storages scope unset a view p e stands in
    let there = seen_array storages scope a view parts.0 in
    let most = place.most a there in
    let bytes = array_of s a in
    let two = two_registers k registers (Element' a view p e) refl suffices in
    let count : elements ≡ elements_of view (slice_index k.arrays a) = counted (omega (arith, most)) in
    let sized : elements ≡ size view bytes = count ∙ size_is view bytes _ (knows.lengths a there) in
    let least : 0 < elements = subst (λ n. 0 < n) (sym count) (seen_size k storages scope a view place parts.0) in
    let small : elements ≤ 2 ^ 31 = subst (λ n. n ≤ 2 ^ 31) (sym count) (elements_most view _ most) in
    let one = subscript_value e elements s in
    let below : one.word < size view bytes = subst (λ n. one.word < n) sized (subscript_word_below elements (value_of e s).word least) in
    let pushed = computes least small (λ one. absurd (omega (arith, two, one))) storages scope unset s place parts.1
    (suffices_two k registers e two suffices.most) knows in
    let made : answer (element view bytes one.word) (one.flag || false) ≡ value_of (Element' a view p e) s =
    ap (answer (element view bytes one.word)) (or-false one.flag)
    ∙ ap (λ n. answer (element view bytes (subscript n (value_of e s).word).word) ((value_of e s).flag || (subscript n (value_of e s).word).flag)) sized in
    does_less k.arrays old new _ _ _ _
    (does_both k.arrays old between new _ _ _ _ _ pushed
    (does_less k.arrays between new _ _ (λ m. Agrees k scope unset s m × HasNumber one.word m) _
    (makes k.arrays bytes one.word (knows.lengths a there) below) (λ m said. (said.1, said.0.arrays a there)) (λ m end said after. after))
    (λ m middle agrees after. (agrees_after k scope unset kept s m middle agrees after.1, after.0.areg))
    (λ m middle end agrees after after2.
    replaces_pushed registers kept scope one (pure (element view bytes one.word)) m middle end after (replaces_more 2 registers _ middle end two after2)))
    (λ m said. said)
    (λ m end said after. subst (λ x. Pushes registers x m end × LeavesItems scope kept m end) made after)

pub element_known : (k : Knowledge) (a : ℕ) (view : Kind) (p : Place) (e : Expression) (value : Value)
    → ((bytes : List ℕ) (i : ℕ) → ((at : ℕ) → slice_index bytes at < 256) → Holds value (element view bytes i))
    → IsKnown k (Element' a view p e) value
element_known k a view p e value holds storages scope unset s place stands knows =
    holds (array_of s a) _ (knows.bytes a)

-- an element with a constant subscript
pub fixed_computes : (k : Knowledge) (old new : Lines) (a : ℕ) (view : Kind) (p : Place) (e : Expression) (c : ℕ) (registers kept : ℕ)
    → IsFixed k a view e c
    → ((arrays bytes : List ℕ) → length bytes ≡ slice_index arrays a → c < size view bytes → (view ≡ kind.Byte → c % 4 ≡ 0)
    → Does arrays old new (HasArray a bytes) (PushesAlone (pure (element view bytes c))))
    → Computes k old new (Element' a view p e) registers kept
fixed_computes k old new a view p e c registers kept fixed makes storages scope unset s place stands suffices knows =
    let parts = stand_element k storages scope unset a view p e stands in
    let there = seen_array storages scope a view parts.0 in
    let bytes = array_of s a in
    let value : value_of e s ≡ pure c = constant_value k storages scope unset s e c parts.1 knows fixed.constant in
    let most = place.most a there in
    let below = fixed.below (omega (arith, most)) in
    let within : c < size view bytes = subst (λ n. c < n) (size_is view bytes _ (knows.lengths a there)) below in
    let made : pure (element view bytes c) ≡ value_of (Element' a view p e) s =
    ap (λ x. answer (element view bytes x.word) x.flag) (sym (subscript_below (size view bytes) c within))
    ∙ ap (λ v. answer (element view bytes (subscript (size view bytes) v.word).word) (v.flag || (subscript (size view bytes) v.word).flag)) (sym value) in
    does_less k.arrays old new _ _ _ _ (makes k.arrays bytes (knows.lengths a there) within fixed.whole)
    (λ m agrees. agrees.arrays a there)
    (λ m end said after. subst (λ x. Pushes registers x m end × LeavesItems scope kept m end) made
    (alone_pushes registers kept scope (pure (element view bytes c)) m end suffices.least after))

-- ---- subscripts

pub constant_subscript_computes : (k : Knowledge) (old new : Lines) (e : Expression) (size c registers kept : ℕ)
    → (constant_in k e ≡ Some c) × (c < size) → Makes old new HasConstants (push (number c))
    → ComputesTo k old new e (subscript_value e size) registers kept
constant_subscript_computes k old new e size c registers kept is makes storages scope unset s place stands suffices knows =
    let value : value_of e s ≡ pure c = constant_value k storages scope unset s e c stands knows is.0 in
    let made : pure c ≡ subscript_value e size s =
    sym (subscript_below size c is.1) ∙ ap (λ v. answer (subscript size v.word).word (v.flag || (subscript size v.word).flag)) (sym value) in
    does_less k.arrays old new _ _ _ _ (makes k.arrays) (λ m said. said.constants)
    (λ m end said after. subst (λ x. Pushes registers x m end × LeavesItems scope kept m end) made
    (alone_pushes registers kept scope (pure c) m end suffices.least (pushes_alone c (place_behind new) m end after)))

pub constant_subscript_known : (k : Knowledge) (e : Expression) (size c : ℕ) (value : Value)
    → (constant_in k e ≡ Some c) × (c < size) → Holds value c → IsKnownOf k e (subscript_value e size) value
constant_subscript_known k e size c value is holds storages scope unset s place stands knows =
    let same : value_of e s ≡ pure c = constant_value k storages scope unset s e c stands knows is.0 in
    let made : pure c ≡ subscript_value e size s =
    sym (subscript_below size c is.1) ∙ ap (λ v. answer (subscript size v.word).word (v.flag || (subscript size v.word).flag)) (sym same) in
    subst (λ a. Holds value a.word) made holds

-- an expression that is no constant below the size needs two registers for a check
pub not_constant : (k : Knowledge) (e : Expression) (size registers : ℕ) → (IsConstantBelow k e size → ⊥) → (registers ≤ 1 → IsConstantBelow k e size)
    → 2 ≤ registers
not_constant k e size registers none enough = by_number (cases_lt 1 registers)
  where
    by_number : (1 < registers) ⊎ (registers ≤ 1) → 2 ≤ registers
    by_number (inl more) = more
    by_number (inr one) = absurd (none (enough one))

pub settled_computes : (k : Knowledge) (old between new : Lines) (e : Expression) (value : Value) (size registers kept : ℕ)
    → Computes k old between e registers kept → IsKnown k e value
    → ((i : ℕ) → Holds value i → 0 < size → size ≤ 2 ^ 31 → Answers between new 2 i (subscript size i))
    → 0 < size → size ≤ 2 ^ 31 → 2 ≤ registers
    → ComputesTo k old new e (subscript_value e size) registers kept
settled_computes k old between new e value size registers kept computes known makes positive small two =
    computes_then k old between new e e (value_of e) (subscript size) registers 2 kept computes
    (λ storages scope unset s place stands suffices knows. (
      stands,
      suffices,
      goes_by k scope unset s between new registers 2 (value_of e s) (subscript size (value_of e s).word) two
          (makes (value_of e s).word (known storages scope unset s place stands knows) positive small),
    ))

pub settled_known : (k : Knowledge) (e : Expression) (size : ℕ) (value made : Value) → IsKnown k e value
    → ((i : ℕ) → Holds value i → 0 < size → size ≤ 2 ^ 31 → Holds made (subscript size i).word)
    → 0 < size → size ≤ 2 ^ 31 → IsKnownOf k e (subscript_value e size) made
settled_known k e size value made known holds positive small storages scope unset s place stands knows =
    holds (value_of e s).word (known storages scope unset s place stands knows) positive small

-- the value of a variable that is read as a byte
byte_below : (k : Knowledge) (storages : List Storage) (scope : List Entry) (unset : ℕ → Bool) (s : Store) (x : ℕ)
    → ContainsAllOf (from_to (pos 0) (pos 255)) (fact_at k x).source → MayStand k storages scope unset (Variable x) → Knows k scope unset s
    → slice_index s.values x < 256
byte_below k storages scope unset s x contains stands knows =
    let fits = knows.names x (in_scope k storages scope unset x stands) (set_name k storages scope unset x stands) in
    byte_small _ fits.small (contains _ fits.source)

pub byte_computes : (k : Knowledge) (old between : Lines) (e : Expression) (x registers kept : ℕ) → IsByteVariable k e x
    → ((arrays : List ℕ) (word : ℕ) → word < 256 → Does arrays old between (HasWord (item.Variable x) word) (PushesAlone (pure word)))
    → Computes k old between e registers kept
byte_computes k old between e x registers kept is makes = rw is.variable (λ storages scope unset s place stands suffices knows.
    let small = byte_below k storages scope unset s x is.small stands knows in
    does_less k.arrays old between _ _ _ _ (makes k.arrays (slice_index s.values x) small)
    (λ m agrees. agrees.words x (in_scope k storages scope unset x stands) (set_name k storages scope unset x stands) is.word)
    (λ m end said after. alone_pushes registers kept scope (pure (slice_index s.values x)) m end suffices.least after))

pub byte_known : (k : Knowledge) (e : Expression) (x : ℕ) (value : Value) → IsByteVariable k e x
    → ((word : ℕ) → word < 256 → Holds value word) → IsKnown k e value
byte_known k e x value is holds = rw is.variable (λ storages scope unset s place stands knows.
    holds (slice_index s.values x) (byte_below k storages scope unset s x is.small stands knows))

-- ---- an operand and a constant

pub last_computes : (k : Knowledge) (old between new : Lines) (operator : Operator) (left : Expression) (value : Value) (c registers kept : ℕ)
    → Computes k old between left registers kept → IsKnown k left value
    → ((vb : ℕ) → Holds value vb → IsNoShift operator → Answers between new 2 vb (applied operator vb c))
    → ((vb : ℕ) → Holds value vb → IsTrue (has_immediate operator c) → Answers between new 1 vb (applied operator vb c))
    → IsNoShift operator → (registers ≤ 1 → IsTrue (has_immediate operator c))
    → ComputesTo k old new left (applied_last operator left c) registers kept
last_computes k old between new operator left value c registers kept computes known makes immediate unshifted enough storages scope unset s place stands suffices knows =
    by_number (cases_lt 1 registers) storages scope unset s place stands suffices knows
  where
    by_number : (1 < registers) ⊎ (registers ≤ 1) → ComputesTo k old new left (applied_last operator left c) registers kept
    by_number (inl two) = computes_then k old between new left left (value_of left) (λ b. applied operator b c) registers 2 kept computes
        (λ storages scope unset s place stands suffices knows. (
          stands,
          suffices,
          goes_by k scope unset s between new registers 2 (value_of left s) (applied operator (value_of left s).word c) two
              (makes (value_of left s).word (known storages scope unset s place stands knows) unshifted),
        ))
    by_number (inr one) = computes_then k old between new left left (value_of left) (λ b. applied operator b c) registers 1 kept computes
        (λ storages scope unset s place stands suffices knows. (
          stands,
          suffices,
          goes_by k scope unset s between new registers 1 (value_of left s) (applied operator (value_of left s).word c) suffices.least
              (immediate (value_of left s).word (known storages scope unset s place stands knows) (enough one)),
        ))

pub last_known : (k : Knowledge) (operator : Operator) (left : Expression) (value made : Value) (c : ℕ) → IsKnown k left value
    → ((vb : ℕ) → Holds value vb → Holds made (applied operator vb c).word) → IsKnownOf k left (applied_last operator left c) made
last_known k operator left value made c known holds storages scope unset s place stands knows =
    holds (value_of left s).word (known storages scope unset s place stands knows)

-- ---- an inverse

pub not_computes : (k : Knowledge) (old new : Lines) (p : Place) (e : Expression) (registers kept : ℕ)
    → ComputesTo k old new e (inverse_of e) registers kept → Computes k old new (Not' p e) registers kept
not_computes k old new p e registers kept computes storages scope unset s place stands suffices knows =
    computes storages scope unset s place (stand_not k storages scope unset p e stands)
    (suffices_part k registers (Not' p e) e (λ simple. simple) suffices) knows

-- ---- an operator of which an operand is a constant

immediate_of_constant : (k : Knowledge) (operator : Operator) (e : Expression) (c : ℕ) → constant_in k e ≡ Some c → is_immediate k operator e ≡ true
    → has_immediate operator c ≡ true
immediate_of_constant k operator e c is h = sym (ap (λ o. option_map_or (has_immediate operator) o false) is) ∙ h

pub right_constant_computes : (k : Knowledge) (old new : Lines) (operator : Operator) (left right : Expression) (c registers kept : ℕ)
    → constant_in k right ≡ Some c
    → (IsNoShift operator → (registers ≤ 1 → IsTrue (has_immediate operator c)) → ComputesTo k old new left (applied_last operator left c) registers kept)
    → IsNoShift operator → (registers ≤ 1 → HasImmediate k operator left right)
    → ComputesBoth k old new left right (applied_value operator left right) registers kept
right_constant_computes k old new operator left right c registers kept is computes unshifted enough storages scope unset s place one two least most knows =
    let value : value_of right s ≡ pure c = constant_value k storages scope unset s right c two knows is in
    let made : applied_last operator left c s ≡ applied_value operator left right s =
    ap (λ v. bind (value_of left s) (λ b. bind v (applied operator b))) (sym value) in
    does_less k.arrays old new _ _ _ _
    (computes unshifted (λ h. immediate_of_constant k operator right c is (and_first _ _ (enough h))) storages scope unset s place one
    (record { least = least; most = most; simple = λ h. and_second _ _ (enough h) }) knows)
    (λ m said. said)
    (λ m end said after. subst (λ x. Pushes registers x m end × LeavesItems scope kept m end) made after)

pub right_constant_known : (k : Knowledge) (operator : Operator) (left right : Expression) (c : ℕ) (value : Value) → constant_in k right ≡ Some c
    → IsKnownOf k left (applied_last operator left c) value → IsKnownOfBoth k left right (applied_value operator left right) value
right_constant_known k operator left right c value is known storages scope unset s place one two knows =
    let same : value_of right s ≡ pure c = constant_value k storages scope unset s right c two knows is in
    subst (λ v. Holds value (bind (value_of left s) (λ b. bind v (applied operator b))).word) (sym same)
    (known storages scope unset s place one knows)

-- where the right operand is no constant, one register is not enough
pub no_immediate : (k : Knowledge) (operator : Operator) (left right : Expression) (registers : ℕ) → constant_in k right ≡ None
    → (registers ≤ 1 → HasImmediate k operator left right) → 2 ≤ registers
no_immediate k operator left right registers none enough = by_number (cases_lt 1 registers)
  where
    false_true : ◌≡◌ {A = Bool} false true → ⊥
    false_true e = cc

    by_number : (1 < registers) ⊎ (registers ≤ 1) → 2 ≤ registers
    by_number (inl more) = more
    by_number (inr one) = absurd (false_true (sym (ap (λ o. option_map_or (has_immediate operator) o false) none) ∙ and_first _ _ (enough one)))

pub left_constant_computes : (k : Knowledge) (old new : Lines) (operator : Operator) (left right : Expression) (c registers kept : ℕ)
    → constant_in k left ≡ Some c → constant_in k right ≡ None
    → (IsNoShift operator → 2 ≤ registers → ComputesTo k old new right (applied_first operator c right) registers kept)
    → IsNoShift operator → (registers ≤ 1 → HasImmediate k operator left right)
    → ComputesBoth k old new left right (applied_value operator left right) registers kept
left_constant_computes k old new operator left right c registers kept is none computes unshifted enough storages scope unset s place one two least most knows =
    let more = no_immediate k operator left right registers none enough in
    let value : value_of left s ≡ pure c = constant_value k storages scope unset s left c one knows is in
    let made : applied_first operator c right s ≡ applied_value operator left right s =
    ap (λ v. bind v (λ b. bind (value_of right s) (applied operator b))) (sym value) in
    does_less k.arrays old new _ _ _ _
    (computes unshifted more storages scope unset s place two (suffices_two k registers right more most) knows)
    (λ m said. said)
    (λ m end said after. subst (λ x. Pushes registers x m end × LeavesItems scope kept m end) made after)

pub left_constant_known : (k : Knowledge) (operator : Operator) (left right : Expression) (c : ℕ) (value : Value) → constant_in k left ≡ Some c
    → IsKnownOf k right (applied_first operator c right) value → IsKnownOfBoth k left right (applied_value operator left right) value
left_constant_known k operator left right c value is known storages scope unset s place one two knows =
    let same : value_of left s ≡ pure c = constant_value k storages scope unset s left c one knows is in
    subst (λ v. Holds value (bind v (λ b. bind (value_of right s) (applied operator b))).word) (sym same)
    (known storages scope unset s place two knows)

pub not_known : (k : Knowledge) (p : Place) (e : Expression) (value : Value) → IsKnownOf k e (inverse_of e) value → IsKnown k (Not' p e) value
not_known k p e value known storages scope unset s place stands knows =
    known storages scope unset s place (stand_not k storages scope unset p e stands) knows

-- ---- an element at an offset from a variable

no_overflow : (n : ℕ) → n < 2 ^ 31 → overflows (pos n) ≡ false
no_overflow n h = grind (arith, ints, nat_tests)

sum_plain : (operator : Operator) (v c : ℕ) → (operator ≡ operators.Add) ⊎ (operator ≡ operators.Plus) → v + c < 2 ^ 31
    → applied operator v c ≡ pure (v + c)
sum_plain operator v c (inl is) h =
    let low : (v + c) % 2 ^ 32 ≡ v + c = omega (arith, h) in
    let whole : signed v +ℤ signed c ≡ pos (v + c) = ap (λ z. z +ℤ signed c) (to_z_pos w32 v (omega (arith, h)))
    ∙ ap (λ z. pos v +ℤ z) (to_z_pos w32 c (omega (arith, h))) ∙ omega (arith, ints) in
    rw is (ap checked whole ∙ ap (answer ((v + c) % 2 ^ 32)) (no_overflow (v + c) h) ∙ ap pure low)
sum_plain operator v c (inr is) h =
    let low : (v + c) % 2 ^ 32 ≡ v + c = omega (arith, h) in
    let whole : pos v +ℤ pos c ≡ pos (v + c) = omega (arith, ints) in
    rw is (ap wrapped whole ∙ ap pure low)

-- what is known where an element has an offset from a variable
pub record OffsetFacts (k : Knowledge) (scope : List Entry) (unset : ℕ → Bool) (s : Store) (a : ℕ) (e : Expression) (x c : ℕ) : Type 0 where
  pub there : IsTrue (list_any (is_name x) scope)
  pub set : unset x ≡ false
  pub small : slice_index s.values x < 2 ^ 32
  pub below : slice_index s.values x + c < size kind.Word (array_of s a)
  pub value : value_of e s ≡ pure (slice_index s.values x + c)

pub offset_facts : (k : Knowledge) (storages : List Storage) (scope : List Entry) (unset : ℕ → Bool) (s : Store) (a : ℕ) (view : Kind) (e : Expression) (x c : ℕ)
    → IsOffset k a view e x c → slice_index k.arrays a ≤ 2048 → length (array_of s a) ≡ slice_index k.arrays a
    → MayStand k storages scope unset e → Knows k scope unset s → OffsetFacts k scope unset s a e x c
offset_facts k storages scope unset s a view e x c is most long stands knows =
    let stands : MayStand k storages scope unset (Binary' is.operator is.p is.left is.q is.right) = subst (MayStand k storages scope unset) is.is stands in
    let parts = stand_binary k storages scope unset is.operator is.p is.left is.q is.right stands in
    let left : MayStand k storages scope unset (Variable x) = subst (MayStand k storages scope unset) is.offset.variable parts.0 in
    let there = in_scope k storages scope unset x left in
    let set = set_name k storages scope unset x left in
    let fits = knows.names x there set in
    let v = slice_index s.values x in
    let below : v + c < elements_of view (slice_index k.arrays a) = is.offset.below most v fits.small fits.known in
    let within : v + c < size kind.Word (array_of s a) =
    subst (λ n. v + c < n) (ap (λ w. elements_of w (slice_index k.arrays a)) is.offset.words ∙ size_is kind.Word (array_of s a) _ long) below in
    let right : value_of is.right s ≡ pure c = constant_value k storages scope unset s is.right c parts.1 knows is.offset.constant in
    let small : v + c < 2 ^ 31 = omega (arith, within, long, most) in
    record {
      there = there;
      set = set;
      small = fits.small;
      below = within;
      value = ap (λ e. value_of e s) is.is
          ∙ ap (λ l. applied_value is.operator l is.right s) is.offset.variable
          ∙ ap (λ r. bind (pure v) (λ b. bind r (applied is.operator b))) right
          ∙ sum_plain is.operator v c is.which small;
    }

over_pushes : (registers kept : ℕ) (scope : List Entry) (made : Answer) (m end : Machine) → 2 ≤ registers → PushesOver 2 made m end
    → Pushes registers made m end × LeavesItems scope kept m end
over_pushes registers kept scope made m end two over = (
  record {
    areg = over.pushed.areg;
    breg = λ h. over.pushed.breg (omega arith);
    creg = λ h. absurd (omega (arith, two, h));
    error = over.pushed.error;
  },
  record {
    blocks = λ i at stays. ap (λ b. b i at) over.blocks;
    to_come = over.to_come;
    sent = over.sent;
    traced = over.traced;
  },
)

pub offset_computes : (k : Knowledge) (old new : Lines) (a : ℕ) (view : Kind) (p : Place) (e : Expression) (x c registers kept : ℕ)
    → IsOffset k a view e x c
    → ((arrays bytes : List ℕ) (v : ℕ) → v < 2 ^ 32 → length bytes ≡ slice_index arrays a → v + c < size kind.Word bytes → length bytes ≤ 2048
    → Does arrays old new (λ m. HasWord (item.Variable x) v m × HasArray a bytes m) (PushesOver 2 (pure (element kind.Word bytes (v + c)))))
    → Computes k old new (Element' a view p e) registers kept
offset_computes k old new a view p e x c registers kept is makes storages scope unset s place stands suffices knows =
    let parts = stand_element k storages scope unset a view p e stands in
    let there = seen_array storages scope a view parts.0 in
    let most = place.most a there in
    let bytes = array_of s a in
    let long = knows.lengths a there in
    let facts = offset_facts k storages scope unset s a view e x c is most long parts.1 knows in
    let v = slice_index s.values x in
    let two = two_registers k registers (Element' a view p e) refl suffices in
    let made : pure (element kind.Word bytes (v + c)) ≡ value_of (Element' a view p e) s =
    ap (λ t. answer (element kind.Word bytes t.word) t.flag) (sym (subscript_below (size kind.Word bytes) (v + c) facts.below))
    ∙ ap (λ t. answer (element kind.Word bytes (subscript (size kind.Word bytes) t.word).word) (t.flag || (subscript (size kind.Word bytes) t.word).flag)) (sym facts.value)
    ∙ ap (λ w. bind (value_of e s) (element_at w bytes)) (sym is.offset.words) in
    does_less k.arrays old new _ _ _ _ (makes k.arrays bytes v facts.small long facts.below (subst (λ n. n ≤ 2048) (sym long) most))
    (λ m agrees. (agrees.words x facts.there facts.set is.offset.word, agrees.arrays a there))
    (λ m end said after. subst (λ t. Pushes registers t m end × LeavesItems scope kept m end) made (over_pushes registers kept scope _ m end two after))

pub offset_known : (k : Knowledge) (a : ℕ) (view : Kind) (p : Place) (e : Expression) (x c : ℕ) (value : Value) → IsOffset k a view e x c
    → ((bytes : List ℕ) (i : ℕ) → ((at : ℕ) → slice_index bytes at < 256) → Holds value (element kind.Word bytes i))
    → IsKnown k (Element' a view p e) value
offset_known k a view p e x c value is holds storages scope unset s place stands knows =
    subst (λ w. Holds value (bind (value_of e s) (element_at w (array_of s a))).word) (sym is.offset.words) (holds (array_of s a) _ (knows.bytes a))
