-- Names that take values.
use Rattle.std.proofs.Common.{◌≡◌, ◌⊎◌, inl, inr, ◌^◌, ◌<◌, [], ◌∷◌, ◌++◌, ℕ, zero, suc, List, length, Option, Some, None, Bool, false, true, nat_eq, set, refl, ap, sym, subst, ◌∙◌, arith}
use Rattle.std.specs.Prelude.{slice_index, slice_set, slice_index_or, ◌||◌, ◌&&◌, not, nat_lt, IsTrue}
use Rattle.std.specs.List.{list_any}
use Rattle.std.proofs.Math.Bool.{or_assoc, or-false}
use Rattle.std.proofs.lemmas.Bool.{ltb-true, eqb-true, le-leb}
use Rattle.std.proofs.lemmas.Bool.Decides.{nat_tests}
use Rattle.std.proofs.lemmas.Int.{ints}
use Rattle.std.proofs.lemmas.Option.{same_Some}
use Rattle.tpw_occam_core.specs.declared.arithmetic.Answer.{Answer}
use Rattle.tpw_occam_core.specs.declared.worker.Storage.{Storage}
use Rattle.tpw_occam_core.specs.declared.scope.Entry.{Entry}
use Rattle.tpw_occam_core.specs.declared.scope.Entry.TheVariants as entry
use Rattle.tpw_occam_core.specs.declared.expression.Expression.{Expression}
use Rattle.tpw_occam_core.specs.declared.expression.Expression.TheVariants.{Let'}
use Rattle.tpw_occam_core.specs.Arithmetic.{pure}
use Rattle.tpw_occam_core.specs.Meaning.{Store, value_of, with_value}
use Rattle.tpw_occam_core.specs.Sound.{is_name, is_array, is_new_name, is_sound_expression}
use Rattle.tpw_occam_symbolic.specs.declared.items.Item.{Item}
use Rattle.tpw_occam_symbolic.specs.declared.items.Item.TheVariants as item
use Rattle.tpw_occam_symbolic.specs.declared.code.Step.TheVariants.{Store as StoreTo}
use Rattle.tpw_occam_expressions.specs.declared.emitter.Fact.{Fact}
use Rattle.tpw_occam_expressions.specs.declared.expressions.Value.{Value}
use Rattle.tpw_occam_symbolic.specs.Code.{Lines, followed_by, line_of}
use Rattle.tpw_occam_symbolic.specs.Blocks.{is_item, bytes_at, with_word}
use Rattle.tpw_occam_symbolic.specs.Symbolic.{Machine, performed, pop, with_blocks}
use Rattle.tpw_occam_symbolic.specs.Leading.{Does, HasWord}
use Rattle.tpw_occam_expressions.specs.Values.{Holds, HasNumber, Pushes}
use Rattle.tpw_occam_expressions.specs.Agreement.{Knowledge, any_word, fact_at, with_fact, constant_in, constant_fact, valued_fact, FitsFact, Knows, Agrees, LeavesItems, Stays}
use Rattle.tpw_occam_expressions.specs.Computing.{IsPlace, MayStand, reads, Computes, IsKnown, Binds, ComputesBinding}
use Rattle.tpw_occam_expressions.proofs.Ranges.{full_contains}
use Rattle.tpw_occam_symbolic.proofs.Leading.{does_both, does_less, does_step, does_nothing}
use Rattle.tpw_occam_expressions.proofs.Keeping.{word_written, word_elsewhere}
use Rattle.tpw_occam_expressions.proofs.Computing.{agrees_after, leaves_then}
use Rattle.tpw_occam_expressions.proofs.Constructs.{constant_value}
use Rattle.tpw_occam_expressions.proofs.Standing.{Place, or_first, or_second, two_registers, suffices_two}
use Rattle.tpw_occam_symbolic.proofs.Sizes.{and_first, and_second}

false_true : ◌≡◌ {A = Bool} false true → ⊥
false_true e = cc

some_none : {c : ℕ} → ◌≡◌ {A = Option ℕ} (Some c) None → ⊥
some_none e = cc

none_some : {c : ℕ} → ◌≡◌ {A = Option ℕ} None (Some c) → ⊥
none_some e = cc

-- ---- scopes

pub any_last : {A : Type 0} (P : A → Bool) (xs : List A) (x : A) → list_any P (xs ++ x ∷ []) ≡ (list_any P xs || P x)
any_last P [] x = or-false (P x)
any_last P (y ∷ xs) x = ap (λ b. P y || b) (any_last P xs x) ∙ sym (or_assoc (P y) (list_any P xs) (P x))

-- what is in a scope with one name more
name_in : (scope : List Entry) (x y : ℕ) → IsTrue (list_any (is_name y) (scope ++ entry.Value x ∷ [])) → IsTrue (list_any (is_name y) scope) ⊎ (x ≡ y)
name_in scope x y h = by_parts (list_any (is_name y) scope) refl
  where
    by_parts : (b : Bool) → list_any (is_name y) scope ≡ b → IsTrue (list_any (is_name y) scope) ⊎ (x ≡ y)
    by_parts true e = inl e
    by_parts false e = inr (eqb-true x y (sym (ap (λ b. b || nat_eq x y) e) ∙ sym (any_last (is_name y) scope (entry.Value x)) ∙ h))

array_in : (scope : List Entry) (x a : ℕ) → IsTrue (list_any (is_array a) (scope ++ entry.Value x ∷ [])) → IsTrue (list_any (is_array a) scope)
array_in scope x a h = sym (or-false _) ∙ sym (any_last (is_array a) scope (entry.Value x)) ∙ h

pub name_stays : (scope : List Entry) (x y : ℕ) → IsTrue (list_any (is_name y) scope) → IsTrue (list_any (is_name y) (scope ++ entry.Value x ∷ []))
name_stays scope x y h = any_last (is_name y) scope (entry.Value x) ∙ ap (λ b. b || nat_eq x y) h

-- a new name is not in scope
pub new_name : (count : ℕ) (scope : List Entry) (x y : ℕ) → IsTrue (is_new_name count scope x) → IsTrue (list_any (is_name y) scope) → nat_eq x y ≡ false
new_name count scope x y new there = by_test (nat_eq x y) refl
  where
    not_in : (b : Bool) → not b ≡ true → b ≡ true → ⊥
    not_in true e f = false_true e
    not_in false e f = false_true f

    by_test : (b : Bool) → nat_eq x y ≡ b → nat_eq x y ≡ false
    by_test false e = e
    by_test true e = absurd (not_in (list_any (is_name x) scope) (and_second (nat_lt x count) _ new)
        (subst (λ z. list_any (is_name z) scope ≡ true) (sym (eqb-true x y e)) there))

-- ---- facts and values of names

pub slice_same : {A : Type 0} (xs : List A) (x : ℕ) (a d : A) → x < length xs → slice_index_or (slice_set xs x a) x d ≡ a
slice_same [] x a d h = absurd (omega (arith, h))
slice_same (y ∷ xs) zero a d h = refl
slice_same (y ∷ xs) (suc x) a d h = slice_same xs x a d (omega (arith, h))

pub slice_other : {A : Type 0} (xs : List A) (x y : ℕ) (a d : A) → nat_eq x y ≡ false → slice_index_or (slice_set xs x a) y d ≡ slice_index_or xs y d
slice_other [] x y a d h = refl
slice_other (z ∷ xs) zero zero a d h = cc
slice_other (z ∷ xs) zero (suc y) a d h = refl
slice_other (z ∷ xs) (suc x) zero a d h = refl
slice_other (z ∷ xs) (suc x) (suc y) a d h = slice_other xs x y a d (same_next x y h)
  where
    same_next : (x y : ℕ) → nat_eq (suc x) (suc y) ≡ false → nat_eq x y ≡ false
    same_next x y h = grind (arith, nat_tests)

pub slice_length : {A : Type 0} (xs : List A) (x : ℕ) (a : A) → length (slice_set xs x a) ≡ length xs
slice_length [] x a = refl
slice_length (y ∷ xs) zero a = refl
slice_length (y ∷ xs) (suc x) a = ap suc (slice_length xs x a)

-- ---- a name that takes a value

-- what is known with one name more
pub knows_name : (k : Knowledge) (scope : List Entry) (unset : ℕ → Bool) (s : Store) (x v : ℕ) (fact : Fact)
    → Knows k scope unset s → IsTrue (is_new_name (length k.kinds) scope x) → length k.facts ≡ length k.kinds → FitsFact fact v
    → Knows (with_fact x fact k) (scope ++ entry.Value x ∷ []) unset (with_value x v s)
knows_name k scope unset s x v fact knows new facts fits =
    let within : x < length k.kinds = ltb-true x _ (and_first _ _ new) in
    record {
      names = λ y there set. by_name y set (name_in scope x y there) within;
      lengths = λ a there. knows.lengths a (array_in scope x a there);
      count = slice_length s.values x v ∙ knows.count;
      bytes = knows.bytes;
    }
  where
    by_name : (y : ℕ) → unset y ≡ false → IsTrue (list_any (is_name y) scope) ⊎ (x ≡ y) → x < length k.kinds
        → FitsFact (fact_at (with_fact x fact k) y) (slice_index (slice_set s.values x v) y)
    by_name y set (inl there) within =
        let differs = new_name (length k.kinds) scope x y new there in
        rw (slice_other k.facts x y fact any_word differs) (rw (slice_other s.values x y v 0 differs) (knows.names y there set))
    by_name y set (inr same) within =
        rw (sym same) (rw (slice_same k.facts x fact any_word (omega (arith, facts, within)))
        (rw (slice_same s.values x v 0 (omega (arith, knows.count, within))) fits))

-- a machine that agrees, and the word of the new name, if it has one
pub agrees_name : (k : Knowledge) (scope : List Entry) (unset : ℕ → Bool) (kept : ℕ) (s : Store) (x v : ℕ) (fact : Fact) (m end : Machine)
    → Agrees k scope unset s m → LeavesItems scope kept m end → IsTrue (is_new_name (length k.kinds) scope x)
    → length k.facts ≡ length k.kinds → length s.values ≡ length k.kinds
    → (fact.constant ≡ None → HasWord (item.Variable x) v end)
    → Agrees (with_fact x fact k) (scope ++ entry.Value x ∷ []) unset (with_value x v s) end
agrees_name k scope unset kept s x v fact m end agrees leaves new facts count word =
    let after = agrees_after k scope unset kept s m end agrees leaves in
    let within : x < length k.kinds = ltb-true x _ (and_first _ _ new) in
    record {
      words = λ y there set none. by_name y set (name_in scope x y there) within none;
      arrays = λ a there. after.arrays a (array_in scope x a there);
      constants = after.constants;
    }
  where
    by_name : (y : ℕ) → unset y ≡ false → IsTrue (list_any (is_name y) scope) ⊎ (x ≡ y) → x < length k.kinds
        → (fact_at (with_fact x fact k) y).constant ≡ None → HasWord (item.Variable y) (slice_index (slice_set s.values x v) y) end
    by_name y set (inl there) within none =
        let differs = new_name (length k.kinds) scope x y new there in
        let after = agrees_after k scope unset kept s m end agrees leaves in
        rw (slice_other s.values x y v 0 differs)
        (after.words y there set (ap (λ (f : Fact). f.constant) (sym (slice_other k.facts x y fact any_word differs)) ∙ none))
    by_name y set (inr same) within none =
        let is = slice_same k.facts x fact any_word (omega (arith, facts, within)) in
        let none : (fact_at (with_fact x fact k) x).constant ≡ None = subst (λ z. (fact_at (with_fact x fact k) z).constant ≡ None) (sym same) none in
        rw (sym same) (rw (slice_same s.values x v 0 (omega (arith, count, within)))
        (word (ap (λ (f : Fact). f.constant) (sym is) ∙ none)))

-- ---- a constant

pub constant_fits : (c : ℕ) → c < 2 ^ 32 → FitsFact (constant_fact c) c
constant_fits c h = record {
  small = h;
  source = record { low = omega (arith, ints); high = omega (arith, ints) };
  known = record { low = omega (arith, ints); high = omega (arith, ints) };
  constant = λ d is. same_Some _ _ is;
}

pub constant_binds : (k : Knowledge) (x c : ℕ) (e : Expression) → constant_in k e ≡ Some c → c < 2 ^ 32
    → Binds k (with_fact x (constant_fact c) k) x e
constant_binds k x c e is small storages scope unset s place stands knows new =
    let value : value_of e s ≡ pure c = constant_value k storages scope unset s e c stands knows is in
    knows_name k scope unset s x (value_of e s).word (constant_fact c) knows new place.facts
    (subst (λ (v : Answer). FitsFact (constant_fact c) v.word) (sym value) (constant_fits c small))

pub constant_binding : (k : Knowledge) (code : Lines) (x c : ℕ) (e : Expression) (registers kept : ℕ) → constant_in k e ≡ Some c
    → ComputesBinding k (with_fact x (constant_fact c) k) code code x e registers kept
constant_binding k code x c e registers kept is storages scope unset s place stands suffices knows new =
    let value : value_of e s ≡ pure c = constant_value k storages scope unset s e c stands knows is in
    does_less k.arrays code code _ _ _ _ (does_nothing k.arrays code) (λ m said. tt)
    (λ m end agrees is.
    let leaves : LeavesItems scope kept m end = record { blocks = λ i at stays. ap (λ z. z.blocks i at) is; to_come = ap (λ z. z.to_come) is; sent = ap (λ z. z.sent) is; traced = ap (λ z. z.traced) is } in (
      record {
        areg = λ h. ap (λ z. z.areg) is;
        breg = λ h. ap (λ z. z.breg) is;
        error = ap (λ z. z.error) is ∙ sym (or-false m.error) ∙ ap (λ (v : Answer). m.error || v.flag) (sym value);
        leaves = leaves;
      },
      agrees_name k scope unset kept s x (value_of e s).word (constant_fact c) m end agrees leaves new place.facts knows.count
          (λ none. absurd (some_none none)),
    ))

-- ---- a word

value_fits : (value : Value) (word : ℕ) → Holds value word → FitsFact (valued_fact value.source) word
value_fits value word holds = record {
  small = holds.small;
  source = holds.source;
  known = full_contains word holds.small;
  constant = λ d is. absurd (none_some is);
}

pub value_binds : (k : Knowledge) (x : ℕ) (e : Expression) (value : Value) → IsKnown k e value
    → Binds k (with_fact x (valued_fact value.source) k) x e
value_binds k x e value known storages scope unset s place stands knows new =
    knows_name k scope unset s x (value_of e s).word (valued_fact value.source) knows new place.facts
    (value_fits value (value_of e s).word (known storages scope unset s place stands knows))

pub variable_differs : (count : ℕ) (scope : List Entry) (kept x : ℕ) → IsTrue (is_new_name count scope x) → (i : Item) → Stays scope kept i
    → is_item (item.Variable x) i ≡ false
variable_differs count scope kept x new (item.Variable y) stays = new_name count scope x y new stays
variable_differs count scope kept x new (item.Temporary t) stays = refl
variable_differs count scope kept x new (item.Constant c) stays = refl
variable_differs count scope kept x new (item.Array a) stays = refl
variable_differs count scope kept x new item.Zeros stays = refl

pub value_binding : (k : Knowledge) (old between new_code : Lines) (source x : ℕ) (e : Expression) (value : Value) (registers kept : ℕ)
    → Computes k old between e registers kept → new_code ≡ followed_by between (line_of source (StoreTo (item.Variable x) 0) ∷ [])
    → ComputesBinding k (with_fact x (valued_fact value.source) k) old new_code x e registers kept
unfolding performed
value_binding k old between new_code source x e value registers kept computes is storages scope unset s place stands suffices knows new =
    let v = value_of e s in
    does_both k.arrays old between new_code _ _ _ _ _ (computes storages scope unset s place stands suffices knows)
    (does_step k.arrays between new_code source (StoreTo (item.Variable x) 0) (HasNumber v.word)
    (λ m. pop (with_blocks (with_word (item.Variable x) 0 v.word m.blocks) m)) is
    (λ m areg served. rw areg (rw (le-leb 4 _ served) refl)) (λ m. refl) (λ m. refl) (λ m. refl))
    (λ m middle agrees after. after.0.areg)
    (λ m middle end agrees after at.
    let leaves : LeavesItems scope kept m end = record {
      blocks = λ i place stays. ap (λ z. z.blocks i place) at
          ∙ word_elsewhere (item.Variable x) i place v.word middle.blocks (variable_differs (length k.kinds) scope kept x new i stays)
          ∙ after.1.blocks i place stays;
      to_come = ap (λ z. z.to_come) at ∙ after.1.to_come;
      sent = ap (λ z. z.sent) at ∙ after.1.sent;
      traced = ap (λ z. z.traced) at ∙ after.1.traced;
    } in (
      record {
        areg = λ h. ap (λ z. z.areg) at ∙ after.0.breg h;
        breg = λ h. ap (λ z. z.breg) at ∙ after.0.creg h;
        error = ap (λ z. z.error) at ∙ after.0.error;
        leaves = leaves;
      },
      agrees_name k scope unset kept s x v.word (valued_fact value.source) m end agrees leaves new place.facts knows.count
          (λ none. ap (λ z. bytes_at z.blocks (item.Variable x) 0 4) at ∙ word_written (item.Variable x) v.word middle.blocks),
    ))

-- ---- an expression within which a name has a value

stand_value : (k : Knowledge) (storages : List Storage) (scope : List Entry) (unset : ℕ → Bool) (x : ℕ) (p : Place) (e : Expression) (q : Place) (f : Expression)
    → MayStand k storages scope unset (Let' x p e q f) → MayStand k storages scope unset e
stand_value k storages scope unset x p e q f stands =
    record { sound = and_first _ _ (and_first _ _ stands.sound); assigned = λ y h. or_first _ _ (stands.assigned y h) }

stand_new : (k : Knowledge) (storages : List Storage) (scope : List Entry) (unset : ℕ → Bool) (x : ℕ) (p : Place) (e : Expression) (q : Place) (f : Expression)
    → MayStand k storages scope unset (Let' x p e q f) → IsTrue (is_new_name (length k.kinds) scope x)
stand_new k storages scope unset x p e q f stands = and_second (is_sound_expression (length k.kinds) storages scope e) _ (and_first _ _ stands.sound)

stand_within : (k after : Knowledge) (storages : List Storage) (scope : List Entry) (unset : ℕ → Bool) (x : ℕ) (p : Place) (e : Expression) (q : Place) (f : Expression)
    → after.kinds ≡ k.kinds → MayStand k storages scope unset (Let' x p e q f) → MayStand after storages (scope ++ entry.Value x ∷ []) unset f
stand_within k after storages scope unset x p e q f same stands = record {
  sound = rw same (and_second (is_sound_expression (length k.kinds) storages scope e && is_new_name (length k.kinds) scope x) _ stands.sound);
  assigned = λ y h. or_second (reads e y) _ (stands.assigned y h);
}

place_within : (k after : Knowledge) (storages : List Storage) (scope : List Entry) (x : ℕ) (fact : Fact) → after ≡ with_fact x fact k
    → IsPlace k storages scope → IsPlace after storages (scope ++ entry.Value x ∷ [])
place_within k after storages scope x fact is place = rw is (record {
  arrays = place.arrays;
  least = λ a there. place.least a (array_in scope x a there);
  most = λ a there. place.most a (array_in scope x a there);
  facts = slice_length k.facts x fact ∙ place.facts;
})

leaves_within : (scope : List Entry) (x kept : ℕ) (m end : Machine) → LeavesItems (scope ++ entry.Value x ∷ []) kept m end → LeavesItems scope kept m end
leaves_within scope x kept m end leaves = record {
  blocks = λ i at stays. leaves.blocks i at (wider i stays);
  to_come = leaves.to_come;
  sent = leaves.sent;
  traced = leaves.traced;
}
  where
    wider : (i : Item) → Stays scope kept i → Stays (scope ++ entry.Value x ∷ []) kept i
    wider (item.Variable y) stays = name_stays scope x y stays
    wider (item.Temporary t) stays = stays
    wider (item.Constant c) stays = stays
    wider (item.Array a) stays = stays
    wider item.Zeros stays = stays

pub let_computes : (k after : Knowledge) (old between new_code : Lines) (x : ℕ) (p : Place) (e : Expression) (q : Place) (f : Expression) (fact : Fact) (registers kept : ℕ)
    → after ≡ with_fact x fact k → Binds k after x e → ComputesBinding k after old between x e registers kept
    → Computes after between new_code f registers kept
    → Computes k old new_code (Let' x p e q f) registers kept
let_computes k after old between new_code x p e q f fact registers kept is binds binding within storages scope unset s place stands suffices knows =
    let new = stand_new k storages scope unset x p e q f stands in
    let two = two_registers k registers (Let' x p e q f) refl suffices in
    let outer = stand_value k storages scope unset x p e q f stands in
    let v = value_of e s in
    let inner = with_value x v.word s in
    let same_arrays : after.arrays ≡ k.arrays = ap (λ (a : Knowledge). a.arrays) is in
    let second = within storages (scope ++ entry.Value x ∷ []) unset inner
    (place_within k after storages scope x fact is place)
    (stand_within k after storages scope unset x p e q f (ap (λ (a : Knowledge). a.kinds) is) stands)
    (suffices_two after registers f two suffices.most) (binds storages scope unset s place outer knows new) in
    does_both k.arrays old between new_code _ _ _ _ _
    (binding storages scope unset s place outer (suffices_two k registers e two suffices.most) knows new)
    (subst (λ arrays. Does arrays between new_code (Agrees after (scope ++ entry.Value x ∷ []) unset inner)
    (λ m end. Pushes registers (value_of f inner) m end × LeavesItems (scope ++ entry.Value x ∷ []) kept m end)) same_arrays second)
    (λ m middle agrees bound. bound.1)
    (λ m middle end agrees bound pushed. (
      record {
        areg = pushed.0.areg;
        breg = λ h. pushed.0.breg h ∙ bound.0.areg h;
        creg = λ h. pushed.0.creg h ∙ bound.0.breg h;
        error = pushed.0.error ∙ ap (λ z. z || (value_of f inner).flag) bound.0.error ∙ or_assoc m.error v.flag (value_of f inner).flag;
      },
      leaves_then scope kept m middle end bound.0.leaves (leaves_within scope x kept middle end pushed.1),
    ))

pub let_known : (k after : Knowledge) (x : ℕ) (p : Place) (e : Expression) (q : Place) (f : Expression) (fact : Fact) (value : Value)
    → after ≡ with_fact x fact k → Binds k after x e → IsKnown after f value → IsKnown k (Let' x p e q f) value
let_known k after x p e q f fact value is binds known storages scope unset s place stands knows =
    let new = stand_new k storages scope unset x p e q f stands in
    let outer = stand_value k storages scope unset x p e q f stands in
    known storages (scope ++ entry.Value x ∷ []) unset (with_value x (value_of e s).word s)
    (place_within k after storages scope x fact is place)
    (stand_within k after storages scope unset x p e q f (ap (λ (a : Knowledge). a.kinds) is) stands) (binds storages scope unset s place outer knows new)

-- what was known of a name is known again
pub restored : (k after : Knowledge) (x : ℕ) (fact : Fact) → after ≡ with_fact x fact k → with_fact x (fact_at k x) after ≡ k
restored k after x fact is = ap (with_fact x (fact_at k x)) is ∙ ap (λ facts. record k { facts = facts }) (set_again k.facts x fact)
  where
    set_again : (facts : List Fact) (x : ℕ) (fact : Fact) → slice_set (slice_set facts x fact) x (slice_index_or facts x any_word) ≡ facts
    set_again [] x fact = refl
    set_again (f ∷ facts) zero fact = refl
    set_again (f ∷ facts) (suc x) fact = ap (λ fs. f ∷ fs) (set_again facts x fact)
