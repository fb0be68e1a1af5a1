-- What stays known of states, and of machines that match them, where a name or an array is declared.
use Rattle.std.proofs.Common.{◌≡◌, ◌⊎◌, inl, inr, ◌+◌, ◌≤◌, ◌<◌, [], ◌∷◌, ◌++◌, ℕ, zero, suc, List, length, map, Option, Some, None, Bool, false, true, nat_eq, refl, ap, sym, subst, ◌∙◌, arith}
use Rattle.std.specs.Prelude.{slice_index, slice_set, slice_index_or, slice_get, ◌||◌, ◌&&◌, not, nat_lt, nat_le, IsTrue, replicate}
use Rattle.std.specs.List.{list_any, list_all}
use Rattle.std.proofs.Math.Bool.{or-false}
use Rattle.std.proofs.lemmas.Bool.{ltb-true, leb-true, eqb-true, eq-eqb}
use Rattle.tpw_occam_core.specs.declared.kind.Kind.{Kind}
use Rattle.tpw_occam_core.specs.declared.kind.Kind.TheVariants as kinds
use Rattle.tpw_occam_core.specs.declared.worker.Storage.{Storage}
use Rattle.tpw_occam_core.specs.declared.scope.Entry.{Entry}
use Rattle.tpw_occam_core.specs.declared.scope.Entry.TheVariants as entry
use Rattle.tpw_occam_core.specs.Meaning.{Store, with_value, with_array, array_of, kind_of, flagged}
use Rattle.tpw_occam_core.specs.Sound.{is_name, is_variable, is_array, is_new_name, is_new_array, is_sized, is_table, bytes_of, storage_of}
use Rattle.tpw_occam_expressions.specs.declared.emitter.Fact.{Fact}
use Rattle.tpw_occam_symbolic.specs.declared.items.Item.TheVariants as item
use Rattle.tpw_occam_symbolic.specs.declared.code.Step.TheVariants.{Pointer}
use Rattle.tpw_occam_symbolic.specs.declared.code.CodeLine.{CodeLine}
use Rattle.tpw_occam_symbolic.specs.Symbolic.{Machine}
use Rattle.tpw_occam_symbolic.specs.Leading.{HasWord}
use Rattle.tpw_occam_expressions.specs.Agreement.{Knowledge, any_word, fact_at, with_fact, fact_of_kind, FitsFact, Knows, LeavesItems}
use Rattle.tpw_occam_code.specs.Executing.{IsProcessPlace, none_unset, KnowsState, Matches, LeavesCounts, cleared}
use Rattle.tpw_occam_symbolic.specs.Leading.{cleared_bytes}
use Rattle.tpw_occam_expressions.proofs.Ranges.{full_contains, byte_contains}
use Rattle.tpw_occam_expressions.proofs.Naming.{any_last, new_name, slice_same, slice_other, slice_length}
use Rattle.tpw_occam_symbolic.proofs.Sizes.{and_first, and_second}

false_true : ◌≡◌ {A = Bool} false true → ⊥
false_true e = cc

none_some : {c : ℕ} → ◌≡◌ {A = Option ℕ} None (Some c) → ⊥
none_some e = cc

-- ---- states in which fewer names are assigned

pub knows_fewer : (k : Knowledge) (scope : List Entry) (unset : ℕ → Bool) (s : Store) → Knows k scope none_unset s → Knows k scope unset s
knows_fewer k scope unset s knows = record {
  names = λ x there set. knows.names x there refl;
  lengths = knows.lengths;
  count = knows.count;
  bytes = knows.bytes;
}

pub knows_flagged : (k : Knowledge) (scope : List Entry) (flag : Bool) (s : Store) → KnowsState k scope s → KnowsState k scope (flagged flag s)
knows_flagged k scope flag s known = record {
  knows = record { names = known.knows.names; lengths = known.knows.lengths; count = known.knows.count; bytes = known.knows.bytes };
  sizes = known.sizes;
}

-- ---- an entry that declares a name

pub record Declares (e : Entry) (x : ℕ) : Type 0 where
  pub names : (y : ℕ) → is_name y e ≡ nat_eq x y
  pub arrays : (a : ℕ) → is_array a e ≡ false

pub value_declares : (x : ℕ) → Declares (entry.Value x) x
value_declares x = record { names = λ y. refl; arrays = λ a. refl }

pub variable_declares : (x : ℕ) → Declares (entry.Variable x) x
variable_declares x = record { names = λ y. refl; arrays = λ a. refl }

-- what is in a longer scope
pub either_in : {A : Type 0} (P : A → Bool) (scope : List A) (e : A) → IsTrue (list_any P (scope ++ e ∷ [])) → IsTrue (list_any P scope) ⊎ (P e ≡ true)
either_in P scope e h = by_parts (list_any P scope) refl
  where
    by_parts : (b : Bool) → list_any P scope ≡ b → IsTrue (list_any P scope) ⊎ (P e ≡ true)
    by_parts true is = inl is
    by_parts false is = inr (sym (ap (λ b. b || P e) is) ∙ sym (any_last P scope e) ∙ h)

pub in_longer : {A : Type 0} (P : A → Bool) (scope : List A) (e : A) → IsTrue (list_any P scope) → IsTrue (list_any P (scope ++ e ∷ []))
in_longer P scope e h = any_last P scope e ∙ ap (λ b. b || P e) h

pub last_in : {A : Type 0} (P : A → Bool) (scope : List A) (e : A) → P e ≡ true → IsTrue (list_any P (scope ++ e ∷ []))
last_in P scope e h = any_last P scope e ∙ ap (λ b. list_any P scope || b) h ∙ or_true (list_any P scope)
  where
    or_true : (b : Bool) → (b || true) ≡ true
    or_true true = refl
    or_true false = refl

pub same_any : {A : Type 0} (P : A → Bool) (scope : List A) (e : A) → P e ≡ false → list_any P (scope ++ e ∷ []) ≡ list_any P scope
same_any P scope e none = any_last P scope e ∙ ap (λ b. list_any P scope || b) none ∙ or-false _

-- a variable is a name
or_more : (b c d : Bool) → (c ≡ true → d ≡ true) → (b || c) ≡ true → (b || d) ≡ true
or_more true c d more h = refl
or_more false c d more h = more h

or_last : (b c : Bool) → c ≡ true → (b || c) ≡ true
or_last true c h = refl
or_last false c h = h

pub variable_named : (scope : List Entry) (x : ℕ) → IsTrue (list_any (is_variable x) scope) → IsTrue (list_any (is_name x) scope)
variable_named [] x h = h
variable_named (entry.Variable y ∷ scope) x h = or_more (nat_eq y x) _ _ (variable_named scope x) h
variable_named (entry.Value y ∷ scope) x h = or_last (nat_eq y x) _ (variable_named scope x h)
variable_named (entry.Array a ∷ scope) x h = variable_named scope x h

pub declared_last : (scope : List Entry) (e : Entry) (x : ℕ) → Declares e x → IsTrue (list_any (is_name x) (scope ++ e ∷ []))
declared_last scope e x declares = last_in (is_name x) scope e (declares.names x ∙ eq-eqb x x refl)

-- A name that is new is declared, and this becomes known of it.
pub record Takes (k : Knowledge) (scope : List Entry) (e : Entry) (x : ℕ) (fact : Fact) : Type 0 where
  pub declares : Declares e x
  pub new : IsTrue (is_new_name (length k.kinds) scope x)
  pub variable : (y : ℕ) → is_variable y e ≡ true → (x ≡ y) × (fact ≡ fact_of_kind (kind_of k.kinds x))

pub value_takes : (k : Knowledge) (scope : List Entry) (x : ℕ) (fact : Fact) → IsTrue (is_new_name (length k.kinds) scope x)
    → Takes k scope (entry.Value x) x fact
value_takes k scope x fact new = record { declares = value_declares x; new = new; variable = λ y h. absurd (false_true h) }

pub variable_takes : (k : Knowledge) (scope : List Entry) (x : ℕ) → IsTrue (is_new_name (length k.kinds) scope x)
    → Takes k scope (entry.Variable x) x (fact_of_kind (kind_of k.kinds x))
variable_takes k scope x new = record { declares = variable_declares x; new = new; variable = λ y h. (eqb-true x y h, refl) }

-- a name in scope is another than the new one
pub fact_stays : (k : Knowledge) (scope : List Entry) (e : Entry) (x : ℕ) (fact : Fact) (y : ℕ) → Takes k scope e x fact
    → IsTrue (list_any (is_name y) scope) → fact_at (with_fact x fact k) y ≡ fact_at k y
fact_stays k scope e x fact y takes there = slice_other k.facts x y fact any_word (new_name (length k.kinds) scope x y takes.new there)

pub fact_new : (k : Knowledge) (scope : List Entry) (e : Entry) (x : ℕ) (fact : Fact) → Takes k scope e x fact
    → length k.facts ≡ length k.kinds → fact_at (with_fact x fact k) x ≡ fact
fact_new k scope e x fact takes facts =
    let within : x < length k.kinds = ltb-true x _ (and_first _ _ takes.new) in
    slice_same k.facts x fact any_word (omega (arith, facts, within))

pub name_either : (scope : List Entry) (e : Entry) (x y : ℕ) → Declares e x → IsTrue (list_any (is_name y) (scope ++ e ∷ []))
    → IsTrue (list_any (is_name y) scope) ⊎ (x ≡ y)
name_either scope e x y declares h = elim (either_in (is_name y) scope e h) [
  | inl there ↦ inl there
  | inr last ↦ inr (eqb-true x y (sym (declares.names y) ∙ last))
]

array_same : (scope : List Entry) (e : Entry) (x a : ℕ) → Declares e x → list_any (is_array a) (scope ++ e ∷ []) ≡ list_any (is_array a) scope
array_same scope e x a declares = same_any (is_array a) scope e (declares.arrays a)

pub place_taken : (k : Knowledge) (storages : List Storage) (scope : List Entry) (e : Entry) (x : ℕ) (fact : Fact) → Takes k scope e x fact
    → IsProcessPlace k storages scope → IsProcessPlace (with_fact x fact k) storages (scope ++ e ∷ [])
place_taken k storages scope e x fact takes place = record {
  place = record {
    arrays = place.place.arrays;
    least = λ a there. place.place.least a (sym (array_same scope e x a takes.declares) ∙ there);
    most = λ a there. place.place.most a (sym (array_same scope e x a takes.declares) ∙ there);
    facts = slice_length k.facts x fact ∙ place.place.facts;
  };
  declared = λ y there. is_there y (either_in (is_variable y) scope e there);
  variables = λ y there. by_entry y (either_in (is_variable y) scope e there);
  sized = place.sized;
}
  where
    is_there : (y : ℕ) → IsTrue (list_any (is_variable y) scope) ⊎ (is_variable y e ≡ true) → y < length k.kinds
    is_there y (inl there) = place.declared y there
    is_there y (inr last) = subst (λ z. z < length k.kinds) (takes.variable y last).0 (ltb-true x _ (and_first _ _ takes.new))

    by_entry : (y : ℕ) → IsTrue (list_any (is_variable y) scope) ⊎ (is_variable y e ≡ true)
        → fact_at (with_fact x fact k) y ≡ fact_of_kind (kind_of k.kinds y)
    by_entry y (inl there) = fact_stays k scope e x fact y takes (variable_named scope y there) ∙ place.variables y there
    by_entry y (inr last) =
        let is = takes.variable y last in
        subst (λ z. fact_at (with_fact x fact k) z ≡ fact_of_kind (kind_of k.kinds z)) is.0
        (fact_new k scope e x fact takes place.place.facts ∙ is.1)

pub knows_taken : (k : Knowledge) (scope : List Entry) (e : Entry) (x v : ℕ) (fact : Fact) (s : Store) → Takes k scope e x fact
    → length k.facts ≡ length k.kinds → FitsFact fact v → KnowsState k scope s
    → KnowsState (with_fact x fact k) (scope ++ e ∷ []) (with_value x v s)
knows_taken k scope e x v fact s takes facts fits known = record {
  knows = record {
    names = λ y there set. by_name y (name_either scope e x y takes.declares there);
    lengths = λ a there. known.knows.lengths a (sym (array_same scope e x a takes.declares) ∙ there);
    count = slice_length s.values x v ∙ known.knows.count;
    bytes = known.knows.bytes;
  };
  sizes = known.sizes;
}
  where
    within : x < length k.kinds
    within = ltb-true x _ (and_first _ _ takes.new)

    by_name : (y : ℕ) → IsTrue (list_any (is_name y) scope) ⊎ (x ≡ y)
        → FitsFact (fact_at (with_fact x fact k) y) (slice_index (slice_set s.values x v) y)
    by_name y (inl there) =
        let differs = new_name (length k.kinds) scope x y takes.new there in
        rw (fact_stays k scope e x fact y takes there) (rw (slice_other s.values x y v 0 differs) (known.knows.names y there refl))
    by_name y (inr same) =
        rw (sym same) (rw (fact_new k scope e x fact takes facts)
        (rw (slice_same s.values x v 0 (omega (arith, known.knows.count, within))) fits))

-- what is known within is known outside
pub knows_outside : (k : Knowledge) (scope : List Entry) (e : Entry) (x : ℕ) (fact : Fact) (s : Store) → Takes k scope e x fact
    → KnowsState (with_fact x fact k) (scope ++ e ∷ []) s → KnowsState k scope s
knows_outside k scope e x fact s takes known = record {
  knows = record {
    names = λ y there set. subst (λ f. FitsFact f (slice_index s.values y)) (fact_stays k scope e x fact y takes there)
        (known.knows.names y (in_longer (is_name y) scope e there) refl);
    lengths = λ a there. known.knows.lengths a (in_longer (is_array a) scope e there);
    count = known.knows.count;
    bytes = known.knows.bytes;
  };
  sizes = known.sizes;
}

-- ---- machines

-- the zeros are enough for arrays that may be declared
abbrev pub HasRoom : Knowledge → List Storage → List Entry → Machine → Type 0
HasRoom k storages scope m =
    (place word : ℕ) (line : CodeLine) → slice_get m.code place ≡ Some line → line.step ≡ Pointer item.Zeros word
    → (a : ℕ) → IsTrue (is_new_array storages scope a) → cleared_bytes (slice_index k.arrays a) ≤ m.sizes item.Zeros

pub room_stays : (k : Knowledge) (storages : List Storage) (scope : List Entry) (m end : Machine) → HasRoom k storages scope m
    → end.code ≡ m.code → end.sizes ≡ m.sizes → HasRoom k storages scope end
room_stays k storages scope m end room code sizes place word line at is a new =
    subst (λ z. cleared_bytes (slice_index k.arrays a) ≤ z item.Zeros) (sym sizes)
    (room place word line (ap (λ c. slice_get c place) (sym code) ∙ at) is a new)

pub room_taken : (k : Knowledge) (storages : List Storage) (scope : List Entry) (e : Entry) (x : ℕ) (fact : Fact) (m : Machine) → Declares e x
    → HasRoom k storages scope m → HasRoom (with_fact x fact k) storages (scope ++ e ∷ []) m
room_taken k storages scope e x fact m declares room place word line at is a new =
    room place word line at is a
    (ap (λ b. (nat_lt a (length storages) && not (is_table (storage_of storages a))) && not b) (sym (array_same scope e x a declares)) ∙ new)

-- a name takes a value, and its word has it where it has one
pub matches_taken : (k : Knowledge) (storages : List Storage) (scope : List Entry) (e : Entry) (x v : ℕ) (fact : Fact) (unset unset2 : ℕ → Bool)
    (s : Store) (m : Machine) → Takes k scope e x fact → length k.facts ≡ length k.kinds → length s.values ≡ length k.kinds
    → ((y : ℕ) → unset2 y ≡ false → unset y ≡ false)
    → (unset2 x ≡ false → fact.constant ≡ None → HasWord (item.Variable x) v m)
    → Matches k storages scope unset s m → Matches (with_fact x fact k) storages (scope ++ e ∷ []) unset2 (with_value x v s) m
matches_taken k storages scope e x v fact unset unset2 s m takes facts count fewer word matches = record {
  agrees = record {
    words = λ y there set none. by_name y set (name_either scope e x y takes.declares there) none;
    arrays = λ a there. matches.agrees.arrays a (sym (array_same scope e x a takes.declares) ∙ there);
    constants = matches.agrees.constants;
  };
  flag = matches.flag;
  traced = matches.traced;
  zeros = matches.zeros;
  room = room_taken k storages scope e x fact m takes.declares matches.room;
}
  where
    within : x < length k.kinds
    within = ltb-true x _ (and_first _ _ takes.new)

    by_name : (y : ℕ) → unset2 y ≡ false → IsTrue (list_any (is_name y) scope) ⊎ (x ≡ y)
        → (fact_at (with_fact x fact k) y).constant ≡ None → HasWord (item.Variable y) (slice_index (slice_set s.values x v) y) m
    by_name y set (inl there) none =
        let differs = new_name (length k.kinds) scope x y takes.new there in
        rw (slice_other s.values x y v 0 differs) (matches.agrees.words y there (fewer y set)
        (ap (λ (f : Fact). f.constant) (sym (fact_stays k scope e x fact y takes there)) ∙ none))
    by_name y set (inr same) none =
        let set : unset2 x ≡ false = ap unset2 same ∙ set in
        let none : fact.constant ≡ None = ap (λ (f : Fact). f.constant) (sym (fact_new k scope e x fact takes facts))
        ∙ ap (λ z. (fact_at (with_fact x fact k) z).constant) same ∙ none in
        subst (λ z. HasWord (item.Variable z) (slice_index (slice_set s.values x v) z) m) same
        (rw (slice_same s.values x v 0 (omega (arith, count, within))) (word set none))

-- .. and is left again: the room is that of a machine before
pub matches_outside : (k : Knowledge) (storages : List Storage) (scope : List Entry) (e : Entry) (x : ℕ) (fact : Fact) (unset unset2 : ℕ → Bool)
    (s : Store) (m end : Machine) → Takes k scope e x fact
    → ((y : ℕ) → IsTrue (list_any (is_name y) scope) → unset2 y ≡ false → unset y ≡ false)
    → HasRoom k storages scope m → end.code ≡ m.code → end.sizes ≡ m.sizes
    → Matches (with_fact x fact k) storages (scope ++ e ∷ []) unset s end → Matches k storages scope unset2 s end
matches_outside k storages scope e x fact unset unset2 s m end takes fewer room code sizes matches = record {
  agrees = record {
    words = λ y there set none. matches.agrees.words y (in_longer (is_name y) scope e there) (fewer y there set)
        (ap (λ (f : Fact). f.constant) (fact_stays k scope e x fact y takes there) ∙ none);
    arrays = λ a there. matches.agrees.arrays a (in_longer (is_array a) scope e there);
    constants = matches.agrees.constants;
  };
  flag = matches.flag;
  traced = matches.traced;
  zeros = matches.zeros;
  room = room_stays k storages scope m end room code sizes;
}

-- more names are not assigned
pub matches_fewer : (k : Knowledge) (storages : List Storage) (scope : List Entry) (unset unset2 : ℕ → Bool) (s : Store) (m : Machine)
    → ((y : ℕ) → unset2 y ≡ false → unset y ≡ false) → Matches k storages scope unset s m → Matches k storages scope unset2 s m
matches_fewer k storages scope unset unset2 s m fewer matches = record {
  agrees = record {
    words = λ y there set none. matches.agrees.words y there (fewer y set) none;
    arrays = matches.agrees.arrays;
    constants = matches.agrees.constants;
  };
  flag = matches.flag;
  traced = matches.traced;
  zeros = matches.zeros;
  room = matches.room;
}

-- ---- counts of loops

pub counts_then : (scope : List Entry) (m middle end : Machine) → LeavesCounts scope m middle → LeavesCounts scope middle end → LeavesCounts scope m end
counts_then scope m middle end one two = record {
  counts = λ x i there. two.counts x i there ∙ one.counts x i there;
  to_come = two.to_come ∙ one.to_come;
  sent = two.sent ∙ one.sent;
}

pub counts_outside : (scope : List Entry) (e : Entry) (m end : Machine) → LeavesCounts (scope ++ e ∷ []) m end → LeavesCounts scope m end
counts_outside scope e m end leaves = record {
  counts = λ x i there. leaves.counts x i (in_longer (is_name x) scope e there);
  to_come = leaves.to_come;
  sent = leaves.sent;
}

pub counts_of_items : (scope : List Entry) (kept : ℕ) (m end : Machine) → LeavesItems scope kept m end → LeavesCounts scope m end
counts_of_items scope kept m end leaves = record {
  counts = λ x i there. leaves.blocks (item.Variable x) (4 + i) there;
  to_come = leaves.to_come;
  sent = leaves.sent;
}

-- 0 is a value of each kind
pub zero_fits : (kind : Kind) → FitsFact (fact_of_kind kind) 0
zero_fits kinds.Word = record {
  small = omega arith;
  source = full_contains 0 (omega arith);
  known = full_contains 0 (omega arith);
  constant = λ c is. absurd (none_some is);
}
zero_fits kinds.Byte = record {
  small = omega arith;
  source = byte_contains 0 (omega arith);
  known = full_contains 0 (omega arith);
  constant = λ c is. absurd (none_some is);
}

-- ---- arrays

sized_at : (storages : List Storage) (a : ℕ) → IsTrue (list_all is_sized storages) → a < length storages
    → (0 < slice_index (map bytes_of storages) a) × (slice_index (map bytes_of storages) a ≤ 2048)
sized_at [] a sized h = absurd (omega (arith, h))
sized_at (storage ∷ storages) zero sized h =
    let one = and_first (nat_lt 0 (bytes_of storage) && nat_le (bytes_of storage) 2048) _ (and_first (is_sized storage) _ sized) in (ltb-true 0 _ (and_first _ _ one), leb-true _ 2048 (and_second (nat_lt 0 (bytes_of storage)) _ one))
sized_at (storage ∷ storages) (suc a) sized h = sized_at storages a (and_second (is_sized storage) _ sized) (omega (arith, h))

pub length_at : (arrays : List (List ℕ)) (a : ℕ) → length (slice_index_or arrays a []) ≡ slice_index (map length arrays) a
length_at [] a = refl
length_at (bytes ∷ arrays) zero = refl
length_at (bytes ∷ arrays) (suc a) = length_at arrays a

pub lengths_set : (arrays : List (List ℕ)) (a : ℕ) (bytes : List ℕ) → length bytes ≡ length (slice_index_or arrays a [])
    → map length (slice_set arrays a bytes) ≡ map length arrays
lengths_set [] a bytes same = refl
lengths_set (one ∷ arrays) zero bytes same = ap (λ n. n ∷ map length arrays) same
lengths_set (one ∷ arrays) (suc a) bytes same = ap (λ ns. length one ∷ ns) (lengths_set arrays a bytes same)

-- what is so of what is written and of all that was there is so of all that is there
pub set_holds : {A : Type 0} (P : A → Type 0) (xs : List A) (a b : ℕ) (v d : A) → P v → P (slice_index_or xs b d) → P (slice_index_or (slice_set xs a v) b d)
set_holds P [] a b v d one other = other
set_holds P (x ∷ xs) zero zero v d one other = one
set_holds P (x ∷ xs) zero (suc b) v d one other = other
set_holds P (x ∷ xs) (suc a) zero v d one other = other
set_holds P (x ∷ xs) (suc a) (suc b) v d one other = set_holds P xs a b v d one other

zeros_small : (n i : ℕ) → slice_index (replicate n 0) i < 256
zeros_small zero i = omega arith
zeros_small (suc n) zero = omega arith
zeros_small (suc n) (suc i) = zeros_small n i

zeros_long : (n : ℕ) → length {A = ℕ} (replicate n 0) ≡ n
zeros_long zero = refl
zeros_long (suc n) = ap suc (zeros_long n)

-- an array takes other bytes, as many
pub knows_bytes : (k : Knowledge) (scope : List Entry) (a : ℕ) (bytes : List ℕ) (s : Store) → length bytes ≡ length (array_of s a)
    → ((i : ℕ) → slice_index bytes i < 256) → KnowsState k scope s → KnowsState k scope (with_array a bytes s)
knows_bytes k scope a bytes s long small known =
    let sizes = lengths_set s.arrays a bytes long ∙ known.sizes in
    record {
      knows = record {
        names = known.knows.names;
        lengths = λ b there. length_at (slice_set s.arrays a bytes) b ∙ ap (λ ns. slice_index ns b) sizes;
        count = known.knows.count;
        bytes = λ b i. set_holds (λ bytes. slice_index bytes i < 256) s.arrays a b bytes [] (small i) (known.knows.bytes b i);
      };
      sizes = sizes;
    }

pub knows_array : (k : Knowledge) (scope : List Entry) (a : ℕ) (s : Store) → KnowsState k scope s
    → KnowsState k (scope ++ entry.Array a ∷ []) (cleared a s)
knows_array k scope a s known =
    let bytes = replicate (length (array_of s a)) 0 in
    let after = knows_bytes k scope a bytes s (zeros_long (length (array_of s a))) (zeros_small (length (array_of s a))) known in
    record {
      knows = record {
        names = λ x there set. after.knows.names x (sym (same_any (is_name x) scope (entry.Array a) refl) ∙ there) refl;
        lengths = λ b there. length_at (slice_set s.arrays a bytes) b ∙ ap (λ ns. slice_index ns b) after.sizes;
        count = after.knows.count;
        bytes = after.knows.bytes;
      };
      sizes = after.sizes;
    }

pub place_array : (k : Knowledge) (storages : List Storage) (scope : List Entry) (a : ℕ) → IsTrue (is_new_array storages scope a)
    → IsProcessPlace k storages scope → IsProcessPlace k storages (scope ++ entry.Array a ∷ [])
place_array k storages scope a new place =
    let within : a < length storages = ltb-true a _ (and_first _ _ (and_first _ _ new)) in
    let sized = sized_at storages a place.sized within in
    record {
      place = record {
        arrays = place.place.arrays;
        least = λ b there. elim (either_in (is_array b) scope (entry.Array a) there) [
          | inl before ↦ place.place.least b before
          | inr last ↦ subst (λ c. 0 < slice_index k.arrays c) (eqb-true a b last) (rw place.place.arrays sized.0)
        ];
        most = λ b there. elim (either_in (is_array b) scope (entry.Array a) there) [
          | inl before ↦ place.place.most b before
          | inr last ↦ subst (λ c. slice_index k.arrays c ≤ 2048) (eqb-true a b last) (rw place.place.arrays sized.1)
        ];
        facts = place.place.facts;
      };
      declared = λ x there. place.declared x (sym (same_any (is_variable x) scope (entry.Array a) refl) ∙ there);
      variables = λ x there. place.variables x (sym (same_any (is_variable x) scope (entry.Array a) refl) ∙ there);
      sized = place.sized;
    }

pub array_outside : (k : Knowledge) (storages : List Storage) (scope : List Entry) (a : ℕ) (unset : ℕ → Bool) (s : Store) (m end : Machine)
    → HasRoom k storages scope m → end.code ≡ m.code → end.sizes ≡ m.sizes
    → Matches k storages (scope ++ entry.Array a ∷ []) unset s end → Matches k storages scope unset s end
array_outside k storages scope a unset s m end room code sizes matches = record {
  agrees = record {
    words = λ y there set none. matches.agrees.words y (in_longer (is_name y) scope (entry.Array a) there) set none;
    arrays = λ b there. matches.agrees.arrays b (in_longer (is_array b) scope (entry.Array a) there);
    constants = matches.agrees.constants;
  };
  flag = matches.flag;
  traced = matches.traced;
  zeros = matches.zeros;
  room = room_stays k storages scope m end room code sizes;
}
