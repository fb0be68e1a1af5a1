-- What a machine matches once a target has taken a word.
use Rattle.std.proofs.Common.{drop, take, ◌-◌, ◌≡◌, ◌≢◌, ◌+◌, ◌^◌, ◌≤◌, ◌<◌, [], ◌∷◌, ℕ, zero, suc, List, length, map, None, Bool, false, true, nat_eq, refl, ap, sym, subst, ◌∙◌, arith, w32}
use Rattle.std.specs.Prelude.{slice_index, slice_index_or, slice_set, slice_get, ◌||◌, ◌&&◌, not, IsTrue, if◌then◌else◌}
use Rattle.std.specs.Int.{to_le_bytes}
use Rattle.std.specs.List.{list_any}
use Rattle.std.proofs.Math.Bool.{or-false}
use Rattle.std.proofs.lemmas.List.{length-map}
use Rattle.std.proofs.Math.Seq.{take-length}
use Rattle.std.proofs.lemmas.Bool.{eqb-true}
use Rattle.tpw_occam_core.specs.declared.worker.Storage.{Storage}
use Rattle.tpw_occam_core.specs.declared.scope.Entry.{Entry}
use Rattle.tpw_occam_core.specs.declared.kind.Kind.{Kind}
use Rattle.tpw_occam_core.specs.declared.kind.Kind.TheVariants as kind
use Rattle.tpw_occam_core.specs.declared.expression.Expression.{Expression}
use Rattle.tpw_occam_core.specs.declared.process.Target.{Target}
use Rattle.tpw_occam_core.specs.declared.process.Target.TheVariants as target
use Rattle.tpw_occam_core.specs.declared.process.Assignment.{Assignment}
use Rattle.tpw_occam_core.specs.Arrays.{size, kept, with_element}
use Rattle.tpw_occam_core.specs.Meaning.{Store, value_of, array_of, with_value, with_array, kind_of, subscript_of, stored, flagged}
use Rattle.tpw_occam_core.specs.Sound.{is_name, is_array, is_seen, is_sound_target}
use Rattle.tpw_occam_code.specs.declared.analysis.First.TheVariants.{Nothing, Assigned, Read}
use Rattle.tpw_occam_symbolic.specs.declared.items.Item.{Item}
use Rattle.tpw_occam_symbolic.specs.declared.items.Item.TheVariants as item
use Rattle.tpw_occam_symbolic.specs.declared.code.Step.TheVariants.{Load}
use Rattle.tpw_occam_symbolic.specs.Code.{Lines, followed_by, line_of}
use Rattle.tpw_occam_symbolic.specs.Blocks.{Blocks, with_bytes, with_word, bytes_at}
use Rattle.tpw_occam_symbolic.specs.Symbolic.{Machine}
use Rattle.tpw_occam_symbolic.specs.Leading.{HasWord, HasArray}
use Rattle.tpw_occam_expressions.specs.Values.{scaled}
use Rattle.tpw_occam_expressions.specs.Agreement.{Knowledge, fact_at, Knows, Agrees}
use Rattle.tpw_occam_expressions.specs.Computing.{IsPlace, MayStand, ComputesTo, reads}
use Rattle.tpw_occam_code.specs.Executing.{sources_read, is_target, first_in_assignments, is_nothing, unset_after, IsProcessPlace, MayRun, none_unset, KnowsState, Matches, Assigns}
use Rattle.tpw_occam_code.specs.Assigning.{HasShape, IsInside, taken, taken_value, element_bytes, item_of, place_of, held_bytes, unset_but, Stores, MayTake, StoresIn, HasSmallValue, MayMake, LeavesKept, MakesOne}
use Rattle.tpw_occam_symbolic.proofs.Leading.{does_both, does_less, does_kept}
use Rattle.tpw_occam_expressions.proofs.Computing.{agrees_after, bytes_same, word_same}
use Rattle.tpw_occam_expressions.proofs.Keeping.{word_written, other_item, does_recall}
use Rattle.tpw_occam_expressions.proofs.Indexing.{subscript_word_below}
use Rattle.tpw_occam_expressions.proofs.Naming.{slice_same, slice_other}
use Rattle.tpw_occam_symbolic.proofs.Sizes.{and_first, and_second}
use Rattle.tpw_occam_expressions.proofs.Standing.{or_first, or_second, suffices_two}
use Rattle.tpw_occam_expressions.proofs.Constructs.{seen_array, seen_size, size_is}
use Rattle.tpw_occam_code.proofs.Storing.{leaves_stores, behind_written, array_written, element_written, written_length}
use Rattle.tpw_occam_code.proofs.Knowing.{matches_fewer}

false_true : ◌≡◌ {A = Bool} false true → ⊥
false_true e = cc

-- ---- what no step changes

-- ---- agreement

pub agrees_same : (k : Knowledge) (scope : List Entry) (unset : ℕ → Bool) (s t : Store) (m : Machine) → s.values ≡ t.values → s.arrays ≡ t.arrays
    → Agrees k scope unset s m → Agrees k scope unset t m
agrees_same k scope unset s t m values arrays agrees = record {
  words = λ x there set none. subst (λ v. HasWord (item.Variable x) (slice_index v x) m) values (agrees.words x there set none);
  arrays = λ b there. subst (λ l. HasArray b (slice_index_or l b []) m) arrays (agrees.arrays b there);
  constants = agrees.constants;
}

pub word_stored : (i : Item) (w : ℕ) (blocks : Blocks) → bytes_at (with_bytes i 0 (to_le_bytes w32 w) blocks) i 0 4 ≡ to_le_bytes w32 w
unfolding with_word
word_stored i w blocks = word_written i w blocks

pub still_set : (u b : Bool) → (u && not b) ≡ false → b ≡ false → u ≡ false
still_set false b h e = refl
still_set true true h e = e
still_set true false h e = h

-- a machine in which a variable has taken a word
variable_agrees : (k : Knowledge) (scope : List Entry) (unset : ℕ → Bool) (s : Store) (x w temporaries : ℕ) (flag : Bool) (m end : Machine)
    → x < length s.values → Agrees k scope unset s m
    → Stores scope temporaries (item.Variable x) 0 (to_le_bytes w32 w) flag m end
    → Agrees k scope (unset_but (target.Variable x) unset) (with_value x w s) end
variable_agrees k scope unset s x w temporaries flag m end within agrees stores = record {
  words = λ y there set none. by_name y there set none (nat_eq x y) refl;
  arrays = λ b there j less. stores.blocks (item.Array b) j tt
      ∙ other_item (item.Variable x) (item.Array b) 0 j (to_le_bytes w32 w) m.blocks refl ∙ agrees.arrays b there j less;
  constants = λ c small. word_same end.blocks m.blocks (item.Constant c) 0
      (λ at. stores.blocks (item.Constant c) at tt ∙ other_item (item.Variable x) (item.Constant c) 0 at (to_le_bytes w32 w) m.blocks refl)
      ∙ agrees.constants c small;
}
  where
    by_name : (y : ℕ) → IsTrue (list_any (is_name y) scope) → unset_but (target.Variable x) unset y ≡ false → (fact_at k y).constant ≡ None
        → (b : Bool) → nat_eq x y ≡ b → HasWord (item.Variable y) (slice_index (slice_set s.values x w) y) end
    by_name y there set none true e =
        let same : x ≡ y = eqb-true x y e in
        let first : IsTrue (list_any (is_name x) scope) = subst (λ z. IsTrue (list_any (is_name z) scope)) (sym same) there in
        subst (λ z. HasWord (item.Variable z) (slice_index (slice_set s.values x w) z) end) same
        (bytes_same end.blocks (with_bytes (item.Variable x) 0 (to_le_bytes w32 w) m.blocks) (item.Variable x) 0 4
        (λ at. stores.blocks (item.Variable x) at first)
        ∙ word_stored (item.Variable x) w m.blocks ∙ ap (to_le_bytes w32) (sym (slice_same s.values x w 0 within)))
    by_name y there set none false e =
        bytes_same end.blocks m.blocks (item.Variable y) 0 4
        (λ at. stores.blocks (item.Variable y) at there ∙ other_item (item.Variable x) (item.Variable y) 0 at (to_le_bytes w32 w) m.blocks e)
        ∙ agrees.words y there (still_set (unset y) (nat_eq x y) set e) none
        ∙ ap (to_le_bytes w32) (sym (slice_other s.values x y w 0 e))

pub with_element-length : (view : Kind) (bytes : List ℕ) (i word : ℕ) → length (with_element view bytes i word) ≡ length bytes
with_element-length view bytes i word = ap length (element_written view bytes i word) ∙ written_length bytes (scaled view i) (element_bytes view word)

-- .. and one in which an element has
element_agrees : (k : Knowledge) (scope : List Entry) (unset : ℕ → Bool) (s : Store) (a : ℕ) (view : Kind) (e : Expression) (i word temporaries : ℕ) (flag : Bool)
    (m end : Machine) → i < size view (array_of s a) → a < length s.arrays → Agrees k scope unset s m
    → Stores scope temporaries (item.Array a) (scaled view i) (element_bytes view word) flag m end
    → Agrees k scope (unset_but (target.Element a view e) unset) (with_array a (with_element view (array_of s a) i word) s) end
element_agrees k scope unset s a view e i word temporaries flag m end h within agrees stores = record {
  words = λ y there set none.
      bytes_same end.blocks m.blocks (item.Variable y) 0 4
      (λ at. stores.blocks (item.Variable y) at there ∙ other_item (item.Array a) (item.Variable y) (scaled view i) at more m.blocks refl)
      ∙ agrees.words y there (still_set (unset y) false set refl) none;
  arrays = λ b there. by_name b there (nat_eq a b) refl;
  constants = λ c small. word_same end.blocks m.blocks (item.Constant c) 0
      (λ at. stores.blocks (item.Constant c) at tt ∙ other_item (item.Array a) (item.Constant c) (scaled view i) at more m.blocks refl)
      ∙ agrees.constants c small;
}
  where
    more : List ℕ
    more = element_bytes view word

    bytes : List ℕ
    bytes = array_of s a

    made : List ℕ
    made = with_element view (array_of s a) i word

    by_name : (b : ℕ) → IsTrue (list_any (is_array b) scope) → (t : Bool) → nat_eq a b ≡ t
        → HasArray b (slice_index_or (slice_set s.arrays a made) b []) end
    by_name b there true e =
        let same : a ≡ b = eqb-true a b e in
        let first : IsTrue (list_any (is_array a) scope) = subst (λ z. IsTrue (list_any (is_array z) scope)) (sym same) there in
        subst (λ z. HasArray z (slice_index_or (slice_set s.arrays a made) z []) end) same
        (subst (λ l. HasArray a l end) (sym (slice_same s.arrays a made [] within))
        (λ j less.
        let short : j < length bytes = omega (arith, less, with_element-length view bytes i word) in
        stores.blocks (item.Array a) j tt ∙ array_written a view bytes i word j m.blocks h short (agrees.arrays a first j short)))
    by_name b there false e =
        subst (λ l. HasArray b l end) (sym (slice_other s.arrays a b made [] e))
        (λ j less. stores.blocks (item.Array b) j tt ∙ other_item (item.Array a) (item.Array b) (scaled view i) j more m.blocks e ∙ agrees.arrays b there j less)

-- ---- matching

pub sizes_at : (arrays : List (List ℕ)) (a : ℕ) → slice_index (map length arrays) a ≡ length (slice_index_or arrays a [])
sizes_at [] a = refl
sizes_at (bytes ∷ arrays) zero = refl
sizes_at (bytes ∷ arrays) (suc a) = sizes_at arrays a

pub size_known : (k : Knowledge) (s : Store) (a : ℕ) → HasShape k s → length (array_of s a) ≡ slice_index k.arrays a
size_known k s a shape = sym (sizes_at s.arrays a) ∙ ap (λ l. slice_index l a) shape.sizes

pub knows_shape : (k : Knowledge) (scope : List Entry) (s : Store) → KnowsState k scope s → HasShape k s
knows_shape k scope s knows = record { count = knows.knows.count; sizes = knows.sizes }

pub target_seen : (count : ℕ) (storages : List Storage) (scope : List Entry) (a : ℕ) (view : Kind) (e : Expression)
    → IsTrue (is_sound_target count storages scope (target.Element a view e)) → IsTrue (is_seen storages scope a view)
target_seen count storages scope a view e sound = and_first _ _ (and_first _ _ sound)

pub subscript_inside : (k : Knowledge) (storages : List Storage) (scope : List Entry) (unset : ℕ → Bool) (s : Store) (t : Target)
    → IsPlace k storages scope → IsTrue (is_sound_target (length k.kinds) storages scope t) → Knows k scope unset s
    → IsInside k t (subscript_of t s).word
subscript_inside k storages scope unset s (target.Variable x) place sound knows = tt
subscript_inside k storages scope unset s (target.Element a view e) place sound knows =
    let seen = target_seen (length k.kinds) storages scope a view e sound in
    let sized = size_is view (array_of s a) _ (knows.lengths a (seen_array storages scope a view seen)) in
    subst (λ n. (subscript_of (target.Element a view e) s).word < n) (sym sized)
    (subscript_word_below (size view (array_of s a)) (value_of e s).word
    (subst (λ n. 0 < n) sized (seen_size k storages scope a view place seen)))

-- an array that has bytes is one that there is
array_there : (arrays : List ℕ) (a : ℕ) → 0 < slice_index arrays a → a < length arrays
array_there [] a h = absurd (omega (arith, h))
array_there (n ∷ arrays) zero h = omega arith
array_there (n ∷ arrays) (suc a) h = let less = array_there arrays a h in omega (arith, less)

stored_agrees : (k : Knowledge) (storages : List Storage) (scope : List Entry) (unset : ℕ → Bool) (s : Store) (t : Target) (i word temporaries : ℕ) (flag : Bool)
    (m end : Machine) → IsProcessPlace k storages scope → IsTrue (is_sound_target (length k.kinds) storages scope t) → HasShape k s
    → IsInside k t i → Agrees k scope unset s m
    → Stores scope temporaries (item_of t) (place_of t i) (held_bytes t (taken k.kinds t word)) flag m end
    → Agrees k scope (unset_but t unset) (stored k.kinds t i word s) end
stored_agrees k storages scope unset s (target.Variable x) i word temporaries flag m end place sound shape inside agrees stores =
    let there = place.declared x sound in
    let count = shape.count in
    variable_agrees k scope unset s x (kept (kind_of k.kinds x) word) temporaries flag m end (omega (arith, there, count)) agrees stores
stored_agrees k storages scope unset s (target.Element a view e) i word temporaries flag m end place sound shape inside agrees stores =
    let seen = target_seen (length k.kinds) storages scope a view e sound in
    let least = place.place.least a (seen_array storages scope a view seen) in
    let there = array_there k.arrays a least in
    element_agrees k scope unset s a view e i word temporaries flag m end
    (subst (λ n. i < n) (size_is view (array_of s a) _ (size_known k s a shape)) inside)
    (omega (arith, there, ap length shape.sizes, length-map s.arrays length)) agrees stores

stored_flag : (kinds : List Kind) (t : Target) (i word : ℕ) (s : Store) → (stored kinds t i word s).flag ≡ s.flag
stored_flag kinds (target.Variable x) i word s = refl
stored_flag kinds (target.Element a view e) i word s = refl

stored_traced : (kinds : List Kind) (t : Target) (i word : ℕ) (s : Store) → (stored kinds t i word s).traced ≡ s.traced
stored_traced kinds (target.Variable x) i word s = refl
stored_traced kinds (target.Element a view e) i word s = refl

no_zeros : (t : Target) (i at : ℕ) (bytes : List ℕ) (blocks : Blocks) → with_bytes (item_of t) (place_of t i) bytes blocks item.Zeros at ≡ blocks item.Zeros at
no_zeros (target.Variable x) i at bytes blocks = other_item (item.Variable x) item.Zeros 0 at bytes blocks refl
no_zeros (target.Element a view e) i at bytes blocks = other_item (item.Array a) item.Zeros (scaled view i) at bytes blocks refl

no_temporary : (t : Target) (i n at : ℕ) (bytes : List ℕ) (blocks : Blocks)
    → with_bytes (item_of t) (place_of t i) bytes blocks (item.Temporary n) at ≡ blocks (item.Temporary n) at
no_temporary (target.Variable x) i n at bytes blocks = other_item (item.Variable x) (item.Temporary n) 0 at bytes blocks refl
no_temporary (target.Element a view e) i n at bytes blocks = other_item (item.Array a) (item.Temporary n) (scaled view i) at bytes blocks refl

no_count : (t : Target) (i x j word : ℕ) (blocks : Blocks)
    → with_bytes (item_of t) (place_of t i) (held_bytes t word) blocks (item.Variable x) (4 + j) ≡ blocks (item.Variable x) (4 + j)
no_count (target.Variable y) i x j word blocks = behind_written (item.Variable y) (item.Variable x) 0 (4 + j) (to_le_bytes w32 word) blocks (omega arith)
no_count (target.Element a view e) i x j word blocks = other_item (item.Array a) (item.Variable x) (scaled view i) (4 + j) (element_bytes view word) blocks refl

-- a target has taken a word
pub matches_stored : (k : Knowledge) (storages : List Storage) (scope : List Entry) (unset : ℕ → Bool) (s : Store) (t : Target) (i word temporaries : ℕ) (flag : Bool)
    (m end : Machine) → IsProcessPlace k storages scope → IsTrue (is_sound_target (length k.kinds) storages scope t) → HasShape k s
    → IsInside k t i → Matches k storages scope unset s m → end.code ≡ m.code → end.sizes ≡ m.sizes
    → Stores scope temporaries (item_of t) (place_of t i) (held_bytes t (taken k.kinds t word)) flag m end
    → Matches k storages scope (unset_but t unset) (flagged flag (stored k.kinds t i word s)) end
matches_stored k storages scope unset s t i word temporaries flag m end place sound shape inside matches code sizes stores =
    let made = stored k.kinds t i word s in
    record {
      agrees = agrees_same k scope (unset_but t unset) made (flagged flag made) end refl refl
          (stored_agrees k storages scope unset s t i word temporaries flag m end place sound shape inside matches.agrees stores);
      flag = stores.error ∙ ap (λ e. e || flag) (matches.flag ∙ sym (stored_flag k.kinds t i word s));
      traced = stores.traced ∙ matches.traced ∙ sym (stored_traced k.kinds t i word s);
      zeros = λ at. stores.blocks item.Zeros at tt ∙ no_zeros t i at (held_bytes t (taken k.kinds t word)) m.blocks ∙ matches.zeros at;
      room = λ at word line is points b new.
          rw sizes (matches.room at word line (ap (λ c. slice_get c at) (sym code) ∙ is) points b new);
    }

pub stores_leave : (scope : List Entry) (temporaries : ℕ) (t : Target) (i word : ℕ) (flag : Bool) (m end : Machine)
    → Stores scope temporaries (item_of t) (place_of t i) (held_bytes t word) flag m end → LeavesKept scope temporaries m end
stores_leave scope temporaries t i word flag m end stores = record {
  counts = record {
    counts = λ x j there. stores.blocks (item.Variable x) (4 + j) there ∙ no_count t i x j word m.blocks;
    to_come = stores.to_come;
    sent = stores.sent;
  };
  words = λ n at less. stores.blocks (item.Temporary n) at less ∙ no_temporary t i n at (held_bytes t word) m.blocks;
}

-- ---- one assignment

pub knows_unset : (k : Knowledge) (scope : List Entry) (unset : ℕ → Bool) (s : Store) → Knows k scope none_unset s → Knows k scope unset s
knows_unset k scope unset s knows =
    record { names = λ x there set. knows.names x there refl; lengths = knows.lengths; count = knows.count; bytes = knows.bytes }

pub make_takes : (k : Knowledge) (storages : List Storage) (scope : List Entry) (unset : ℕ → Bool) (a : Assignment)
    → MayMake k storages scope unset a → MayTake k storages scope unset a.target
make_takes k storages scope unset a may =
    record { sound = and_first _ _ may.sound; assigned = λ x h. or_second (reads a.value x) _ (may.assigned x h) }

pub make_stands : (k : Knowledge) (storages : List Storage) (scope : List Entry) (unset : ℕ → Bool) (a : Assignment)
    → MayMake k storages scope unset a → MayStand k storages scope unset a.value
make_stands k storages scope unset a may =
    record { sound = and_second (is_sound_target (length k.kinds) storages scope a.target) _ may.sound; assigned = λ x h. or_first _ _ (may.assigned x h) }

kept_small : (view : Kind) (word : ℕ) → word < 2 ^ 32 → kept view word < 2 ^ 32
kept_small kind.Word word h = h
kept_small kind.Byte word h = omega arith

pub taken_small : (kinds : List Kind) (t : Target) (word : ℕ) → word < 2 ^ 32 → taken kinds t word < 2 ^ 32
taken_small kinds (target.Variable x) word h = kept_small (kind_of kinds x) word h
taken_small kinds (target.Element a view e) word h = h

pub one_evaluated : (k : Knowledge) (old between new : Lines) (a : Assignment) (number : ℕ) (is_kept : Bool) (temporaries : ℕ) → is_kept ≡ false
    → ComputesTo k old between a.value (taken_value k.kinds a) 3 temporaries → HasSmallValue k a.value → StoresIn k between new a.target temporaries
    → MakesOne k old new a number is_kept temporaries
one_evaluated k old between new a number is_kept temporaries none computes small stores = subst (λ b. MakesOne k old new a number b temporaries) (sym none)
    (λ storages scope unset s word place takes may_stand knows short.
    let known = knows_unset k scope unset s knows.knows in
    let stands = may_stand refl in
    let v = value_of a.value s in
    let i = subscript_of a.target s in
    does_less k.arrays old new _ _ _ _
    (does_kept k.arrays old new _ _
    (does_both k.arrays old between new _ _ _ _
    (Stores scope temporaries (item_of a.target) (place_of a.target i.word) (held_bytes a.target (taken k.kinds a.target v.word)) (v.flag || i.flag))
    (computes storages scope unset s place.place stands (suffices_two k 3 a.value (omega arith) (omega arith)) known)
    (stores storages scope unset s (taken k.kinds a.target v.word) place takes known
    (taken_small k.kinds a.target v.word (small storages scope unset s place.place stands known)))
    (λ m middle agrees after. (agrees_after k scope unset temporaries s m middle agrees after.1, after.0.areg))
    (λ m middle end agrees after stored.
    leaves_stores scope temporaries (item_of a.target) (place_of a.target i.word) (held_bytes a.target (taken k.kinds a.target v.word))
    v.flag i.flag m middle end after.1 after.0.error stored)))
    (λ m said. said.0.agrees)
    (λ m end said after. (
      matches_stored k storages scope unset s a.target i.word v.word temporaries (v.flag || i.flag) m end place takes.sound (knows_shape k scope s knows)
          (subscript_inside k storages scope unset s a.target place.place takes.sound known) said.0 after.1 after.2 after.0,
      stores_leave scope temporaries a.target i.word (taken k.kinds a.target v.word) (v.flag || i.flag) m end after.0,
    )))

pub one_kept : (k : Knowledge) (old between new : Lines) (source : ℕ) (a : Assignment) (number : ℕ) (is_kept : Bool) (temporaries : ℕ) → is_kept ≡ true
    → between ≡ followed_by old (line_of source (Load (item.Temporary number) 0) ∷ []) → StoresIn k between new a.target temporaries
    → MakesOne k old new a number is_kept temporaries
one_kept k old between new source a number is_kept temporaries kept is stores = subst (λ b. MakesOne k old new a number b temporaries) (sym kept)
    (λ storages scope unset s word place takes may_stand knows short.
    let known = knows_unset k scope unset s knows.knows in
    let w = taken k.kinds a.target word in
    let i = subscript_of a.target s in
    does_less k.arrays old new _ _ _ _
    (does_kept k.arrays old new _ _
    (does_both k.arrays old between new (λ m. Agrees k scope unset s m × HasWord (item.Temporary number) w m) _ _ _
    (Stores scope temporaries (item_of a.target) (place_of a.target i.word) (held_bytes a.target w) i.flag)
    (does_less k.arrays old between _ _ (λ m. Agrees k scope unset s m × HasWord (item.Temporary number) w m) _
    (does_recall k.arrays old between source (item.Temporary number) w (taken_small k.kinds a.target word short) is) (λ m said. said.1) (λ m end said after. after))
    (stores storages scope unset s w place takes known (taken_small k.kinds a.target word short))
    (λ m middle said alone. (
      agrees_after k scope unset temporaries s m middle said.0
          (record { blocks = λ i at stays. ap (λ b. b i at) alone.blocks; to_come = alone.to_come; sent = alone.sent; traced = alone.traced }),
      alone.pushed.areg,
    ))
    (λ m middle end said alone stored.
    leaves_stores scope temporaries (item_of a.target) (place_of a.target i.word) (held_bytes a.target w) false i.flag m middle end
    (record { blocks = λ i at stays. ap (λ b. b i at) alone.blocks; to_come = alone.to_come; sent = alone.sent; traced = alone.traced })
    alone.pushed.error stored)))
    (λ m said. (said.0.agrees, said.1 refl))
    (λ m end said after. (
      matches_stored k storages scope unset s a.target i.word word temporaries i.flag m end place takes.sound (knows_shape k scope s knows)
          (subscript_inside k storages scope unset s a.target place.place takes.sound known) said.0 after.1 after.2 after.0,
      stores_leave scope temporaries a.target i.word w i.flag m end after.0,
    )))

-- ---- what is assigned

none_read : (r t : Bool) → (if r then Read else if t then Assigned else Nothing) ≢ Read → r ≡ false
none_read true t not = absurd (not refl)
none_read false t not = refl

made_set : (u r t : Bool) → (u ≡ true → (if r then Read else if t then Assigned else Nothing) ≢ Read)
    → (u && is_nothing (if r then Read else if t then Assigned else Nothing)) ≡ false → (u && not t) ≡ false
made_set false r t not h = refl
made_set true true t not h = absurd (not refl refl)
made_set true false true not h = refl
made_set true false false not h = h

-- what no assignment reads
pub run_reads : (storages : List Storage) (scope : List Entry) (unset : ℕ → Bool) (sound : Bool) (all : List Assignment) (x : ℕ)
    → MayRun scope unset sound (first_in_assignments all) → unset x ≡ true → list_any (sources_read x) all ≡ false
run_reads storages scope unset sound all x may h = none_read (list_any (sources_read x) all) (list_any (λ a. is_target x a.target) all) (may.assigned x h)

-- .. and what is assigned to by all
pub run_sets : (scope : List Entry) (unset : ℕ → Bool) (sound : Bool) (all : List Assignment) (x : ℕ)
    → MayRun scope unset sound (first_in_assignments all) → unset_after (first_in_assignments all) unset x ≡ false
    → (unset x && not (list_any (λ a. is_target x a.target) all)) ≡ false
run_sets scope unset sound all x may h =
    made_set (unset x) (list_any (sources_read x) all) (list_any (λ a. is_target x a.target) all) (may.assigned x) h

-- one assignment alone
pub alone_assigns : (k : Knowledge) (old new : Lines) (a : Assignment) → MakesOne k old new a 0 false 0 → Assigns k old new (a ∷ [])
alone_assigns k old new a makes storages scope unset s place may knows =
    let one : MayMake k storages scope unset a =
    record { sound = and_first _ _ may.sound; assigned = λ x h. or_first _ _ (run_reads storages scope unset _ (a ∷ []) x may h) } in
    does_less k.arrays old new _ _ _ _
    (makes storages scope unset s 0 place (make_takes k storages scope unset a one) (λ e. make_stands k storages scope unset a one) knows (omega arith))
    (λ m said. (said, λ e. absurd (false_true e)))
    (λ m end said after. (
      matches_fewer k storages scope (unset_but a.target unset) _ _ end
          (λ x h. subst (λ t. (unset x && not t) ≡ false) (or-false (is_target x a.target)) (run_sets scope unset _ (a ∷ []) x may h)) after.0,
      after.1.counts,
    ))

pub one_of : {A : Type 0} (xs : List A) (x : A) → 1 ≤ length xs → length xs < 2 → x ≡ slice_index_or xs 0 x → xs ≡ x ∷ []
one_of [] x h g e = absurd (omega (arith, h))
one_of (y ∷ []) x h g e = ap (λ z. z ∷ []) (sym e)
one_of (y ∷ z ∷ xs) x h g e = absurd (omega (arith, g))

pub none_of : {A : Type 0} (xs : List A) → length xs < 1 → xs ≡ []
none_of [] h = refl
none_of (y ∷ xs) h = absurd (omega (arith, h))

-- all but the first
abbrev pub rest_of : {A : Type 0} → List A → List A
rest_of xs = take (length xs - 1) (drop 1 xs)

pub more_of : {A : Type 0} (xs : List A) (x : A) → 1 ≤ length xs → x ≡ slice_index_or xs 0 x → xs ≡ x ∷ rest_of xs
more_of [] x h e = absurd (omega (arith, h))
more_of (y ∷ xs) x h e =
    let long : suc (length xs) - 1 ≡ length xs = omega arith in
    ap (λ z. z ∷ xs) (sym e) ∙ ap (λ l. x ∷ l) (sym (ap (λ n. take n xs) long ∙ take-length xs))
