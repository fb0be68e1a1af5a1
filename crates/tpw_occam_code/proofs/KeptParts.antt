-- Assignments of which all values and subscripts are kept in words.
use Rattle.std.proofs.Common.{◌≡◌, ◌+◌, ◌%◌, ◌^◌, ◌≤◌, ◌<◌, [], ◌∷◌, ℕ, zero, suc, List, length, map, Bool, false, true, refl, ap, sym, subst, ◌∙◌, arith, w32}
use Rattle.std.specs.Prelude.{slice_index, slice_set, slice_index_or, slice_get, ◌||◌, ◌&&◌, not}
use Rattle.std.specs.Int.{to_le_bytes}
use Rattle.std.specs.List.{list_any}
use Rattle.std.proofs.Math.Bool.{or_assoc, or-false}
use Rattle.tpw_occam_core.specs.declared.arithmetic.Answer.{Answer}
use Rattle.tpw_occam_core.specs.declared.worker.Storage.{Storage}
use Rattle.tpw_occam_core.specs.declared.scope.Entry.{Entry}
use Rattle.tpw_occam_core.specs.declared.kind.Kind.{Kind}
use Rattle.tpw_occam_core.specs.declared.expression.Expression.{Expression}
use Rattle.tpw_occam_core.specs.declared.process.Target.{Target}
use Rattle.tpw_occam_core.specs.declared.process.Target.TheVariants as target
use Rattle.tpw_occam_core.specs.declared.process.Assignment.{Assignment}
use Rattle.tpw_occam_core.specs.Arithmetic.{pure, subscript}
use Rattle.tpw_occam_core.specs.Arrays.{size, with_element}
use Rattle.tpw_occam_core.specs.Meaning.{Store, value_of, bind, array_of, subscript_of, stored, flagged, assigned}
use Rattle.tpw_occam_core.specs.Sound.{is_sound_assignment}
use Rattle.tpw_occam_expressions.specs.declared.expressions.Value.{Value}
use Rattle.tpw_occam_symbolic.specs.declared.items.Item.TheVariants as item
use Rattle.tpw_occam_symbolic.specs.declared.code.Step.TheVariants.{Load, Store as StoreTo}
use Rattle.tpw_occam_symbolic.specs.Code.{Lines, followed_by, line_of}
use Rattle.tpw_occam_symbolic.specs.Blocks.{with_bytes, word_at, bytes_at}
use Rattle.tpw_occam_symbolic.specs.Symbolic.{Machine, number}
use Rattle.tpw_occam_symbolic.specs.Leading.{Does, HasConstants, HasWord}
use Rattle.tpw_occam_expressions.specs.Ranges.{full, Contains}
use Rattle.tpw_occam_expressions.specs.Values.{Holds, HasNumber, HasOperands, HasAddress, Pushes, PushesAlone, Answers, scaled}
use Rattle.tpw_occam_expressions.specs.Agreement.{Knowledge, elements_of, Agrees, LeavesItems}
use Rattle.tpw_occam_expressions.specs.Computing.{Computes, ComputesTo, IsKnown, subscript_value}
use Rattle.tpw_occam_code.specs.Executing.{sources_read, is_target, KnowsState, Matches, Assigns}
use Rattle.tpw_occam_code.specs.Assigning.{HasShape, taken, taken_value, element_bytes, unset_but, unset_by, Stores, Writes, WritesPopped, IsToStore, HasSmallValue, MayMake, MayMakeAll, LeavesKept, Saved, KeepsSubscript, HasSubscript, HasParts, KeepsParts, StoresKept, StoresParts, AssignsAbove}
use Rattle.tpw_occam_symbolic.proofs.Leading.{does_both, does_less, does_nothing, does_kept}
use Rattle.tpw_occam_expressions.proofs.Elements.{whole_words}
use Rattle.tpw_occam_expressions.proofs.Computing.{agrees_after, bytes_same, leaves_then}
use Rattle.tpw_occam_expressions.proofs.Keeping.{does_recall}
use Rattle.tpw_occam_expressions.proofs.Indexing.{reduced_below}
use Rattle.tpw_occam_expressions.proofs.Naming.{slice_length}
use Rattle.tpw_occam_expressions.proofs.Ranges.{full_contains}
use Rattle.tpw_occam_symbolic.proofs.Sizes.{and_first, and_second}
use Rattle.tpw_occam_expressions.proofs.Standing.{or_first, or_second, suffices_two}
use Rattle.tpw_occam_expressions.proofs.Constructs.{seen_array, seen_size, size_is, elements_most, settled_computes}
use Rattle.tpw_occam_expressions.proofs.TwoOperands.{does_keep, leaves_less}
use Rattle.tpw_occam_code.proofs.Storing.{writes_stores}
use Rattle.tpw_occam_code.proofs.Reading.{assigned_flagged, stored_flagged}
use Rattle.tpw_occam_code.proofs.Matching.{still_set, agrees_same, with_element-length, size_known, knows_shape, target_seen, subscript_inside, matches_stored, stores_leave, knows_unset, make_takes, make_stands, taken_small, run_reads, run_sets}
use Rattle.tpw_occam_code.proofs.Knowing.{matches_fewer}

-- ---- what is kept

pub value_saved : (k : Knowledge) (scope : List Entry) (unset : ℕ → Bool) (s : Store) (old between new : Lines) (source temporaries : ℕ) (one : Answer)
    → Does k.arrays old between (Agrees k scope unset s) (λ m end. Pushes 3 one m end × LeavesItems scope temporaries m end)
    → new ≡ followed_by between (line_of source (StoreTo (item.Temporary temporaries) 0) ∷ [])
    → Does k.arrays old new (Agrees k scope unset s) (Saved scope temporaries one)
value_saved k scope unset s old between new source temporaries one first save =
    does_less k.arrays old new _ _ _ _ (does_keep k scope unset s old between new source 3 temporaries one first save)
    (λ m said. said) (λ m end said kept. record { held = kept.held; error = kept.error; leaves = kept.leaves })

pub subscript_keeps : (k : Knowledge) (old first_code between new : Lines) (source a : ℕ) (view : Kind) (e : Expression) (value : Value) (elements temporaries : ℕ)
    → (slice_index k.arrays a < 2 ^ 32 → elements ≡ elements_of view (slice_index k.arrays a))
    → Computes k old first_code e 3 temporaries → IsKnown k e value
    → ((i : ℕ) → Holds value i → 0 < elements → elements ≤ 2 ^ 31 → Answers first_code between 2 i (subscript elements i))
    → new ≡ followed_by between (line_of source (StoreTo (item.Temporary temporaries) 0) ∷ [])
    → KeepsSubscript k old new a view e temporaries
subscript_keeps k old first_code between new source a view e value elements temporaries counted computes known makes save storages scope unset s place seen stands knows =
    let there = seen_array storages scope a view seen in
    let most = place.most a there in
    let count : elements ≡ elements_of view (slice_index k.arrays a) = counted (omega (arith, most)) in
    let sized : elements ≡ size view (array_of s a) = count ∙ size_is view (array_of s a) _ (knows.lengths a there) in
    let least : 0 < elements = subst (λ n. 0 < n) (sym count) (seen_size k storages scope a view place seen) in
    let short : elements ≤ 2 ^ 31 = subst (λ n. n ≤ 2 ^ 31) (sym count) (elements_most view _ most) in
    let is : subscript_value e elements s ≡ subscript_of (target.Element a view e) s = ap (λ n. bind (value_of e s) (subscript n)) sized in
    subst (λ x. Does k.arrays old new (Agrees k scope unset s) (Saved scope temporaries x)) is
    (value_saved k scope unset s old between new source temporaries (subscript_value e elements s)
    (settled_computes k old first_code between e value elements 3 temporaries computes known makes least short (omega arith)
    storages scope unset s place stands (suffices_two k 3 e (omega arith) (omega arith)) knows) save)

pub matches_left : (k : Knowledge) (storages : List Storage) (scope : List Entry) (unset : ℕ → Bool) (s : Store) (temporaries : ℕ) (flag : Bool) (m end : Machine)
    → Matches k storages scope unset s m → LeavesItems scope temporaries m end → end.error ≡ (m.error || flag)
    → end.code ≡ m.code → end.sizes ≡ m.sizes → Matches k storages scope unset (flagged flag s) end
matches_left k storages scope unset s temporaries flag m end matches leaves error code sizes = record {
  agrees = agrees_same k scope unset s (flagged flag s) end refl refl (agrees_after k scope unset temporaries s m end matches.agrees leaves);
  flag = error ∙ ap (λ e. e || flag) matches.flag;
  traced = leaves.traced ∙ matches.traced;
  zeros = λ at. leaves.blocks item.Zeros at tt ∙ matches.zeros at;
  room = λ at word line is points b new. rw sizes (matches.room at word line (ap (λ c. slice_get c at) (sym code) ∙ is) points b new);
}

pub items_leave : (scope : List Entry) (temporaries : ℕ) (m end : Machine) → LeavesItems scope temporaries m end → LeavesKept scope temporaries m end
items_leave scope temporaries m end leaves = record {
  counts = record {
    counts = λ x j there. leaves.blocks (item.Variable x) (4 + j) there;
    to_come = leaves.to_come;
    sent = leaves.sent;
  };
  words = λ n at less. leaves.blocks (item.Temporary n) at less;
}

pub variable_parts : (k : Knowledge) (old between new : Lines) (source x : ℕ) (value : Expression) (temporaries : ℕ)
    → ComputesTo k old between value (taken_value k.kinds (record { target = target.Variable x; value = value })) 3 temporaries
    → new ≡ followed_by between (line_of source (StoreTo (item.Temporary temporaries) 0) ∷ [])
    → KeepsParts k old new (record { target = target.Variable x; value = value }) temporaries
variable_parts k old between new source x value temporaries computes save storages scope unset s place makes knows =
    let known = knows_unset k scope unset s knows.knows in
    let a : Assignment = record { target = target.Variable x; value = value } in
    let v = value_of value s in
    does_less k.arrays old new _ _ _ _
    (does_kept k.arrays old new _ _
    (value_saved k scope unset s old between new source temporaries (taken_value k.kinds a s)
    (computes storages scope unset s place.place (make_stands k storages scope unset a makes) (suffices_two k 3 value (omega arith) (omega arith)) known) save))
    (λ m said. said.agrees)
    (λ m end said saved. (
      matches_left k storages scope unset s temporaries (v.flag || false) m end said saved.0.leaves
          (saved.0.error ∙ ap (λ f. m.error || f) (sym (or-false v.flag))) saved.1 saved.2,
      items_leave scope temporaries m end saved.0.leaves,
      record { value = saved.0.held; place = tt },
    ))

pub element_parts : (k : Knowledge) (old between saved_code new : Lines) (source b : ℕ) (view : Kind) (e value : Expression) (temporaries : ℕ)
    → ComputesTo k old between value (taken_value k.kinds (record { target = target.Element b view e; value = value })) 3 temporaries
    → saved_code ≡ followed_by between (line_of source (StoreTo (item.Temporary temporaries) 0) ∷ [])
    → KeepsSubscript k saved_code new b view e (temporaries + 1)
    → KeepsParts k old new (record { target = target.Element b view e; value = value }) temporaries
element_parts k old between saved_code new source b view e value temporaries computes save keeps storages scope unset s place makes knows =
    let known = knows_unset k scope unset s knows.knows in
    let a : Assignment = record { target = target.Element b view e; value = value } in
    let v = value_of value s in
    let i = subscript_of (target.Element b view e) s in
    let takes = make_takes k storages scope unset a makes in
    let next : temporaries < temporaries + 1 = omega arith in
    let kept : Does k.arrays old new (Agrees k scope unset s)
    (λ m end. LeavesItems scope temporaries m end × (end.error ≡ (m.error || (v.flag || i.flag)))
    × HasParts k.kinds (target.Element b view e) temporaries v.word i.word end) =
    does_both k.arrays old saved_code new _ _ _ _ _
    (value_saved k scope unset s old between saved_code source temporaries (taken_value k.kinds a s)
    (computes storages scope unset s place.place (make_stands k storages scope unset a makes) (suffices_two k 3 value (omega arith) (omega arith)) known) save)
    (keeps storages scope unset s place.place (and_first _ _ (and_first _ _ takes.sound))
    (record { sound = and_second _ _ takes.sound; assigned = takes.assigned }) known)
    (λ m middle agrees one. agrees_after k scope unset temporaries s m middle agrees one.leaves)
    (λ m middle end agrees one two. (
      leaves_then scope temporaries m middle end one.leaves (leaves_less scope temporaries middle end two.leaves),
      two.error ∙ ap (λ f. f || i.flag) one.error ∙ or_assoc m.error v.flag i.flag,
      record {
        value = bytes_same end.blocks middle.blocks (item.Temporary temporaries) 0 4 (λ at. two.leaves.blocks (item.Temporary temporaries) at next) ∙ one.held;
        place = two.held;
      },
    )) in
    does_less k.arrays old new _ _ _ _ (does_kept k.arrays old new _ _ kept)
    (λ m said. said.agrees)
    (λ m end said after. (
      matches_left k storages scope unset s temporaries (v.flag || i.flag) m end said after.0.0 after.0.1 after.1 after.2,
      items_leave scope temporaries m end after.0.0,
      after.0.2,
    ))

-- ---- what is stored of it

alone_leaves : (scope : List Entry) (temporaries : ℕ) (made : Answer) (m end : Machine) → PushesAlone made m end → LeavesItems scope temporaries m end
alone_leaves scope temporaries made m end alone =
    record { blocks = λ i at stays. ap (λ b. b i at) alone.blocks; to_come = alone.to_come; sent = alone.sent; traced = alone.traced }

-- two numbers in registers, and nothing else is changed
record Puts (b a : ℕ) (m end : Machine) : Type 0 where
  areg : end.areg ≡ number a
  breg : end.breg ≡ number b
  error : end.error ≡ m.error
  blocks : end.blocks ≡ m.blocks
  to_come : end.to_come ≡ m.to_come
  sent : end.sent ≡ m.sent
  traced : end.traced ≡ m.traced

pub kept_stores : (k : Knowledge) (old loaded reduced at_element new : Lines) (source a : ℕ) (view : Kind) (elements temporary : ℕ)
    → (slice_index k.arrays a < 2 ^ 32 → elements ≡ elements_of view (slice_index k.arrays a))
    → loaded ≡ followed_by old (line_of source (Load (item.Temporary temporary) 0) ∷ [])
    → ((i : ℕ) → i < 2 ^ 32 → Contains full i → 0 < elements → elements ≤ 2 ^ 31 → Answers loaded reduced 2 i (pure (i % 2 ^ 31 % elements)))
    → ((arrays : List ℕ) (i : ℕ) → Does arrays reduced at_element (HasNumber i) (HasAddress arrays a (scaled view i)))
    → ((arrays bytes : List ℕ) (b i word : ℕ) → i < size view bytes
    → Does arrays at_element new (IsToStore view b i word (length bytes)) (Writes (item.Array b) (scaled view i) (element_bytes view word)))
    → StoresKept k old new a view temporary
kept_stores k old loaded reduced at_element new source a view elements temporary counted load reduces indexes stores bytes i word long short inside =
    let count : elements ≡ elements_of view (slice_index k.arrays a) = counted (omega (arith, long, short)) in
    let sized : elements ≡ size view bytes = count ∙ size_is view bytes _ long in
    let below : i < elements = subst (λ n. i < n) (sym sized) inside in
    let most : elements ≤ 2 ^ 31 = subst (λ n. n ≤ 2 ^ 31) (sym count) (elements_most view _ (subst (λ n. n ≤ 2048) long short)) in
    let small : i < 2 ^ 32 = omega (arith, below, most) in
    let same : Answers loaded reduced 2 i (pure i) =
    subst (λ w. Answers loaded reduced 2 i (pure w)) (reduced_below elements i below most)
    (reduces i small (full_contains i small) (omega (arith, below)) most) in
    let puts : Does k.arrays old reduced (λ m. HasConstants m × HasNumber word m × HasWord (item.Temporary temporary) i m) (Puts word i) =
    does_both k.arrays old loaded reduced _ _ _ _ _
    (does_less k.arrays old loaded _ _ (λ m. HasConstants m × HasNumber word m × HasWord (item.Temporary temporary) i m) _
    (does_recall k.arrays old loaded source (item.Temporary temporary) i small load) (λ m said. said.2) (λ m end said after. after))
    (same k.arrays)
    (λ m middle said alone. ((λ c h. ap (λ b. word_at b (item.Constant c) 0) alone.blocks ∙ said.0 c h), alone.pushed.areg))
    (λ m middle end said alone after. record {
      areg = after.areg;
      breg = after.breg (omega arith) ∙ alone.pushed.breg (omega arith) ∙ said.1;
      error = after.error ∙ or-false middle.error ∙ alone.pushed.error ∙ or-false m.error;
      blocks = after.blocks ∙ alone.blocks;
      to_come = after.to_come ∙ alone.to_come;
      sent = after.sent ∙ alone.sent;
      traced = after.traced ∙ alone.traced;
    }) in
    does_both k.arrays old reduced new _ _ _ _ _ puts
    (does_both k.arrays reduced at_element new (HasOperands word i) _ _ _ (Writes (item.Array a) (scaled view i) (element_bytes view word))
    (does_less k.arrays reduced at_element _ _ (HasOperands word i) _ (indexes k.arrays i) (λ m said. said.1) (λ m end said at. at))
    (stores k.arrays bytes a i word inside)
    (λ m middle said at. record { areg = at.areg; breg = at.breg ∙ said.0; room = whole_words _ _ _ long at.room })
    (λ m middle end said at writes. record {
      blocks = writes.blocks ∙ ap (with_bytes (item.Array a) (scaled view i) (element_bytes view word)) at.blocks;
      error = writes.error ∙ at.error;
      to_come = writes.to_come ∙ at.to_come;
      sent = writes.sent ∙ at.sent;
      traced = writes.traced ∙ at.traced;
    }))
    (λ m middle said put. (put.breg, put.areg))
    (λ m middle end said put writes. record {
      blocks = writes.blocks ∙ ap (with_bytes (item.Array a) (scaled view i) (element_bytes view word)) put.blocks;
      error = writes.error ∙ put.error;
      to_come = writes.to_come ∙ put.to_come;
      sent = writes.sent ∙ put.sent;
      traced = writes.traced ∙ put.traced;
    })

pub matches_unflagged : (k : Knowledge) (storages : List Storage) (scope : List Entry) (unset : ℕ → Bool) (s : Store) (m : Machine)
    → Matches k storages scope unset (flagged false s) m → Matches k storages scope unset s m
matches_unflagged k storages scope unset s m matches = record {
  agrees = agrees_same k scope unset (flagged false s) s m refl refl matches.agrees;
  flag = matches.flag ∙ or-false s.flag;
  traced = matches.traced;
  zeros = matches.zeros;
  room = matches.room;
}

pub variable_stored : (k : Knowledge) (old between new : Lines) (source x temporaries : ℕ)
    → between ≡ followed_by old (line_of source (Load (item.Temporary temporaries) 0) ∷ [])
    → ((arrays : List ℕ) (word : ℕ) → Does arrays between new (HasNumber word) (WritesPopped (item.Variable x) 0 (to_le_bytes w32 word)))
    → StoresParts k old new (target.Variable x) temporaries
variable_stored k old between new source x temporaries load stores storages scope unset s i word place sound shape inside short =
    let t : Target = target.Variable x in
    let w = taken k.kinds t word in
    does_less k.arrays old new _ _ _ _
    (does_kept k.arrays old new _ _
    (does_both k.arrays old between new _ _ _ _ (Stores scope temporaries (item.Variable x) 0 (to_le_bytes w32 w) false)
    (does_recall k.arrays old between source (item.Temporary temporaries) w (taken_small k.kinds t word short) load) (stores k.arrays w)
    (λ m middle has alone. alone.pushed.areg)
    (λ m middle end has alone writes.
    writes_stores scope temporaries (item.Variable x) 0 (to_le_bytes w32 w) false m middle end
    (alone_leaves scope temporaries (pure w) m middle alone) alone.pushed.error writes.writes)))
    (λ m said. said.1.value)
    (λ m end said after. (
      matches_unflagged k storages scope (unset_but t unset) (stored k.kinds t i word s) end
          (matches_stored k storages scope unset s t i word temporaries false m end place sound shape inside said.0 after.1 after.2 after.0),
      stores_leave scope temporaries t i w false m end after.0,
    ))

pub element_stored : (k : Knowledge) (old between new : Lines) (source a : ℕ) (view : Kind) (e : Expression) (temporaries : ℕ)
    → between ≡ followed_by old (line_of source (Load (item.Temporary temporaries) 0) ∷ [])
    → StoresKept k between new a view (temporaries + 1)
    → StoresParts k old new (target.Element a view e) temporaries
element_stored k old between new source a view e temporaries load stores storages scope unset s i word place sound shape inside short =
    let t : Target = target.Element a view e in
    let seen = target_seen (length k.kinds) storages scope a view e sound in
    let most = place.place.most a (seen_array storages scope a view seen) in
    let bytes = array_of s a in
    let long = size_known k s a shape in
    let within : i < size view bytes = subst (λ n. i < n) (size_is view bytes _ long) inside in
    does_less k.arrays old new _ _ _ _
    (does_kept k.arrays old new _ _
    (does_both k.arrays old between new (λ m. HasConstants m × HasParts k.kinds t temporaries word i m) _ _ _
    (Stores scope temporaries (item.Array a) (scaled view i) (element_bytes view word) false)
    (does_less k.arrays old between _ _ (λ m. HasConstants m × HasParts k.kinds t temporaries word i m) _
    (does_recall k.arrays old between source (item.Temporary temporaries) word short load) (λ m said. said.1.value) (λ m end said after. after))
    (stores bytes i word long (subst (λ n. n ≤ 2048) (sym long) most) within)
    (λ m middle said alone. (
      (λ c h. ap (λ b. word_at b (item.Constant c) 0) alone.blocks ∙ said.0 c h),
      alone.pushed.areg,
      ap (λ b. bytes_at b (item.Temporary (temporaries + 1)) 0 4) alone.blocks ∙ said.1.place,
    ))
    (λ m middle end said alone writes.
    writes_stores scope temporaries (item.Array a) (scaled view i) (element_bytes view word) false m middle end
    (alone_leaves scope temporaries (pure word) m middle alone) alone.pushed.error writes)))
    (λ m said. (said.0.agrees.constants, said.1))
    (λ m end said after. (
      matches_unflagged k storages scope (unset_but t unset) (stored k.kinds t i word s) end
          (matches_stored k storages scope unset s t i word temporaries false m end place sound shape inside said.0 after.1 after.2 after.0),
      stores_leave scope temporaries t i word false m end after.0,
    ))

-- ---- shapes

pub sizes_set : (arrays : List (List ℕ)) (a : ℕ) (bytes : List ℕ) → length bytes ≡ length (slice_index_or arrays a [])
    → map length (slice_set arrays a bytes) ≡ map length arrays
sizes_set [] a bytes e = refl
sizes_set (one ∷ arrays) zero bytes e = ap (λ n. n ∷ map length arrays) e
sizes_set (one ∷ arrays) (suc a) bytes e = ap (λ l. length one ∷ l) (sizes_set arrays a bytes e)

pub stored_shape : (k : Knowledge) (t : Target) (i word : ℕ) (s : Store) → HasShape k s → HasShape k (stored k.kinds t i word s)
stored_shape k (target.Variable x) i word s shape = record { count = slice_length s.values x _ ∙ shape.count; sizes = shape.sizes }
stored_shape k (target.Element a view e) i word s shape = record {
  count = shape.count;
  sizes = sizes_set s.arrays a (with_element view (array_of s a) i word) (with_element-length view (array_of s a) i word) ∙ shape.sizes;
}

pub assigned_shape : (k : Knowledge) (all : List Assignment) (s : Store) → HasShape k s → HasShape k (assigned k.kinds all s)
assigned_shape k [] s shape = shape
assigned_shape k (a ∷ more) s shape =
    let inner = stored_shape k a.target (subscript_of a.target s).word (value_of a.value s).word (assigned k.kinds more s) (assigned_shape k more s shape) in
    record { count = inner.count; sizes = inner.sizes }

pub knows_flagged : (k : Knowledge) (scope : List Entry) (flag : Bool) (s : Store) → KnowsState k scope s → KnowsState k scope (flagged flag s)
knows_flagged k scope flag s knows = record {
  knows = record { names = knows.knows.names; lengths = knows.knows.lengths; count = knows.knows.count; bytes = knows.knows.bytes };
  sizes = knows.sizes;
}

-- ---- one after another

pub kept_then : (scope : List Entry) (temporaries : ℕ) (m middle end : Machine) → LeavesKept scope temporaries m middle
    → LeavesKept scope temporaries middle end → LeavesKept scope temporaries m end
kept_then scope temporaries m middle end one two = record {
  counts = record {
    counts = λ x j there. two.counts.counts x j there ∙ one.counts.counts x j there;
    to_come = two.counts.to_come ∙ one.counts.to_come;
    sent = two.counts.sent ∙ one.counts.sent;
  };
  words = λ n at less. two.words n at less ∙ one.words n at less;
}

pub kept_less : (scope : List Entry) (few many : ℕ) (m end : Machine) → few ≤ many → LeavesKept scope many m end → LeavesKept scope few m end
kept_less scope few many m end h leaves = record { counts = leaves.counts; words = λ n at less. leaves.words n at (omega (arith, h, less)) }

subscript_stays : (t : Target) (n i : ℕ) (m end : Machine) → ((at : ℕ) → end.blocks (item.Temporary n) at ≡ m.blocks (item.Temporary n) at)
    → HasSubscript t n i m → HasSubscript t n i end
subscript_stays (target.Variable x) n i m end same has = tt
subscript_stays (target.Element a view e) n i m end same has = bytes_same end.blocks m.blocks (item.Temporary n) 0 4 same ∙ has

parts_stay : (scope : List Entry) (kinds : List Kind) (t : Target) (temporaries word i : ℕ) (m end : Machine)
    → LeavesKept scope (temporaries + 2) m end → HasParts kinds t temporaries word i m → HasParts kinds t temporaries word i end
parts_stay scope kinds t temporaries word i m end leaves parts =
    let one : temporaries < temporaries + 2 = omega arith in
    let two : temporaries + 1 < temporaries + 2 = omega arith in
    record {
      value = bytes_same end.blocks m.blocks (item.Temporary temporaries) 0 4 (λ at. leaves.words temporaries at one) ∙ parts.value;
      place = subscript_stays t (temporaries + 1) i m end (λ at. leaves.words (temporaries + 1) at two) parts.place;
    }

pub words_none : (k : Knowledge) (code : Lines) (temporaries : ℕ) → AssignsAbove k code code [] temporaries
words_none k code temporaries storages scope unset s place may knows =
    does_less k.arrays code code _ _ _ _ (does_nothing k.arrays code) (λ m said. tt)
    (λ m end said is. subst (λ z. Matches k storages scope (unset_by [] unset) s z × LeavesKept scope temporaries m z) (sym is) (
      matches_fewer k storages scope unset (unset_by [] unset) s m (λ x h. still_set (unset x) false h refl) said,
      record { counts = record { counts = λ x j there. refl; to_come = refl; sent = refl }; words = λ n at less. refl },
    ))

pub both_set : (u a r : Bool) → (u && not (a || r)) ≡ false → ((u && not r) && not a) ≡ false
both_set false a r h = refl
both_set true true true h = refl
both_set true true false h = refl
both_set true false true h = refl
both_set true false false h = h

pub words_more : (k : Knowledge) (old kept_code made new : Lines) (one : Assignment) (rest : List Assignment) (temporaries : ℕ)
    → KeepsParts k old kept_code one temporaries → HasSmallValue k one.value → AssignsAbove k kept_code made rest (temporaries + 2)
    → StoresParts k made new one.target temporaries → AssignsAbove k old new (one ∷ rest) temporaries
words_more k old kept_code made new one rest temporaries keeps small assigns stores storages scope unset s place may knows =
    let known = knows_unset k scope unset s knows.knows in
    let makes : MayMake k storages scope unset one =
    record { sound = and_first _ _ may.sound; assigned = λ x h. or_first _ _ (may.assigned x h) } in
    let others : MayMakeAll k storages scope unset rest =
    record { sound = and_second (is_sound_assignment (length k.kinds) storages scope one) _ may.sound; assigned = λ x h. or_second (sources_read x one) _ (may.assigned x h) } in
    let takes = make_takes k storages scope unset one makes in
    let v = value_of one.value s in
    let i = subscript_of one.target s in
    let f = v.flag || i.flag in
    let inner = assigned k.kinds rest (flagged f s) in
    let state : stored k.kinds one.target i.word v.word inner ≡ assigned k.kinds (one ∷ rest) s =
    ap (stored k.kinds one.target i.word v.word) (assigned_flagged k.kinds rest f s)
    ∙ stored_flagged k.kinds one.target i.word v.word f (assigned k.kinds rest s) in
    let first : Does k.arrays old made (Matches k storages scope unset s)
    (λ m end. Matches k storages scope (unset_by rest unset) inner end × LeavesKept scope temporaries m end
    × HasParts k.kinds one.target temporaries v.word i.word end) =
    does_both k.arrays old kept_code made _ _ _ _ _
    (keeps storages scope unset s place makes knows)
    (assigns storages scope unset (flagged f s) place others (knows_flagged k scope f s knows))
    (λ m middle said after. after.0)
    (λ m middle end said after two. (
      two.0,
      kept_then scope temporaries m middle end after.1 (kept_less scope temporaries (temporaries + 2) middle end (omega arith) two.1),
      parts_stay scope k.kinds one.target temporaries v.word i.word middle end two.1 after.2,
    )) in
    does_both k.arrays old made new _ _ _ _ _ first
    (stores storages scope (unset_by rest unset) inner i.word v.word place takes.sound
    (assigned_shape k rest (flagged f s) (knows_shape k scope (flagged f s) (knows_flagged k scope f s knows)))
    (subscript_inside k storages scope unset s one.target place.place takes.sound known)
    (small storages scope unset s place.place (make_stands k storages scope unset one makes) known))
    (λ m middle said after. (after.0, after.2))
    (λ m middle end said after two. (
      subst (λ z. Matches k storages scope (unset_by (one ∷ rest) unset) z end) state
          (matches_fewer k storages scope (unset_but one.target (unset_by rest unset)) (unset_by (one ∷ rest) unset) _ end
          (λ x h. both_set (unset x) (is_target x one.target) (list_any (λ a. is_target x a.target) rest) h) two.0),
      kept_then scope temporaries m middle end after.1 two.1,
    ))

-- all of them, from the first word on
pub words_assign : (k : Knowledge) (old new : Lines) (all : List Assignment) → AssignsAbove k old new all 0 → Assigns k old new all
words_assign k old new all assigns storages scope unset s place may knows =
    does_less k.arrays old new _ _ _ _
    (assigns storages scope unset s place (record { sound = may.sound; assigned = λ x h. run_reads storages scope unset _ all x may h }) knows)
    (λ m said. said)
    (λ m end said after. (
      matches_fewer k storages scope (unset_by all unset) _ _ end (λ x h. run_sets scope unset _ all x may h) after.0,
      after.1.counts,
    ))
