-- The code of one assignment.
use Rattle.std.proofs.Common.{◌≡◌, ◌+◌, ◌*◌, ◌%◌, ◌^◌, ◌≤◌, ◌<◌, [], ◌∷◌, ℕ, List, length, Bool, false, refl, ap, sym, subst, ◌∙◌, arith, w32}
use Rattle.std.specs.Prelude.{slice_index, ◌||◌, IsTrue}
use Rattle.std.specs.Int.{to_le_bytes}
use Rattle.std.proofs.Math.Bool.{or-false}
use Rattle.tp_decode.specs.declared.instr.Instr.TheVariants.{Rev}
use Rattle.tpw_occam_core.specs.declared.arithmetic.Answer.{Answer}
use Rattle.tpw_occam_core.specs.declared.worker.Storage.{Storage}
use Rattle.tpw_occam_core.specs.declared.scope.Entry.{Entry}
use Rattle.tpw_occam_core.specs.declared.kind.Kind.{Kind}
use Rattle.tpw_occam_core.specs.declared.kind.Kind.TheVariants as kind
use Rattle.tpw_occam_core.specs.declared.expression.Expression.{Expression}
use Rattle.tpw_occam_core.specs.declared.process.Target.TheVariants as target
use Rattle.tpw_occam_core.specs.declared.process.Assignment.{Assignment}
use Rattle.tpw_occam_core.specs.Arithmetic.{answer, pure, subscript}
use Rattle.tpw_occam_core.specs.Arrays.{size}
use Rattle.tpw_occam_core.specs.Meaning.{Store, value_of, bind, array_of, subscript_of}
use Rattle.tpw_occam_core.specs.Sound.{is_seen}
use Rattle.tpw_occam_expressions.specs.declared.expressions.Value.{Value}
use Rattle.tpw_occam_symbolic.specs.declared.items.Item.TheVariants as item
use Rattle.tpw_occam_symbolic.specs.declared.code.Step.TheVariants.{Plain, Load, Store as StoreTo}
use Rattle.tpw_occam_symbolic.specs.Code.{Lines, followed_by, line_of}
use Rattle.tpw_occam_symbolic.specs.Symbolic.{effect, performed}
use Rattle.tpw_occam_symbolic.specs.Leading.{Does, HasWord}
use Rattle.tpw_occam_expressions.specs.Values.{Holds, HasNumber, HasAddress, Pushes, Answers, scaled}
use Rattle.tpw_occam_expressions.specs.Agreement.{Knowledge, elements_of, Agrees, LeavesItems}
use Rattle.tpw_occam_expressions.specs.Computing.{MayStand, Computes, ComputesTo, IsKnown, IsKnownOf, IsFixed, IsOffset, subscript_value}
use Rattle.tpw_occam_code.specs.Assigning.{taken, taken_value, element_bytes, Writes, WritesPopped, IsToStore, Stores, HasTwo, ComputesAbove, ComputesOver, MayTake, StoresIn}
use Rattle.tpw_occam_symbolic.proofs.Leading.{does_both, does_less, does_step}
use Rattle.tpw_occam_expressions.proofs.Elements.{whole_words}
use Rattle.tpw_occam_expressions.proofs.Computing.{agrees_after, leaves_then, bytes_same}
use Rattle.tpw_occam_expressions.proofs.Keeping.{does_save, does_recall}
use Rattle.tpw_occam_expressions.proofs.Indexing.{subscript_below, subscript_word_below}
use Rattle.tpw_occam_symbolic.proofs.Sizes.{and_first, and_second}
use Rattle.tpw_occam_expressions.proofs.Standing.{suffices_two}
use Rattle.tpw_occam_expressions.proofs.Constructs.{computes_then, goes_by, constant_value, seen_array, seen_size, size_is, elements_most, offset_facts}
use Rattle.tpw_occam_expressions.proofs.TwoOperands.{leaves_less}
use Rattle.tpw_occam_code.proofs.Storing.{leaves_self, writes_stores}

-- ---- values

-- a value that is taken as it is
pub whole_computes : (k : Knowledge) (old new : Lines) (a : Assignment) (registers temporaries : ℕ)
    → ((word : ℕ) → taken k.kinds a.target word ≡ word) → Computes k old new a.value registers temporaries
    → ComputesTo k old new a.value (taken_value k.kinds a) registers temporaries
whole_computes k old new a registers temporaries whole computes storages scope unset s place stands suffices knows =
    let v = value_of a.value s in
    let made : v ≡ taken_value k.kinds a s = ap (λ w. answer w v.flag) (sym (whole v.word)) in
    does_less k.arrays old new _ _ _ _ (computes storages scope unset s place stands suffices knows) (λ m said. said)
    (λ m end said after. subst (λ x. Pushes registers x m end × LeavesItems scope temporaries m end) made after)

-- .. and one of which a BYTE takes the low bits
pub byte_computes : (k : Knowledge) (old between new : Lines) (a : Assignment) (value : Value) (registers temporaries : ℕ)
    → ((word : ℕ) → taken k.kinds a.target word ≡ word % 256)
    → Computes k old between a.value registers temporaries → IsKnown k a.value value
    → ((i : ℕ) → Holds value i → Answers between new 2 i (pure (i % 256))) → 2 ≤ registers
    → ComputesTo k old new a.value (taken_value k.kinds a) registers temporaries
byte_computes k old between new a value registers temporaries low computes known makes two storages scope unset s place stands suffices knows =
    let v = value_of a.value s in
    let made : bind v (λ w. pure (w % 256)) ≡ taken_value k.kinds a s =
    ap (answer (v.word % 256)) (or-false v.flag) ∙ ap (λ w. answer w v.flag) (sym (low v.word)) in
    does_less k.arrays old new _ _ _ _
    (computes_then k old between new a.value a.value (value_of a.value) (λ w. pure (w % 256)) registers 2 temporaries computes
    (λ storages scope unset s place stands suffices knows. (
      stands,
      suffices,
      goes_by k scope unset s between new registers 2 (value_of a.value s) (pure ((value_of a.value s).word % 256)) two
          (makes (value_of a.value s).word (known storages scope unset s place stands knows)),
    )) storages scope unset s place stands suffices knows)
    (λ m said. said)
    (λ m end said after. subst (λ x. Pushes registers x m end × LeavesItems scope temporaries m end) made after)

-- ---- subscripts above a word

pub over_two : (k : Knowledge) (old new : Lines) (e : Expression) (made : Store → Answer) (registers temporaries : ℕ) → registers ≡ 2
    → ComputesTo k old new e made registers temporaries → ComputesOver k old new e made temporaries
over_two k old new e made registers temporaries two computes storages scope unset s word place stands knows small =
    does_less k.arrays old new _ _ _ _
    (computes storages scope unset s place stands (suffices_two k registers e (omega (arith, two)) (omega (arith, two))) knows)
    (λ m said. said.0)
    (λ m end said after. record {
      areg = after.0.areg;
      breg = after.0.breg (omega (arith, two)) ∙ said.1;
      error = after.0.error;
      leaves = after.1;
    })

pub over_kept : (k : Knowledge) (old saved new : Lines) (source : ℕ) (e : Expression) (made : Store → Answer) (temporaries : ℕ)
    → saved ≡ followed_by old (line_of source (StoreTo (item.Temporary temporaries) 0) ∷ [])
    → ComputesAbove k saved new e made temporaries → ComputesOver k old new e made temporaries
over_kept k old saved new source e made temporaries save above storages scope unset s word place stands knows small =
    does_both k.arrays old saved new _ _ _ _ _
    (does_less k.arrays old saved _ _ (λ m. Agrees k scope unset s m × HasNumber word m) _
    (does_save k.arrays scope old saved source temporaries word save) (λ m said. said.1) (λ m end said after. after))
    (above storages scope unset s word place stands knows small)
    (λ m middle said saves. (agrees_after k scope unset temporaries s m middle said.0 saves.leaves, saves.held))
    (λ m middle end said saves two. record {
      areg = two.areg;
      breg = two.breg;
      error = two.error ∙ ap (λ e. e || (made s).flag) saves.error;
      leaves = leaves_then scope temporaries m middle end saves.leaves two.leaves;
    })

-- a number that is pushed, and under it a word that was kept
does_under : (k : Knowledge) (scope : List Entry) (unset : ℕ → Bool) (s : Store) (old first_code recalled turned : Lines) (source temporaries word : ℕ) (one : Answer)
    → word < 2 ^ 32
    → Does k.arrays old first_code (Agrees k scope unset s) (λ m end. Pushes 3 one m end × LeavesItems scope (temporaries + 1) m end)
    → recalled ≡ followed_by first_code (line_of source (Load (item.Temporary temporaries) 0) ∷ [])
    → turned ≡ followed_by recalled (line_of source (Plain Rev) ∷ [])
    → Does k.arrays old turned (λ m. Agrees k scope unset s m × HasWord (item.Temporary temporaries) word m)
    (HasTwo scope temporaries word one.word one.flag)
unfolding performed effect
does_under k scope unset s old first_code recalled turned source temporaries word one short first recall rev =
    let next : temporaries < temporaries + 1 = omega arith in
    let pushed : Does k.arrays old recalled (λ m. Agrees k scope unset s m × HasWord (item.Temporary temporaries) word m)
    (HasTwo scope temporaries one.word word one.flag) =
    does_both k.arrays old first_code recalled _ _ _ _ _
    (does_less k.arrays old first_code _ _ (λ m. Agrees k scope unset s m × HasWord (item.Temporary temporaries) word m) _ first
    (λ m said. said.0) (λ m end said after. after))
    (does_recall k.arrays first_code recalled source (item.Temporary temporaries) word short recall)
    (λ m middle said after. bytes_same middle.blocks m.blocks (item.Temporary temporaries) 0 4 (λ at. after.1.blocks (item.Temporary temporaries) at next) ∙ said.1)
    (λ m middle end said after alone. record {
      areg = alone.pushed.areg;
      breg = alone.pushed.breg (omega arith) ∙ after.0.areg;
      error = alone.pushed.error ∙ or-false middle.error ∙ after.0.error;
      leaves = leaves_then scope temporaries m middle end (leaves_less scope temporaries m middle after.1)
          (record { blocks = λ i at stays. ap (λ b. b i at) alone.blocks; to_come = alone.to_come; sent = alone.sent; traced = alone.traced });
    }) in
    does_both k.arrays old recalled turned _ _ _ _ _ pushed
    (does_step k.arrays recalled turned source (Plain Rev) (λ m. Unit {0}) (λ m. record m { areg = m.breg; breg = m.areg }) rev
    (λ m said served. refl) (λ m. refl) (λ m. refl) (λ m. refl))
    (λ m middle said two. tt)
    (λ m middle end said two at. record {
      areg = ap (λ x. x.areg) at ∙ two.breg;
      breg = ap (λ x. x.breg) at ∙ two.areg;
      error = ap (λ x. x.error) at ∙ two.error;
      leaves = record {
        blocks = λ i place stays. ap (λ x. x.blocks i place) at ∙ two.leaves.blocks i place stays;
        to_come = ap (λ x. x.to_come) at ∙ two.leaves.to_come;
        sent = ap (λ x. x.sent) at ∙ two.leaves.sent;
        traced = ap (λ x. x.traced) at ∙ two.leaves.traced;
      };
    })

pub above_computes : (k : Knowledge) (old first_code recalled turned new : Lines) (source : ℕ) (e : Expression) (value : Value) (size temporaries : ℕ)
    → ComputesTo k old first_code e (subscript_value e size) 3 (temporaries + 1) → IsKnownOf k e (subscript_value e size) value
    → recalled ≡ followed_by first_code (line_of source (Load (item.Temporary temporaries) 0) ∷ [])
    → turned ≡ followed_by recalled (line_of source (Plain Rev) ∷ [])
    → ((i : ℕ) → Holds value i → 0 < size → size ≤ 2 ^ 31 → Answers turned new 2 i (subscript size i))
    → 0 < size → size ≤ 2 ^ 31 → ComputesAbove k old new e (subscript_value e size) temporaries
above_computes k old first_code recalled turned new source e value size temporaries computes known recall rev settles positive small storages scope unset s word place stands knows short =
    let one = subscript_value e size s in
    let below : one.word < size = subscript_word_below size (value_of e s).word positive in
    let again : subscript size one.word ≡ pure one.word = subscript_below size one.word below in
    let settled : Answers turned new 2 one.word (pure one.word) =
    subst (λ x. Answers turned new 2 one.word x) again (settles one.word (known storages scope unset s place stands knows) positive small) in
    does_both k.arrays old turned new _ _ _ _ _
    (does_under k scope unset s old first_code recalled turned source temporaries word one short
    (computes storages scope unset s place stands (suffices_two k 3 e (omega arith) (omega arith)) knows) recall rev)
    (settled k.arrays)
    (λ m middle said two. ((agrees_after k scope unset temporaries s m middle said.0 two.leaves).constants, two.areg))
    (λ m middle end said two after. record {
      areg = after.areg;
      breg = after.breg (omega arith) ∙ two.breg;
      error = after.error ∙ or-false middle.error ∙ two.error;
      leaves = record {
        blocks = λ i at stays. ap (λ b. b i at) after.blocks ∙ two.leaves.blocks i at stays;
        to_come = after.to_come ∙ two.leaves.to_come;
        sent = after.sent ∙ two.leaves.sent;
        traced = after.traced ∙ two.leaves.traced;
      };
    })

-- ---- targets

pub variable_stores : (k : Knowledge) (old new : Lines) (x temporaries : ℕ)
    → ((arrays : List ℕ) (word : ℕ) → Does arrays old new (HasNumber word) (WritesPopped (item.Variable x) 0 (to_le_bytes w32 word)))
    → StoresIn k old new (target.Variable x) temporaries
variable_stores k old new x temporaries stores storages scope unset s word place takes knows small =
    does_less k.arrays old new _ _ _ _ (stores k.arrays word) (λ m said. said.1)
    (λ m end said after. writes_stores scope temporaries (item.Variable x) 0 (to_le_bytes w32 word) false m m end
    (leaves_self scope temporaries m) (sym (or-false m.error)) after.writes)

pub take_element : (k : Knowledge) (storages : List Storage) (scope : List Entry) (unset : ℕ → Bool) (a : ℕ) (view : Kind) (e : Expression)
    → MayTake k storages scope unset (target.Element a view e) → IsTrue (is_seen storages scope a view) × MayStand k storages scope unset e
take_element k storages scope unset a view e takes =
    (and_first _ _ (and_first _ _ takes.sound), record { sound = and_second _ _ takes.sound; assigned = takes.assigned })

pub fixed_stores : (k : Knowledge) (old new : Lines) (a : ℕ) (e : Expression) (c temporaries : ℕ) → IsFixed k a kind.Word e c
    → ((arrays : List ℕ) (value : ℕ) → Does arrays old new (HasNumber value) (WritesPopped (item.Array a) (4 * c) (to_le_bytes w32 value)))
    → StoresIn k old new (target.Element a kind.Word e) temporaries
fixed_stores k old new a e c temporaries fixed stores storages scope unset s word place takes knows small =
    let parts = take_element k storages scope unset a kind.Word e takes in
    let there = seen_array storages scope a kind.Word parts.0 in
    let bytes = array_of s a in
    let value : value_of e s ≡ pure c = constant_value k storages scope unset s e c parts.1 knows fixed.constant in
    let most = place.place.most a there in
    let within : c < size kind.Word bytes =
    subst (λ n. c < n) (size_is kind.Word bytes _ (knows.lengths a there)) (fixed.below (omega (arith, most))) in
    let is : pure c ≡ subscript_of (target.Element a kind.Word e) s =
    sym (subscript_below (size kind.Word bytes) c within) ∙ ap (λ v. bind v (subscript (size kind.Word bytes))) (sym value) in
    does_less k.arrays old new _ _ _ _ (stores k.arrays word) (λ m said. said.1)
    (λ m end said after. subst (λ (i : Answer). Stores scope temporaries (item.Array a) (4 * i.word) (to_le_bytes w32 word) i.flag m end) is
    (writes_stores scope temporaries (item.Array a) (4 * c) (to_le_bytes w32 word) false m m end
    (leaves_self scope temporaries m) (sym (or-false m.error)) after.writes))

pub offset_stores : (k : Knowledge) (old new : Lines) (a : ℕ) (e : Expression) (x c temporaries : ℕ) → IsOffset k a kind.Word e x c
    → ((arrays bytes : List ℕ) (v word : ℕ) → v < 2 ^ 32 → length bytes ≡ slice_index arrays a → v + c < size kind.Word bytes → length bytes ≤ 2048
    → Does arrays old new (λ m. HasWord (item.Variable x) v m × HasNumber word m) (Writes (item.Array a) (4 * (v + c)) (to_le_bytes w32 word)))
    → StoresIn k old new (target.Element a kind.Word e) temporaries
offset_stores k old new a e x c temporaries offset stores storages scope unset s word place takes knows small =
    let parts = take_element k storages scope unset a kind.Word e takes in
    let there = seen_array storages scope a kind.Word parts.0 in
    let bytes = array_of s a in
    let most = place.place.most a there in
    let long = knows.lengths a there in
    let facts = offset_facts k storages scope unset s a kind.Word e x c offset most long parts.1 knows in
    let v = slice_index s.values x in
    let is : pure (v + c) ≡ subscript_of (target.Element a kind.Word e) s =
    sym (subscript_below (size kind.Word bytes) (v + c) facts.below) ∙ ap (λ t. bind t (subscript (size kind.Word bytes))) (sym facts.value) in
    does_less k.arrays old new _ _ _ _ (stores k.arrays bytes v word facts.small long facts.below (subst (λ n. n ≤ 2048) (sym long) most))
    (λ m said. (said.0.words x facts.there facts.set offset.offset.word, said.1))
    (λ m end said after. subst (λ (i : Answer). Stores scope temporaries (item.Array a) (4 * i.word) (to_le_bytes w32 word) i.flag m end) is
    (writes_stores scope temporaries (item.Array a) (4 * (v + c)) (to_le_bytes w32 word) false m m end
    (leaves_self scope temporaries m) (sym (or-false m.error)) after))

pub element_stores : (k : Knowledge) (old between at_element new : Lines) (a : ℕ) (view : Kind) (e : Expression) (elements temporaries : ℕ)
    → (slice_index k.arrays a < 2 ^ 32 → elements ≡ elements_of view (slice_index k.arrays a))
    → (0 < elements → elements ≤ 2 ^ 31 → ComputesOver k old between e (subscript_value e elements) temporaries)
    → ((arrays : List ℕ) (i : ℕ) → Does arrays between at_element (HasNumber i) (HasAddress arrays a (scaled view i)))
    → ((arrays bytes : List ℕ) (b i word : ℕ) → i < size view bytes
    → Does arrays at_element new (IsToStore view b i word (length bytes)) (Writes (item.Array b) (scaled view i) (element_bytes view word)))
    → StoresIn k old new (target.Element a view e) temporaries
element_stores k old between at_element new a view e elements temporaries counted computes indexes stores storages scope unset s word place takes knows small =
    let parts = take_element k storages scope unset a view e takes in
    let there = seen_array storages scope a view parts.0 in
    let bytes = array_of s a in
    let most = place.place.most a there in
    let long = knows.lengths a there in
    let count : elements ≡ elements_of view (slice_index k.arrays a) = counted (omega (arith, most)) in
    let sized : elements ≡ size view bytes = count ∙ size_is view bytes _ long in
    let least : 0 < elements = subst (λ n. 0 < n) (sym count) (seen_size k storages scope a view place.place parts.0) in
    let short : elements ≤ 2 ^ 31 = subst (λ n. n ≤ 2 ^ 31) (sym count) (elements_most view _ most) in
    let one = subscript_value e elements s in
    let below : one.word < size view bytes = subst (λ n. one.word < n) sized (subscript_word_below elements (value_of e s).word least) in
    let is : one ≡ subscript_of (target.Element a view e) s = ap (λ n. bind (value_of e s) (subscript n)) sized in
    let pushed : Does k.arrays old at_element (λ m. Agrees k scope unset s m × HasNumber word m)
    (λ m end. LeavesItems scope temporaries m end × (end.error ≡ (m.error || one.flag)) × IsToStore view a one.word word (length bytes) end) =
    does_both k.arrays old between at_element _ _ _ _ _ (computes least short storages scope unset s word place.place parts.1 knows small)
    (indexes k.arrays one.word)
    (λ m middle said two. two.areg)
    (λ m middle end said two at. (
      record {
        blocks = λ i place stays. ap (λ b. b i place) at.blocks ∙ two.leaves.blocks i place stays;
        to_come = at.to_come ∙ two.leaves.to_come;
        sent = at.sent ∙ two.leaves.sent;
        traced = at.traced ∙ two.leaves.traced;
      },
      at.error ∙ two.error,
      record { areg = at.areg; breg = at.breg ∙ two.breg; room = whole_words _ _ _ long at.room },
    )) in
    does_both k.arrays old at_element new _ _ _ _ _ pushed (stores k.arrays bytes a one.word word below)
    (λ m middle said after. after.2)
    (λ m middle end said after writes. subst (λ (i : Answer). Stores scope temporaries (item.Array a) (scaled view i.word) (element_bytes view word) i.flag m end) is
    (writes_stores scope temporaries (item.Array a) (scaled view one.word) (element_bytes view word) one.flag m middle end after.0 after.1 writes))
