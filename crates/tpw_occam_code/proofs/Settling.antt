-- The code of assignments that are made one by one.
use Rattle.std.proofs.Common.{◌≡◌, ◌≢◌, ◌⊎◌, inl, inr, ◌+◌, ◌%◌, ◌^◌, ◌≤◌, ◌<◌, [], ◌∷◌, ℕ, zero, suc, List, length, map, Option, Some, None, Bool, false, true, nat_eq, refl, ap, sym, subst, ◌∙◌, arith, w32, ◌≤ℤ◌}
use Rattle.std.specs.Prelude.{slice_index, slice_set, slice_index_or, ◌||◌, ◌&&◌, not, IsTrue, if◌then◌else◌, pos}
use Rattle.std.specs.Int.{to_le_bytes}
use Rattle.std.specs.List.{list_any, list_all}
use Rattle.std.proofs.Math.Bool.{or_assoc}
use Rattle.std.proofs.lemmas.Bool.{eqb-true, eq-eqb, cases_lt, lt-ltb}
use Rattle.std.proofs.lemmas.Int.{ints, to_z_pos}
use Rattle.tp_words.specs.Words.{signed}
use Rattle.tpw_occam_core.specs.declared.arithmetic.Answer.{Answer}
use Rattle.tpw_occam_core.specs.declared.worker.Storage.{Storage}
use Rattle.tpw_occam_core.specs.declared.scope.Entry.{Entry}
use Rattle.tpw_occam_core.specs.declared.kind.Kind.{Kind}
use Rattle.tpw_occam_core.specs.declared.kind.Kind.TheVariants as kind
use Rattle.tpw_occam_core.specs.declared.expression.Expression.{Expression}
use Rattle.tpw_occam_core.specs.declared.expression.Expression.TheVariants.{Constant}
use Rattle.tpw_occam_core.specs.declared.process.Target.{Target}
use Rattle.tpw_occam_core.specs.declared.process.Target.TheVariants as target
use Rattle.tpw_occam_core.specs.declared.process.Assignment.{Assignment}
use Rattle.tpw_occam_core.specs.Arrays.{kept, written, with_element}
use Rattle.tpw_occam_core.specs.Meaning.{Store, value_of, array_of, kind_of, subscript_of, stored, flagged, assigned}
use Rattle.tpw_occam_core.specs.Sound.{is_name, is_sound_target, is_sound_assignment}
use Rattle.tpw_occam_expressions.specs.Ranges.{from_to, Contains}
use Rattle.tpw_occam_expressions.specs.Values.{scaled}
use Rattle.tpw_occam_expressions.specs.Agreement.{Knowledge, fact_at, fact_of_kind, FitsFact, Agrees, LeavesItems, Stays}
use Rattle.tpw_occam_symbolic.specs.declared.items.Item.{Item}
use Rattle.tpw_occam_symbolic.specs.declared.items.Item.TheVariants as item
use Rattle.tpw_occam_symbolic.specs.declared.code.Step.TheVariants.{Store as StoreTo}
use Rattle.tpw_occam_code.specs.declared.order.Waiting.{Waiting}
use Rattle.tpw_occam_code.specs.declared.order.Move.{Move}
use Rattle.tpw_occam_code.specs.declared.order.Move.TheVariants.{Keep, Make}
use Rattle.tpw_occam_symbolic.specs.Code.{Lines, followed_by, line_of}
use Rattle.tpw_occam_symbolic.specs.Blocks.{with_bytes, bytes_at}
use Rattle.tpw_occam_symbolic.specs.Symbolic.{Machine}
use Rattle.tpw_occam_symbolic.specs.Leading.{Does, HasWord}
use Rattle.tpw_occam_expressions.specs.Computing.{MayStand, ComputesTo, reads}
use Rattle.tpw_occam_code.specs.Executing.{sources_read, is_target, IsProcessPlace, KnowsState, Matches, LeavesCounts, Assigns}
use Rattle.tpw_occam_code.specs.Assigning.{element_bytes, taken, taken_value, unset_but, unset_by, HasSmallValue, MayMake, MayMakeAll, LeavesKept, source_of, after_one, MakesOne}
use Rattle.tpw_occam_code.specs.Ordering.{assignment_at, waits, waiting_at, Picks, picked, before, Marks, marked, behind, AreAll, SettleAll, pending_one, pending, HasKept, MakesMoves, MakesMove, KeepsWord, KeepsValue}
use Rattle.tpw_occam_symbolic.proofs.Leading.{does_both, does_less, does_nothing, does_kept}
use Rattle.tpw_occam_expressions.proofs.Computing.{bytes_same}
use Rattle.tpw_occam_expressions.proofs.Keeping.{other_item}
use Rattle.tpw_occam_symbolic.proofs.Sizes.{and_first, and_second}
use Rattle.tpw_occam_expressions.proofs.Standing.{or_first, or_second, suffices_two}
use Rattle.tpw_occam_expressions.proofs.Ranges.{full_contains}
use Rattle.tpw_occam_expressions.proofs.Naming.{slice_same, slice_other, slice_length}
use Rattle.tpw_occam_code.proofs.Reading.{set_beyond, value_flagged, subscript_flagged, stored_flagged, assigned_flagged}
use Rattle.tpw_occam_code.proofs.Storing.{element_written, does_store}
use Rattle.tpw_occam_code.proofs.Matching.{still_set, knows_shape, knows_unset, make_takes, make_stands, word_stored, run_reads, run_sets}
use Rattle.tpw_occam_code.proofs.KeptParts.{stored_shape, matches_left, items_leave, knows_flagged}
use Rattle.tpw_occam_code.proofs.Ordering.{length_stored, picks_assigned, after}
use Rattle.tpw_occam_code.proofs.Knowing.{matches_fewer}

none_some : {c : ℕ} → ◌≡◌ {A = Option ℕ} None (Some c) → ⊥
none_some e = cc

-- ---- what stays known where a target takes a word

byte_contains : (i : ℕ) → i < 256 → Contains (from_to (pos 0) (pos 255)) i
byte_contains i h =
    let is : pos i ≡ signed i = sym (to_z_pos w32 i (omega (arith, h))) in
    record { low = subst (λ z. pos 0 ≤ℤ z) is (omega (arith, ints)); high = subst (λ z. z ≤ℤ pos 255) is (omega (arith, ints, h)) }

pub kept_fits : (view : Kind) (word : ℕ) → word < 2 ^ 32 → FitsFact (fact_of_kind view) (kept view word)
kept_fits kind.Word word h =
    record { small = h; source = full_contains word h; known = full_contains word h; constant = λ c e. absurd (none_some e) }
kept_fits kind.Byte word h =
    let low : word % 256 < 256 = omega arith in
    let small : word % 256 < 2 ^ 32 = omega arith in
    record { small = small; source = byte_contains (word % 256) low; known = full_contains (word % 256) small; constant = λ c e. absurd (none_some e) }

set_small : (bytes : List ℕ) (at byte : ℕ) → byte < 256 → ((i : ℕ) → slice_index bytes i < 256) → (i : ℕ) → slice_index (slice_set bytes at byte) i < 256
set_small bytes at byte h small i = by_place (nat_eq at i) refl
  where
    by_length : at ≡ i → (i < length bytes) ⊎ (length bytes ≤ i) → slice_index (slice_set bytes at byte) i < 256
    by_length e (inl less) = subst (λ n. n < 256) (sym (ap (λ z. slice_index (slice_set bytes z byte) i) e ∙ slice_same bytes i byte 0 less)) h
    by_length e (inr more) = subst (λ n. n < 256) (sym (ap (λ l. slice_index l i) (set_beyond bytes at byte (omega (arith, e, more))))) (small i)

    by_place : (b : Bool) → nat_eq at i ≡ b → slice_index (slice_set bytes at byte) i < 256
    by_place false e = subst (λ n. n < 256) (sym (slice_other bytes at i byte 0 e)) (small i)
    by_place true e = by_length (eqb-true at i e) (cases_lt i (length bytes))

written_small : (bytes : List ℕ) (at : ℕ) (more : List ℕ) → ((j : ℕ) → slice_index more j < 256) → ((i : ℕ) → slice_index bytes i < 256)
    → (i : ℕ) → slice_index (written bytes at more) i < 256
written_small bytes at [] all small i = small i
written_small bytes at (byte ∷ more) all small i =
    written_small (slice_set bytes at byte) (at + 1) more (λ j. all (suc j)) (set_small bytes at byte (all 0) small) i

element_small : (view : Kind) (word j : ℕ) → slice_index (element_bytes view word) j < 256
element_small kind.Word word zero = omega arith
element_small kind.Word word (suc zero) = omega arith
element_small kind.Word word (suc (suc zero)) = omega arith
element_small kind.Word word (suc (suc (suc zero))) = omega arith
element_small kind.Word word (suc (suc (suc (suc j)))) = omega arith
element_small kind.Byte word zero = omega arith
element_small kind.Byte word (suc j) = omega arith

array_small : (arrays : List (List ℕ)) (a b : ℕ) (bytes : List ℕ) → ((i : ℕ) → slice_index bytes i < 256)
    → ((i : ℕ) → slice_index (slice_index_or arrays b []) i < 256) → (i : ℕ) → slice_index (slice_index_or (slice_set arrays a bytes) b []) i < 256
array_small [] a b bytes small others i = others i
array_small (one ∷ arrays) zero zero bytes small others i = small i
array_small (one ∷ arrays) zero (suc b) bytes small others i = others i
array_small (one ∷ arrays) (suc a) zero bytes small others i = others i
array_small (one ∷ arrays) (suc a) (suc b) bytes small others i = array_small arrays a b bytes small others i

pub knows_stored : (k : Knowledge) (storages : List Storage) (scope : List Entry) (t : Target) (i word : ℕ) (s : Store) → IsProcessPlace k storages scope
    → IsTrue (is_sound_target (length k.kinds) storages scope t) → word < 2 ^ 32 → KnowsState k scope s → KnowsState k scope (stored k.kinds t i word s)
knows_stored k storages scope (target.Variable x) i word s place sound small knows =
    let w = kept (kind_of k.kinds x) word in
    let there = place.declared x sound in
    let count = knows.knows.count in
    record {
      knows = record {
        names = λ y in_scope set. by_name w y in_scope (omega (arith, there, count)) (nat_eq x y) refl;
        lengths = knows.knows.lengths;
        count = slice_length s.values x w ∙ count;
        bytes = knows.knows.bytes;
      };
      sizes = knows.sizes;
    }
  where
    by_name : (w y : ℕ) → IsTrue (list_any (is_name y) scope) → x < length s.values → (b : Bool) → nat_eq x y ≡ b
        → FitsFact (fact_at k y) (slice_index (slice_set s.values x (kept (kind_of k.kinds x) word)) y)
    by_name w y in_scope less false e =
        subst (FitsFact (fact_at k y)) (sym (slice_other s.values x y (kept (kind_of k.kinds x) word) 0 e)) (knows.knows.names y in_scope refl)
    by_name w y in_scope less true e =
        subst (λ z. FitsFact (fact_at k z) (slice_index (slice_set s.values x (kept (kind_of k.kinds x) word)) z)) (eqb-true x y e)
        (subst (λ f. FitsFact f (slice_index (slice_set s.values x (kept (kind_of k.kinds x) word)) x)) (sym (place.variables x sound))
        (subst (FitsFact (fact_of_kind (kind_of k.kinds x))) (sym (slice_same s.values x (kept (kind_of k.kinds x) word) 0 less)) (kept_fits (kind_of k.kinds x) word small)))
knows_stored k storages scope (target.Element a view e) i word s place sound small knows =
    let made = with_element view (array_of s a) i word in
    let shape = stored_shape k (target.Element a view e) i word s (knows_shape k scope s knows) in
    let low : (j : ℕ) → slice_index made j < 256 =
    λ j. subst (λ l. slice_index l j < 256) (sym (element_written view (array_of s a) i word))
    (written_small (array_of s a) (scaled view i) (element_bytes view word) (element_small view word) (knows.knows.bytes a) j) in
    record {
      knows = record {
        names = knows.knows.names;
        lengths = λ b there. length_stored k.kinds (target.Element a view e) i word s b ∙ knows.knows.lengths b there;
        count = knows.knows.count;
        bytes = λ b j. array_small s.arrays a b made low (knows.knows.bytes b) j;
      };
      sizes = shape.sizes;
    }

pub counts_then : (scope : List Entry) (m middle end : Machine) → LeavesCounts scope m middle → LeavesCounts scope middle end → LeavesCounts scope m end
counts_then scope m middle end one two = record {
  counts = λ x j there. two.counts x j there ∙ one.counts x j there;
  to_come = two.to_come ∙ one.to_come;
  sent = two.sent ∙ one.sent;
}

-- ---- one that is made

swap_or : (a b c : Bool) → (a || (b || c)) ≡ (b || (a || c))
swap_or true true c = refl
swap_or true false c = refl
swap_or false true c = refl
swap_or false false c = refl

swap_and : (a b c : Bool) → (a && (b && c)) ≡ (b && (a && c))
swap_and true true c = refl
swap_and true false c = refl
swap_and false true c = refl
swap_and false false c = refl

picks_any : (P : Assignment → Bool) (all : List Assignment) (words : ℕ → ℕ) (one : Waiting) (waiting left : List Waiting) → Picks all one waiting left
    → list_any P (pending all words waiting) ≡ (P (pending_one all words one) || list_any P (pending all words left))
picks_any P _ words _ _ _ (picked all one left precede) = refl
picks_any P _ words _ _ _ (before all one first rest left precedes others) =
    ap (λ b. P (pending_one all words first) || b) (picks_any P all words one rest left others)
    ∙ swap_or (P (pending_one all words first)) (P (pending_one all words one)) (list_any P (pending all words left))

picks_all : (P : Assignment → Bool) (all : List Assignment) (words : ℕ → ℕ) (one : Waiting) (waiting left : List Waiting) → Picks all one waiting left
    → list_all P (pending all words waiting) ≡ (P (pending_one all words one) && list_all P (pending all words left))
picks_all P _ words _ _ _ (picked all one left precede) = refl
picks_all P _ words _ _ _ (before all one first rest left precedes others) =
    ap (λ b. P (pending_one all words first) && b) (picks_all P all words one rest left others)
    ∙ swap_and (P (pending_one all words first)) (P (pending_one all words one)) (list_all P (pending all words left))

and_both : (a b : Bool) → a ≡ true → b ≡ true → (a && b) ≡ true
and_both true b h g = g
and_both false b h g = h

or_none : (a b : Bool) → a ≡ false → b ≡ false → (a || b) ≡ false
or_none false b h g = g
or_none true b h g = h

-- what is kept of one that waits
abbrev pub IsHeld : List Kind → List Assignment → (ℕ → ℕ) → (temporaries : ℕ) → Waiting → Machine → Type 0
IsHeld kinds all words temporaries w m = w.is_kept ≡ true → (w.number < temporaries)
    × HasWord (item.Temporary w.number) (taken kinds (assignment_at all w.number).target (words w.number)) m

picks_kept : (kinds : List Kind) (all : List Assignment) (words : ℕ → ℕ) (temporaries : ℕ) (one : Waiting) (waiting left : List Waiting) (m : Machine)
    → Picks all one waiting left → HasKept kinds all words temporaries waiting m
    → IsHeld kinds all words temporaries one m × HasKept kinds all words temporaries left m
picks_kept kinds _ words temporaries _ _ _ m (picked all one left precede) has = (has.0, has.1)
picks_kept kinds _ words temporaries _ _ _ m (before all one first rest left precedes others) has =
    let more = picks_kept kinds all words temporaries one rest left m others has.1 in
    (more.0, (has.0, more.1))

kept_stays : (kinds : List Kind) (all : List Assignment) (words : ℕ → ℕ) (scope : List Entry) (temporaries : ℕ) (waiting : List Waiting) (m end : Machine)
    → LeavesKept scope temporaries m end → HasKept kinds all words temporaries waiting m → HasKept kinds all words temporaries waiting end
kept_stays kinds all words scope temporaries [] m end leaves has = tt
kept_stays kinds all words scope temporaries (w ∷ waiting) m end leaves has = (
  (λ e. let held = has.0 e in (
    held.0,
    bytes_same end.blocks m.blocks (item.Temporary w.number) 0 4 (λ at. leaves.words w.number at held.0) ∙ held.1,
  )),
  kept_stays kinds all words scope temporaries waiting m end leaves has.1,
)

one_state : (kinds : List Kind) (a : Assignment) (is_kept : Bool) (word : ℕ) (s : Store)
    → after_one kinds a (source_of a is_kept word s) s
    ≡ assigned kinds (record { target = a.target; value = if is_kept then Constant word else a.value } ∷ []) s
one_state kinds a true word s = refl
one_state kinds a false word s = refl

source_small : (is_kept : Bool) (e : Expression) (word : ℕ) (s : Store) → (is_kept ≡ false → (value_of e s).word < 2 ^ 32) → word < 2 ^ 32
    → (value_of (if is_kept then Constant word else e) s).word < 2 ^ 32
source_small true e word s small short = short
source_small false e word s small short = small refl

both_set : (u a r : Bool) → (u && not (a || r)) ≡ false → ((u && not a) && not r) ≡ false
both_set false a r h = refl
both_set true true r h = refl
both_set true false r h = h

first_unset : (u b : Bool) → (u && not b) ≡ true → u ≡ true
first_unset true b h = refl
first_unset false b h = h

pub move_makes : (k : Knowledge) (old new : Lines) (all : List Assignment) (i : ℕ) (is_kept : Bool) (temporaries : ℕ)
    → (is_kept ≡ false → HasSmallValue k (assignment_at all i).value)
    → MakesOne k old new (assignment_at all i) i is_kept temporaries → MakesMove k old new all (Make i is_kept) temporaries
move_makes k old new all i is_kept temporaries has_small makes made more rest waiting words settles small storages scope unset s place may knows =
    let left = settles.0 in
    let picks : Picks all (waits i is_kept) waiting left = settles.1.0 in
    let one = assignment_at all i in
    let a = pending_one all words (waits i is_kept) in
    let known = knows_unset k scope unset s knows.knows in
    let sound = sym (picks_all (is_sound_assignment (length k.kinds) storages scope) all words (waits i is_kept) waiting left picks) ∙ may.sound in
    let reads_none : (x : ℕ) → unset x ≡ true → (sources_read x a || list_any (sources_read x) (pending all words left)) ≡ false =
    λ x h. sym (picks_any (sources_read x) all words (waits i is_kept) waiting left picks) ∙ may.assigned x h in
    let one_may : MayMake k storages scope unset a = record { sound = and_first _ _ sound; assigned = λ x h. or_first _ _ (reads_none x h) } in
    let takes = make_takes k storages scope unset a one_may in
    let stands : (is_kept ≡ false → MayStand k storages scope unset one.value) =
    λ none. subst (λ b. MayStand k storages scope unset (if b then Constant (words i) else one.value)) none (make_stands k storages scope unset a one_may) in
    let j = subscript_of a.target s in
    let v = value_of a.value s in
    let t = assigned k.kinds (a ∷ []) s in
    let word_small : v.word < 2 ^ 32 =
    source_small is_kept one.value (words i) s (λ none. has_small none storages scope unset s place.place (stands none) known) (small i) in
    let next_unset = unset_but a.target unset in
    let left_may : MayMakeAll k storages scope next_unset (pending all words left) = record {
      sound = and_second (is_sound_assignment (length k.kinds) storages scope a) _ sound;
      assigned = λ x h. or_second (sources_read x a) _ (reads_none x (first_unset (unset x) (is_target x a.target) h));
    } in
    let next_knows : KnowsState k scope t =
    knows_flagged k scope (v.flag || j.flag) (stored k.kinds a.target j.word v.word s)
    (knows_stored k storages scope a.target j.word v.word s place takes.sound word_small knows) in
    does_both k.arrays old new made _ _ _ _ _
    (does_less k.arrays old new _ _ (λ m. Matches k storages scope unset s m × HasKept k.kinds all words temporaries waiting m)
    (λ m end. Matches k storages scope next_unset t end × HasKept k.kinds all words temporaries left end × LeavesCounts scope m end)
    (makes storages scope unset s (words i) place takes stands knows (small i))
    (λ m said. (said.0, λ e. ((picks_kept k.kinds all words temporaries (waits i is_kept) waiting left m picks said.1).0 e).1))
    (λ m end said after. (
      subst (λ z. Matches k storages scope next_unset z end) (one_state k.kinds one is_kept (words i) s) after.0,
      kept_stays k.kinds all words scope temporaries left m end after.1
          (picks_kept k.kinds all words temporaries (waits i is_kept) waiting left m picks said.1).1,
      after.1.counts,
    )))
    (rest left words settles.1.1 small storages scope next_unset t place left_may next_knows)
    (λ m middle said after. (after.0, after.1))
    (λ m middle end said after two. (
      subst (λ z. Matches k storages scope (unset_by (pending all words waiting) unset) z end)
          (sym (picks_assigned k.kinds all words (waits i is_kept) waiting left s picks))
          (matches_fewer k storages scope (unset_by (pending all words left) next_unset) (unset_by (pending all words waiting) unset) _ end
          (λ x h. both_set (unset x) (is_target x a.target) (list_any (λ b. is_target x b.target) (pending all words left))
          (sym (ap (λ b. unset x && not b) (picks_any (λ b. is_target x b.target) all words (waits i is_kept) waiting left picks)) ∙ h)) two.0),
      counts_then scope m middle end after.2 two.1,
    ))

-- ---- one whose value is kept

pub value_keeps : (k : Knowledge) (old between new : Lines) (source : ℕ) (a : Assignment) (i temporaries : ℕ)
    → ComputesTo k old between a.value (taken_value k.kinds a) 3 temporaries
    → new ≡ followed_by between (line_of source (StoreTo (item.Temporary i) 0) ∷ [])
    → KeepsValue k old new a i temporaries
value_keeps k old between new source a i temporaries computes save storages scope unset s place makes knows =
    let known = knows_unset k scope unset s knows.knows in
    let v = value_of a.value s in
    let w = taken k.kinds a.target v.word in
    let kept : Does k.arrays old new (Agrees k scope unset s)
    (λ m end. LeavesItems scope 0 m end × (end.error ≡ (m.error || v.flag)) × HasWord (item.Temporary i) w end
    × ((t at : ℕ) → t < temporaries → t ≢ i → end.blocks (item.Temporary t) at ≡ m.blocks (item.Temporary t) at)) =
    does_both k.arrays old between new _ _ _ _ _
    (computes storages scope unset s place.place (make_stands k storages scope unset a makes) (suffices_two k 3 a.value (omega arith) (omega arith)) known)
    (does_store k.arrays between new source (item.Temporary i) 0 w save)
    (λ m middle agrees after. after.0.areg)
    (λ m middle end agrees after popped.
    let writes = popped.writes in (
      record {
        blocks = λ other at stays. ap (λ b. b other at) writes.blocks ∙ stays_written scope i w other at middle stays
            ∙ after.1.blocks other at (stays_more scope temporaries other stays);
        to_come = writes.to_come ∙ after.1.to_come;
        sent = writes.sent ∙ after.1.sent;
        traced = writes.traced ∙ after.1.traced;
      },
      writes.error ∙ after.0.error,
      ap (λ b. bytes_at b (item.Temporary i) 0 4) writes.blocks ∙ word_stored (item.Temporary i) w middle.blocks,
      (λ t at less differs. ap (λ b. b (item.Temporary t) at) writes.blocks
          ∙ other_item (item.Temporary i) (item.Temporary t) 0 at (to_le_bytes w32 w) middle.blocks (apart i t differs)
          ∙ after.1.blocks (item.Temporary t) at less),
    )) in
    does_less k.arrays old new _ _ _ _ (does_kept k.arrays old new _ _ kept)
    (λ m said. said.agrees)
    (λ m end said after. (
      matches_left k storages scope unset s 0 v.flag m end said after.0.0 after.0.1 after.1 after.2,
      record { counts = (items_leave scope 0 m end after.0.0).counts; held = after.0.2; others = after.0.3 },
    ))
  where
    apart : (i t : ℕ) → t ≢ i → nat_eq i t ≡ false
    apart i t differs = by_test (nat_eq i t) refl
      where
        by_test : (b : Bool) → nat_eq i t ≡ b → nat_eq i t ≡ false
        by_test false e = e
        by_test true e = absurd (differs (sym (eqb-true i t e)))

    stays_written : (scope : List Entry) (i w : ℕ) (other : Item) (at : ℕ) (m : Machine) → Stays scope 0 other
        → with_bytes (item.Temporary i) 0 (to_le_bytes w32 w) m.blocks other at ≡ m.blocks other at
    stays_written scope i w (item.Variable x) at m stays = other_item (item.Temporary i) (item.Variable x) 0 at (to_le_bytes w32 w) m.blocks refl
    stays_written scope i w (item.Temporary t) at m stays = absurd (omega (arith, stays))
    stays_written scope i w (item.Constant c) at m stays = other_item (item.Temporary i) (item.Constant c) 0 at (to_le_bytes w32 w) m.blocks refl
    stays_written scope i w (item.Array a) at m stays = other_item (item.Temporary i) (item.Array a) 0 at (to_le_bytes w32 w) m.blocks refl
    stays_written scope i w item.Zeros at m stays = other_item (item.Temporary i) item.Zeros 0 at (to_le_bytes w32 w) m.blocks refl

    stays_more : (scope : List Entry) (temporaries : ℕ) (other : Item) → Stays scope 0 other → Stays scope temporaries other
    stays_more scope temporaries (item.Variable x) stays = stays
    stays_more scope temporaries (item.Temporary t) stays = absurd (omega (arith, stays))
    stays_more scope temporaries (item.Constant c) stays = tt
    stays_more scope temporaries (item.Array a) stays = tt
    stays_more scope temporaries item.Zeros stays = tt

-- a word for one more number
abbrev pub with_kept : ℕ → ℕ → (ℕ → ℕ) → ℕ → ℕ
with_kept i word words n = if nat_eq n i then word else words n

kept_same : (i word : ℕ) (words : ℕ → ℕ) → with_kept i word words i ≡ word
kept_same i word words = rw (eq-eqb i i refl) refl

kept_other : (i word : ℕ) (words : ℕ → ℕ) (n : ℕ) → n ≢ i → with_kept i word words n ≡ words n
kept_other i word words n differs = by_test (nat_eq n i) refl
  where
    by_test : (b : Bool) → nat_eq n i ≡ b → with_kept i word words n ≡ words n
    by_test true e = absurd (differs (eqb-true n i e))
    by_test false e = rw e refl

kept_short : (i word : ℕ) (words : ℕ → ℕ) → word < 2 ^ 32 → ((n : ℕ) → words n < 2 ^ 32) → (n : ℕ) → with_kept i word words n < 2 ^ 32
kept_short i word words h small n = by_test (nat_eq n i)
  where
    by_test : (b : Bool) → (if b then word else words n) < 2 ^ 32
    by_test true = h
    by_test false = small n

other_pending : (all : List Assignment) (words : ℕ → ℕ) (i word : ℕ) (w : Waiting) → w.number ≢ i
    → pending_one all (with_kept i word words) w ≡ pending_one all words w
other_pending all words i word w differs =
    ap (λ n. record {
      target = (assignment_at all w.number).target;
      value = if w.is_kept then Constant n else (assignment_at all w.number).value;
    }) (kept_other i word words w.number differs)

others_pending : (all : List Assignment) (words : ℕ → ℕ) (i word : ℕ) (rest : List Waiting)
    → ((at : ℕ) → at < length rest → (waiting_at rest at).number ≢ i) → pending all (with_kept i word words) rest ≡ pending all words rest
others_pending all words i word [] differ = refl
others_pending all words i word (w ∷ rest) differ =
    ap (λ c. c ∷ pending all (with_kept i word words) rest) (other_pending all words i word w (differ 0 (omega arith)))
    ∙ ap (λ l. pending_one all words w ∷ l) (others_pending all words i word rest (λ at less. differ (suc at) (omega (arith, less))))

-- the assignment of the one that is marked, before and after
abbrev pub kept_one : List Assignment → ℕ → ℕ → Assignment
kept_one all i word = record { target = (assignment_at all i).target; value = Constant word }

kept_is : (all : List Assignment) (words : ℕ → ℕ) (i word : ℕ) → pending_one all (with_kept i word words) (waits i true) ≡ kept_one all i word
kept_is all words i word = ap (λ n. kept_one all i n) (kept_same i word words)

-- what holds of each of those that are pending holds once one is marked
marks_all : (P : Assignment → Bool) (all : List Assignment) (words : ℕ → ℕ) (i word : ℕ) (waiting left : List Waiting)
    → (P (assignment_at all i) ≡ true → P (kept_one all i word) ≡ true) → Marks i waiting left
    → list_all P (pending all words waiting) ≡ true → list_all P (pending all (with_kept i word words) left) ≡ true
marks_all P all words _ word _ _ one (marked i rest differ) h =
    and_both _ _ (ap P (kept_is all words i word) ∙ one (and_first _ _ h))
    (ap (list_all P) (others_pending all words i word rest differ) ∙ and_second (P (assignment_at all i)) _ h)
marks_all P all words _ word _ _ one (behind i first rest left differs more) h =
    and_both _ _ (ap P (other_pending all words i word first differs) ∙ and_first _ _ h)
    (marks_all P all words i word rest left one more (and_second (P (pending_one all words first)) _ h))

marks_none : (P : Assignment → Bool) (all : List Assignment) (words : ℕ → ℕ) (i word : ℕ) (waiting left : List Waiting)
    → (P (assignment_at all i) ≡ false → P (kept_one all i word) ≡ false) → Marks i waiting left
    → list_any P (pending all words waiting) ≡ false → list_any P (pending all (with_kept i word words) left) ≡ false
marks_none P all words _ word _ _ one (marked i rest differ) h =
    or_none _ _ (ap P (kept_is all words i word) ∙ one (or_first _ _ h))
    (ap (list_any P) (others_pending all words i word rest differ) ∙ or_second (P (assignment_at all i)) _ h)
marks_none P all words _ word _ _ one (behind i first rest left differs more) h =
    or_none _ _ (ap P (other_pending all words i word first differs) ∙ or_first _ _ h)
    (marks_none P all words i word rest left one more (or_second (P (pending_one all words first)) _ h))

-- .. and of the one that is marked
marks_one : (P : Assignment → Bool) (all : List Assignment) (words : ℕ → ℕ) (i : ℕ) (waiting left : List Waiting)
    → Marks i waiting left → list_all P (pending all words waiting) ≡ true → P (assignment_at all i) ≡ true
marks_one P all words _ _ _ (marked i rest differ) h = and_first _ _ h
marks_one P all words _ _ _ (behind i first rest left differs more) h =
    marks_one P all words i rest left more (and_second (P (pending_one all words first)) _ h)

marks_one_none : (P : Assignment → Bool) (all : List Assignment) (words : ℕ → ℕ) (i : ℕ) (waiting left : List Waiting)
    → Marks i waiting left → list_any P (pending all words waiting) ≡ false → P (assignment_at all i) ≡ false
marks_one_none P all words _ _ _ (marked i rest differ) h = or_first _ _ h
marks_one_none P all words _ _ _ (behind i first rest left differs more) h =
    marks_one_none P all words i rest left more (or_second (P (pending_one all words first)) _ h)

marks_same : (P : Assignment → Bool) (all : List Assignment) (words : ℕ → ℕ) (i word : ℕ) (waiting left : List Waiting)
    → P (kept_one all i word) ≡ P (assignment_at all i) → Marks i waiting left
    → list_any P (pending all (with_kept i word words) left) ≡ list_any P (pending all words waiting)
marks_same P all words _ word _ _ one (marked i rest differ) =
    ap (λ b. b || list_any P (pending all (with_kept i word words) rest)) (ap P (kept_is all words i word) ∙ one)
    ∙ ap (λ l. P (assignment_at all i) || list_any P l) (others_pending all words i word rest differ)
marks_same P all words _ word _ _ one (behind i first rest left differs more) =
    ap (λ c. P c || list_any P (pending all (with_kept i word words) left)) (other_pending all words i word first differs)
    ∙ ap (λ b. P (pending_one all words first) || b) (marks_same P all words i word rest left one more)

flagged_twice : (f g : Bool) (s : Store) → flagged g (flagged f s) ≡ flagged (f || g) s
flagged_twice f g s = ap (λ h. record s { flag = h }) (or_assoc s.flag f g)

-- where a value is kept, it is as if it were evaluated later
marks_assigned : (kinds : List Kind) (all : List Assignment) (words : ℕ → ℕ) (i : ℕ) (waiting left : List Waiting) (s : Store) → Marks i waiting left
    → assigned kinds (pending all (with_kept i (value_of (assignment_at all i).value s).word words) left) (flagged (value_of (assignment_at all i).value s).flag s)
    ≡ assigned kinds (pending all words waiting) s
marks_assigned kinds all words _ _ _ s (marked i rest differ) =
    let one = assignment_at all i in
    let v = value_of one.value s in
    let j = subscript_of one.target s in
    let t = flagged v.flag s in
    let r = assigned kinds (pending all words rest) s in
    ap (λ c. assigned kinds (c ∷ pending all (with_kept i v.word words) rest) t) (kept_is all words i v.word)
    ∙ ap (λ l. assigned kinds (kept_one all i v.word ∷ l) t) (others_pending all words i v.word rest differ)
    ∙ ap (λ (y : Answer). after kinds one.target y.word v.word y.flag (assigned kinds (pending all words rest) t)) (subscript_flagged one.target v.flag s)
    ∙ ap (after kinds one.target j.word v.word j.flag) (assigned_flagged kinds (pending all words rest) v.flag s)
    ∙ ap (flagged j.flag) (stored_flagged kinds one.target j.word v.word v.flag r)
    ∙ flagged_twice v.flag j.flag (stored kinds one.target j.word v.word r)
marks_assigned kinds all words _ _ _ s (behind i first rest left differs more) =
    let v = value_of (assignment_at all i).value s in
    let c = pending_one all words first in
    let t = flagged v.flag s in
    let r = assigned kinds (pending all (with_kept i v.word words) left) t in
    ap (λ d. assigned kinds (d ∷ pending all (with_kept i v.word words) left) t) (other_pending all words i v.word first differs)
    ∙ ap (λ (y : Answer). after kinds c.target (subscript_of c.target t).word y.word (y.flag || (subscript_of c.target t).flag) r) (value_flagged c.value v.flag s)
    ∙ ap (λ (y : Answer). after kinds c.target y.word (value_of c.value s).word ((value_of c.value s).flag || y.flag) r) (subscript_flagged c.target v.flag s)
    ∙ ap (after kinds c.target (subscript_of c.target s).word (value_of c.value s).word ((value_of c.value s).flag || (subscript_of c.target s).flag))
    (marks_assigned kinds all words i rest left s more)

other_held : (kinds : List Kind) (all : List Assignment) (words : ℕ → ℕ) (temporaries i v : ℕ) (w : Waiting) (m end : Machine)
    → w.number ≢ i → ((t at : ℕ) → t < temporaries → t ≢ i → end.blocks (item.Temporary t) at ≡ m.blocks (item.Temporary t) at)
    → IsHeld kinds all words temporaries w m → IsHeld kinds all (with_kept i v words) temporaries w end
other_held kinds all words temporaries i v w m end differs others has e =
    let held = has e in (
      held.0,
      subst (λ n. HasWord (item.Temporary w.number) (taken kinds (assignment_at all w.number).target n) end) (sym (kept_other i v words w.number differs))
          (bytes_same end.blocks m.blocks (item.Temporary w.number) 0 4 (λ at. others w.number at held.0 differs) ∙ held.1),
    )

others_held : (kinds : List Kind) (all : List Assignment) (words : ℕ → ℕ) (temporaries i v : ℕ) (rest : List Waiting) (m end : Machine)
    → ((at : ℕ) → at < length rest → (waiting_at rest at).number ≢ i)
    → ((t at : ℕ) → t < temporaries → t ≢ i → end.blocks (item.Temporary t) at ≡ m.blocks (item.Temporary t) at)
    → HasKept kinds all words temporaries rest m → HasKept kinds all (with_kept i v words) temporaries rest end
others_held kinds all words temporaries i v [] m end differ others has = tt
others_held kinds all words temporaries i v (w ∷ rest) m end differ others has = (
  other_held kinds all words temporaries i v w m end (differ 0 (omega arith)) others has.0,
  others_held kinds all words temporaries i v rest m end (λ at less. differ (suc at) (omega (arith, less))) others has.1,
)

marks_kept : (scope : List Entry) (kinds : List Kind) (all : List Assignment) (words : ℕ → ℕ) (temporaries i v : ℕ) (waiting left : List Waiting) (m end : Machine)
    → i < temporaries → KeepsWord scope temporaries i (taken kinds (assignment_at all i).target v) m end → Marks i waiting left
    → HasKept kinds all words temporaries waiting m → HasKept kinds all (with_kept i v words) temporaries left end
marks_kept scope kinds all words temporaries _ v _ _ m end there keeps (marked i rest differ) has = (
  (λ e. (there, subst (λ n. HasWord (item.Temporary i) (taken kinds (assignment_at all i).target n) end) (sym (kept_same i v words)) keeps.held)),
  others_held kinds all words temporaries i v rest m end differ keeps.others has.1,
)
marks_kept scope kinds all words temporaries _ v _ _ m end there keeps (behind i first rest left differs more) has = (
  other_held kinds all words temporaries i v first m end differs keeps.others has.0,
  marks_kept scope kinds all words temporaries i v rest left m end there keeps more has.1,
)

pub move_keeps : (k : Knowledge) (old new : Lines) (all : List Assignment) (i temporaries : ℕ) → i < temporaries
    → HasSmallValue k (assignment_at all i).value → KeepsValue k old new (assignment_at all i) i temporaries
    → MakesMove k old new all (Keep i) temporaries
move_keeps k old new all i temporaries there has_small keeps made more rest waiting words settles small storages scope unset s place may knows =
    let left = settles.0 in
    let marks : Marks i waiting left = settles.1.0 in
    let one = assignment_at all i in
    let known = knows_unset k scope unset s knows.knows in
    let v = value_of one.value s in
    let count = length k.kinds in
    let one_may : MayMake k storages scope unset one = record {
      sound = marks_one (is_sound_assignment count storages scope) all words i waiting left marks may.sound;
      assigned = λ x h. marks_one_none (sources_read x) all words i waiting left marks (may.assigned x h);
    } in
    let words_then = with_kept i v.word words in
    let word_small : v.word < 2 ^ 32 = has_small storages scope unset s place.place (make_stands k storages scope unset one one_may) known in
    let left_may : MayMakeAll k storages scope unset (pending all words_then left) = record {
      sound = marks_all (is_sound_assignment count storages scope) all words i v.word waiting left
          (λ h. and_both _ _ (and_first _ _ h) (lt-ltb v.word (2 ^ 32) word_small)) marks may.sound;
      assigned = λ x h. marks_none (sources_read x) all words i v.word waiting left
          (λ e. or_second (reads one.value x) _ e) marks (may.assigned x h);
    } in
    does_both k.arrays old new made _ _ _ _ _
    (does_less k.arrays old new _ _ (λ m. Matches k storages scope unset s m × HasKept k.kinds all words temporaries waiting m)
    (λ m end. Matches k storages scope unset (flagged v.flag s) end × HasKept k.kinds all words_then temporaries left end × LeavesCounts scope m end)
    (keeps storages scope unset s place one_may knows) (λ m said. said.0)
    (λ m end said after. (
      after.0,
      marks_kept scope k.kinds all words temporaries i v.word waiting left m end there after.1 marks said.1,
      after.1.counts,
    )))
    (rest left words_then settles.1.1 (kept_short i v.word words word_small small) storages scope unset (flagged v.flag s) place left_may
    (knows_flagged k scope v.flag s knows))
    (λ m middle said after. (after.0, after.1))
    (λ m middle end said after two. (
      subst (λ z. Matches k storages scope (unset_by (pending all words waiting) unset) z end)
          (marks_assigned k.kinds all words i waiting left s marks)
          (matches_fewer k storages scope (unset_by (pending all words_then left) unset) (unset_by (pending all words waiting) unset) _ end
          (λ x h. ap (λ b. unset x && not b) (marks_same (λ b. is_target x b.target) all words i v.word waiting left refl marks) ∙ h) two.0),
      counts_then scope m middle end after.2 two.1,
    ))

-- ---- all moves

pub moves_none : (k : Knowledge) (code : Lines) (all : List Assignment) (temporaries : ℕ) → MakesMoves k code code all [] temporaries
moves_none k code all temporaries waiting words settles small storages scope unset s place may knows =
    does_less k.arrays code code _ _ _ _ (does_nothing k.arrays code) (λ m said. tt)
    (λ m end said is. subst
    (λ z. Matches k storages scope (unset_by (pending all words waiting) unset) (assigned k.kinds (pending all words waiting) s) z × LeavesCounts scope m z) (sym is) (
      subst (λ w. Matches k storages scope (unset_by (pending all words w) unset) (assigned k.kinds (pending all words w) s) m) (sym settles)
          (matches_fewer k storages scope unset (unset_by [] unset) s m (λ x h. still_set (unset x) false h refl) said.0),
      record { counts = λ x j there. refl; to_come = refl; sent = refl },
    ))

pending_from : (f : Waiting → Assignment) (waiting : List Waiting) (all : List Assignment) → length waiting ≡ length all
    → ((i : ℕ) → i < length all → f (waiting_at waiting i) ≡ assignment_at all i) → map f waiting ≡ all
pending_from f [] [] long same = refl
pending_from f [] (a ∷ all) long same = absurd (omega (arith, long))
pending_from f (w ∷ waiting) [] long same = absurd (omega (arith, long))
pending_from f (w ∷ waiting) (a ∷ all) long same =
    ap (λ c. c ∷ map f waiting) (same 0 (omega arith))
    ∙ ap (λ l. a ∷ l) (pending_from f waiting all (omega (arith, long)) (λ i less. same (suc i) (omega (arith, less))))

none_kept : (kinds : List Kind) (all : List Assignment) (words : ℕ → ℕ) (temporaries : ℕ) (waiting : List Waiting) (m : Machine)
    → ((i : ℕ) → i < length waiting → (waiting_at waiting i).is_kept ≡ false) → HasKept kinds all words temporaries waiting m
none_kept kinds all words temporaries [] m none = tt
none_kept kinds all words temporaries (w ∷ waiting) m none = (
  (λ e. absurd (true_false (sym e ∙ none 0 (omega arith)))),
  none_kept kinds all words temporaries waiting m (λ i less. none (suc i) (omega (arith, less))),
)
  where
    true_false : ◌≡◌ {A = Bool} true false → ⊥
    true_false e = cc

-- once all are made, one by one, it is as if they were made together
pub moves_assign : (k : Knowledge) (old new : Lines) (all : List Assignment) (moves : List Move) (temporaries : ℕ) → SettleAll all moves
    → MakesMoves k old new all moves temporaries → Assigns k old new all
moves_assign k old new all moves temporaries settle makes storages scope unset s place may knows =
    let waiting = settle.0 in
    let are : AreAll (length all) waiting = settle.1.0 in
    let words : ℕ → ℕ = λ n. 0 in
    let same : pending all words waiting ≡ all =
    pending_from (pending_one all words) waiting all are.long (λ i less. ap (pending_one all words) (are.each i less)) in
    let all_may : MayMakeAll k storages scope unset all = record { sound = may.sound; assigned = λ x h. run_reads storages scope unset _ all x may h } in
    does_less k.arrays old new _ _ _ _
    (subst (λ l. Does k.arrays old new (λ m. Matches k storages scope unset s m × HasKept k.kinds all words temporaries waiting m)
    (λ m end. Matches k storages scope (unset_by l unset) (assigned k.kinds l s) end × LeavesCounts scope m end)) same
    (makes waiting words settle.1.1 (λ n. omega arith) storages scope unset s place (subst (λ l. MayMakeAll k storages scope unset l) (sym same) all_may) knows))
    (λ m said. (
      said,
      none_kept k.kinds all words temporaries waiting m (λ i less.
          let long = are.long in ap (λ (w : Waiting). w.is_kept) (are.each i (omega (arith, less, long)))),
    ))
    (λ m end said after. (
      matches_fewer k storages scope (unset_by all unset) _ _ end (λ x h. run_sets scope unset _ all x may h) after.0,
      after.1,
    ))
