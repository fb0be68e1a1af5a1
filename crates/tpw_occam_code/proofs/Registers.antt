-- Assignments of which all values are in registers at once.
use Rattle.std.proofs.Common.{◌≡◌, ◌-◌, ◌*◌, ◌≤◌, ◌<◌, [], ◌∷◌, ℕ, List, length, Bool, false, refl, ap, sym, subst, ◌∙◌, arith, w32}
use Rattle.std.specs.Prelude.{◌||◌}
use Rattle.std.specs.Int.{to_le_bytes}
use Rattle.std.specs.List.{list_any}
use Rattle.std.proofs.Math.Bool.{or-false}
use Rattle.tpw_occam_core.specs.declared.arithmetic.Answer.{Answer}
use Rattle.tpw_occam_core.specs.declared.worker.Storage.{Storage}
use Rattle.tpw_occam_core.specs.declared.scope.Entry.{Entry}
use Rattle.tpw_occam_core.specs.declared.kind.Kind.TheVariants.{Word}
use Rattle.tpw_occam_core.specs.declared.expression.Expression.{Expression}
use Rattle.tpw_occam_core.specs.declared.process.Target.{Target}
use Rattle.tpw_occam_core.specs.declared.process.Target.TheVariants as target
use Rattle.tpw_occam_core.specs.declared.process.Assignment.{Assignment}
use Rattle.tpw_occam_core.specs.Arithmetic.{pure, subscript}
use Rattle.tpw_occam_core.specs.Arrays.{size, kept}
use Rattle.tpw_occam_core.specs.Meaning.{Store, value_of, bind, array_of, kind_of, subscript_of, stored, flagged, assigned}
use Rattle.tpw_occam_core.specs.Sound.{is_sound_assignment}
use Rattle.tpw_occam_symbolic.specs.declared.items.Item.TheVariants as item
use Rattle.tpw_occam_symbolic.specs.Code.{Lines}
use Rattle.tpw_occam_symbolic.specs.Symbolic.{Machine, number}
use Rattle.tpw_occam_symbolic.specs.Leading.{Does}
use Rattle.tpw_occam_expressions.specs.Values.{HasNumber}
use Rattle.tpw_occam_expressions.specs.Agreement.{Knowledge, Knows}
use Rattle.tpw_occam_expressions.specs.Computing.{IsPlace, Computes, IsFixed}
use Rattle.tpw_occam_code.specs.Executing.{sources_read, is_target, Matches, LeavesCounts, Assigns}
use Rattle.tpw_occam_code.specs.Assigning.{IsInside, taken, unset_but, unset_by, Stores, WritesPopped, MayTake, MayMake, MayMakeAll, HasSmallValue}
use Rattle.tpw_occam_code.specs.Registers.{IsWordTarget, FitAll, KeepsRegisters, StoresWord, AssignsBelow}
use Rattle.tpw_occam_symbolic.proofs.Leading.{does_both, does_less, does_nothing, does_kept}
use Rattle.tpw_occam_expressions.proofs.Indexing.{subscript_below}
use Rattle.tpw_occam_symbolic.proofs.Sizes.{and_first, and_second}
use Rattle.tpw_occam_expressions.proofs.Standing.{or_first, or_second}
use Rattle.tpw_occam_expressions.proofs.Constructs.{constant_value, seen_array, size_is}
use Rattle.tpw_occam_code.proofs.Storing.{leaves_self, writes_stores}
use Rattle.tpw_occam_code.proofs.Assigning.{take_element}
use Rattle.tpw_occam_code.proofs.Reading.{assigned_flagged, stored_flagged}
use Rattle.tpw_occam_code.proofs.Matching.{still_set, matches_stored, stores_leave, knows_unset, knows_shape, make_takes, make_stands, run_reads, run_sets}
use Rattle.tpw_occam_code.proofs.KeptParts.{both_set, matches_left, matches_unflagged, items_leave, knows_flagged, assigned_shape}
use Rattle.tpw_occam_code.proofs.Settling.{counts_then}
use Rattle.tpw_occam_code.proofs.Knowing.{matches_fewer}

-- ---- a word that is stored

fixed_is : (k : Knowledge) (storages : List Storage) (scope : List Entry) (unset : ℕ → Bool) (s : Store) (a : ℕ) (e : Expression) (c : ℕ)
    → IsPlace k storages scope → MayTake k storages scope unset (target.Element a Word e) → Knows k scope unset s → IsFixed k a Word e c
    → subscript_of (target.Element a Word e) s ≡ pure c
fixed_is k storages scope unset s a e c place takes knows fixed =
    let parts = take_element k storages scope unset a Word e takes in
    let there = seen_array storages scope a Word parts.0 in
    let bytes = array_of s a in
    let value : value_of e s ≡ pure c = constant_value k storages scope unset s e c parts.1 knows fixed.constant in
    let most = place.most a there in
    let within : c < size Word bytes = subst (λ n. c < n) (size_is Word bytes _ (knows.lengths a there)) (fixed.below (omega (arith, most))) in
    ap (λ v. bind v (subscript (size Word bytes))) value ∙ subscript_below (size Word bytes) c within

-- a subscript that is a constant sets no flag
word_flag : (k : Knowledge) (storages : List Storage) (scope : List Entry) (unset : ℕ → Bool) (s : Store) (t : Target)
    → IsPlace k storages scope → MayTake k storages scope unset t → Knows k scope unset s → IsWordTarget k t → (subscript_of t s).flag ≡ false
word_flag k storages scope unset s (target.Variable x) place takes knows is = refl
word_flag k storages scope unset s (target.Element a view e) place takes knows is =
    subst (λ v. (subscript_of (target.Element a v e) s).flag ≡ false) (sym is.0)
    (ap (λ (i : Answer). i.flag) (fixed_is k storages scope unset s a e is.1.0 place
    (subst (λ v. MayTake k storages scope unset (target.Element a v e)) is.0 takes) knows
    (subst (λ v. IsFixed k a v e is.1.0) is.0 is.1.1)))

pub variable_word : (k : Knowledge) (old new : Lines) (x : ℕ) → kind_of k.kinds x ≡ Word
    → ((arrays : List ℕ) (word : ℕ) → Does arrays old new (HasNumber word) (WritesPopped (item.Variable x) 0 (to_le_bytes w32 word)))
    → StoresWord k old new (target.Variable x)
variable_word k old new x is stores storages scope unset before s first word place takes knows shape small =
    let t : Target = target.Variable x in
    let same : word ≡ taken k.kinds t word = sym (ap (λ b. kept b word) is) in
    does_less k.arrays old new _ _ _ _ (does_kept k.arrays old new _ _ (stores k.arrays word))
    (λ m said. said.1)
    (λ m end said after.
    let stored_in : Stores scope 0 (item.Variable x) 0 (to_le_bytes w32 (taken k.kinds t word)) false m end =
    subst (λ w. Stores scope 0 (item.Variable x) 0 (to_le_bytes w32 w) false m end) same
    (writes_stores scope 0 (item.Variable x) 0 (to_le_bytes w32 word) false m m end (leaves_self scope 0 m) (sym (or-false m.error)) after.0.writes) in (
      matches_unflagged k storages scope (unset_but t unset) (stored k.kinds t 0 word s) end
          (matches_stored k storages scope unset s t 0 word 0 false m end place takes.sound shape tt said.0 after.1 after.2 stored_in),
      (stores_leave scope 0 t 0 (taken k.kinds t word) false m end stored_in).counts,
      record { areg = after.0.areg; breg = after.0.breg },
    ))

pub fixed_word_stored : (k : Knowledge) (old new : Lines) (a : ℕ) (e : Expression) (c : ℕ) → IsFixed k a Word e c
    → ((arrays : List ℕ) (value : ℕ) → Does arrays old new (HasNumber value) (WritesPopped (item.Array a) (4 * c) (to_le_bytes w32 value)))
    → StoresWord k old new (target.Element a Word e)
fixed_word_stored k old new a e c fixed stores storages scope unset before s first word place takes knows shape small =
    let t : Target = target.Element a Word e in
    let is : subscript_of t first ≡ pure c =
    fixed_is k storages scope before first a e c place.place takes (knows_unset k scope before first knows.knows) fixed in
    let parts = take_element k storages scope before a Word e takes in
    let most = place.place.most a (seen_array storages scope a Word parts.0) in
    let inside : IsInside k t c = fixed.below (omega (arith, most)) in
    does_less k.arrays old new _ _ _ _ (does_kept k.arrays old new _ _ (stores k.arrays word))
    (λ m said. said.1)
    (λ m end said after.
    let stored_in : Stores scope 0 (item.Array a) (4 * c) (to_le_bytes w32 word) false m end =
    writes_stores scope 0 (item.Array a) (4 * c) (to_le_bytes w32 word) false m m end (leaves_self scope 0 m) (sym (or-false m.error)) after.0.writes in (
      subst (λ (i : Answer). Matches k storages scope (unset_but t unset) (stored k.kinds t i.word word s) end) (sym is)
          (matches_unflagged k storages scope (unset_but t unset) (stored k.kinds t c word s) end
          (matches_stored k storages scope unset s t c word 0 false m end place takes.sound shape inside said.0 after.1 after.2 stored_in)),
      (stores_leave scope 0 t c word false m end stored_in).counts,
      record { areg = after.0.areg; breg = after.0.breg },
    ))

-- ---- all values, and then the stores

pub registers_none : (k : Knowledge) (code : Lines) (registers : ℕ) → AssignsBelow k code code [] registers
registers_none k code registers storages scope unset s place may knows =
    does_less k.arrays code code _ _ _ _ (does_nothing k.arrays code) (λ m said. tt)
    (λ m end said is. subst
    (λ z. Matches k storages scope (unset_by [] unset) s z × LeavesCounts scope m z × KeepsRegisters registers m z) (sym is) (
      matches_fewer k storages scope unset (unset_by [] unset) s m (λ x h. still_set (unset x) false h refl) said,
      record { counts = λ x j there. refl; to_come = refl; sent = refl },
      record { areg = λ h. refl; breg = λ h. refl; creg = λ h. refl },
    ))

-- a value is pushed
pub record Pushed (registers word : ℕ) (m end : Machine) : Type 0 where
  pub areg : end.areg ≡ number word
  pub breg : registers ≤ 2 → end.breg ≡ m.areg
  pub creg : registers ≤ 1 → end.creg ≡ m.breg

pub registers_more : (k : Knowledge) (old pushed made new : Lines) (one : Assignment) (rest : List Assignment) (registers temporaries : ℕ)
    → registers ≤ 3 → FitAll k (one ∷ rest) registers
    → Computes k old pushed one.value registers temporaries → HasSmallValue k one.value → AssignsBelow k pushed made rest (registers - 1)
    → StoresWord k made new one.target → AssignsBelow k old new (one ∷ rest) registers
registers_more k old pushed made new one rest registers temporaries most fit computes has_small assigns stores storages scope unset s place may knows =
    let known = knows_unset k scope unset s knows.knows in
    let least = fit.0 in
    let makes : MayMake k storages scope unset one =
    record { sound = and_first _ _ may.sound; assigned = λ x h. or_first _ _ (may.assigned x h) } in
    let others : MayMakeAll k storages scope unset rest =
    record { sound = and_second (is_sound_assignment (length k.kinds) storages scope one) _ may.sound; assigned = λ x h. or_second (sources_read x one) _ (may.assigned x h) } in
    let takes = make_takes k storages scope unset one makes in
    let stands = make_stands k storages scope unset one makes in
    let v = value_of one.value s in
    let i = subscript_of one.target s in
    let t = flagged v.flag s in
    let next = knows_flagged k scope v.flag s knows in
    let inner = assigned k.kinds rest t in
    let none = word_flag k storages scope unset s one.target place.place takes known fit.2 in
    let state : stored k.kinds one.target i.word v.word inner ≡ assigned k.kinds (one ∷ rest) s =
    ap (stored k.kinds one.target i.word v.word) (assigned_flagged k.kinds rest v.flag s)
    ∙ stored_flagged k.kinds one.target i.word v.word v.flag (assigned k.kinds rest s)
    ∙ ap (λ f. flagged f (stored k.kinds one.target i.word v.word (assigned k.kinds rest s))) (sym (or-false v.flag) ∙ ap (λ g. v.flag || g) (sym none)) in
    let first : Does k.arrays old pushed (Matches k storages scope unset s)
    (λ m end. Matches k storages scope unset t end × LeavesCounts scope m end × Pushed registers v.word m end) =
    does_less k.arrays old pushed _ _ _ _
    (does_kept k.arrays old pushed _ _
    (computes storages scope unset s place.place stands (record { least = least; most = most; simple = fit.1 }) known))
    (λ m said. said.agrees)
    (λ m end said after. (
      matches_left k storages scope unset s temporaries v.flag m end said after.0.1 after.0.0.error after.1 after.2,
      (items_leave scope temporaries m end after.0.1).counts,
      record { areg = after.0.0.areg; breg = after.0.0.breg; creg = after.0.0.creg },
    )) in
    let both : Does k.arrays old made (Matches k storages scope unset s)
    (λ m end. Matches k storages scope (unset_by rest unset) inner end × LeavesCounts scope m end × Pushed registers v.word m end) =
    does_both k.arrays old pushed made _ _ _ _ _ first
    (assigns storages scope unset t place others next)
    (λ m middle said after. after.0)
    (λ m middle end said after two. (
      two.0,
      counts_then scope m middle end after.1 two.1,
      record {
        areg = two.2.areg (omega (arith, most)) ∙ after.2.areg;
        breg = λ h. two.2.breg (omega (arith, h)) ∙ after.2.breg h;
        creg = λ h. two.2.creg (omega (arith, h)) ∙ after.2.creg h;
      },
    )) in
    does_both k.arrays old made new _ _ _ _ _ both
    (stores storages scope (unset_by rest unset) unset inner s v.word place takes knows
    (assigned_shape k rest t (knows_shape k scope t next)) (has_small storages scope unset s place.place stands known))
    (λ m middle said after. (after.0, after.2.areg))
    (λ m middle end said after two. (
      subst (λ z. Matches k storages scope (unset_by (one ∷ rest) unset) z end) state
          (matches_fewer k storages scope (unset_but one.target (unset_by rest unset)) (unset_by (one ∷ rest) unset) _ end
          (λ x h. both_set (unset x) (is_target x one.target) (list_any (λ a. is_target x a.target) rest) h) two.0),
      counts_then scope m middle end after.1 two.1,
      record {
        areg = λ h. two.2.areg ∙ after.2.breg h;
        breg = λ h. two.2.breg ∙ after.2.creg h;
        creg = λ h. absurd (omega (arith, least, h));
      },
    ))

pub registers_assign : (k : Knowledge) (old new : Lines) (all : List Assignment) (registers : ℕ) → AssignsBelow k old new all registers → Assigns k old new all
registers_assign k old new all registers assigns storages scope unset s place may knows =
    does_less k.arrays old new _ _ _ _
    (assigns storages scope unset s place (record { sound = may.sound; assigned = λ x h. run_reads storages scope unset _ all x may h }) knows)
    (λ m said. said)
    (λ m end said after. (
      matches_fewer k storages scope (unset_by all unset) _ _ end (λ x h. run_sets scope unset _ all x may h) after.0,
      after.1,
    ))
