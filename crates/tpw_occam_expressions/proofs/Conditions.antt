-- The code of NOT, AND and OR.
use Rattle.std.proofs.Common.{◌≡◌, ◌⊎◌, inl, inr, ◌+◌, ◌^◌, ◌≤◌, ◌<◌, [], ◌∷◌, ◌++◌, ℕ, zero, suc, List, length, Option, Some, None, Bool, false, true, nat_eq, refl, ap, sym, subst, ◌∙◌, arith, append_assoc, length-append}
use Rattle.std.specs.Prelude.{slice_get, ◌||◌, ◌==◌, nat_lt, IsTrue, pos, int_lt}
use Rattle.std.specs.Option.{option_map_or}
use Rattle.std.specs.Ordering.{int_eq}
use Rattle.std.proofs.Math.Bool.{or_assoc, or-false}
use Rattle.std.proofs.lemmas.Bool.{cases_lt}
use Rattle.std.proofs.lemmas.Bool.Decides.{nat_tests}
use Rattle.tp_words.specs.Words.{signed}
use Rattle.tp_decode.specs.declared.instr.Instr.TheVariants.{Eqc}
use Rattle.tp_words.specs.Numbers.{truth}
use Rattle.tpw_occam_core.specs.declared.arithmetic.Answer.{Answer}
use Rattle.tpw_occam_core.specs.declared.worker.Storage.{Storage}
use Rattle.tpw_occam_core.specs.declared.scope.Entry.{Entry}
use Rattle.tpw_occam_core.specs.declared.expression.Operator.{Operator}
use Rattle.tpw_occam_core.specs.declared.expression.Operator.TheVariants.{Greater}
use Rattle.tpw_occam_core.specs.declared.expression.Expression.{Expression}
use Rattle.tpw_occam_core.specs.declared.expression.Expression.TheVariants.{Binary', Not', And', Or'}
use Rattle.tpw_occam_core.specs.Arithmetic.{answer, pure, applied}
use Rattle.tpw_occam_core.specs.Meaning.{Store, bind, value_of, both, either}
use Rattle.tpw_occam_symbolic.specs.declared.code.Step.TheVariants.{Plain, CjTo}
use Rattle.tpw_occam_symbolic.specs.declared.code.CodeLine.{CodeLine}
use Rattle.tpw_occam_expressions.specs.declared.expressions.Value.{Value}
use Rattle.tpw_occam_symbolic.specs.Code.{Lines, none_at, followed_by, joined, line_of, place_behind}
use Rattle.tpw_occam_symbolic.specs.Symbolic.{Machine, nowhere, onward, effect, performed, at_place, number, pop, set_areg}
use Rattle.tpw_occam_symbolic.specs.Leading.{Does, IsBefore, Arrives, HasLines}
use Rattle.tpw_occam_expressions.specs.Values.{Holds, HasNumber, Pushes, Answers}
use Rattle.tpw_occam_expressions.specs.Agreement.{Knowledge, constant_in, Agrees, LeavesItems}
use Rattle.tpw_occam_expressions.specs.Computing.{MayStand, Suffices, Computes, ComputesTo, IsKnown, IsKnownOf, inverse_of, applied_last, applied_first, is_simple, is_immediate, has_immediate, IsSuccessor, IsPredecessor, IsNoShift}
use Rattle.tpw_occam_symbolic.proofs.Leading.{does_less, does_step, step_is, leads_then, has_first}
use Rattle.tpw_occam_expressions.proofs.Elements.{replaces_set}
use Rattle.tpw_occam_expressions.proofs.Inverses.{greater_inverse, less_inverse}
use Rattle.tpw_occam_symbolic.proofs.Words.{zero_read}
use Rattle.tpw_occam_expressions.proofs.Computing.{agrees_after}
use Rattle.tpw_occam_expressions.proofs.Constructs.{computes_then, goes_by, constant_value}
use Rattle.tpw_occam_expressions.proofs.Standing.{Place, stand_binary, stand_not, stand_and, stand_or, suffices_two, suffices_part}
use Rattle.tpw_occam_symbolic.proofs.Sizes.{and_first, and_second}

false_true : ◌≡◌ {A = Bool} false true → ⊥
false_true e = cc

-- ---- whether a value is 0

equals_zero : (a : ℕ) → a < 2 ^ 32 → int_eq (signed a) (pos 0) ≡ nat_eq a 0
equals_zero a h = zero_read a h

pub answers_zero : (old new : Lines) (source a : ℕ) → a < 2 ^ 32 → new ≡ followed_by old (line_of source (Plain (Eqc (pos 0))) ∷ [])
    → Answers old new 1 a (pure (truth (a == 0)))
unfolding performed effect
answers_zero old new source a h is arrays =
    does_less arrays old new _ _ _ _
    (does_step arrays old new source (Plain (Eqc (pos 0))) (HasNumber a) (set_areg (number (truth (a == 0)))) is
    (λ m areg served. rw areg (ap (λ t. Some (set_areg (number (truth t)) (at_place (m.place + 1) m))) (equals_zero a h)))
    (λ m. refl) (λ m. refl) (λ m. refl))
    (λ m said. said.1) (λ m end said after. replaces_set (truth (a == 0)) (place_behind new) m end after)

pub truth_small : (t : Bool) → truth t < 2
truth_small true = omega arith
truth_small false = omega arith

-- a value and whether it is 0
pub inverse_computes : (k : Knowledge) (old between new : Lines) (source : ℕ) (e : Expression) (value : Value) (registers kept : ℕ)
    → Computes k old between e registers kept → IsKnown k e value → new ≡ followed_by between (line_of source (Plain (Eqc (pos 0))) ∷ [])
    → ComputesTo k old new e (inverse_of e) registers kept
inverse_computes k old between new source e value registers kept computes known is =
    computes_then k old between new e e (value_of e) (λ a. pure (truth (a == 0))) registers 1 kept computes
    (λ storages scope unset s place stands suffices knows. (
      stands,
      suffices,
      goes_by k scope unset s between new registers 1 (value_of e s) (pure (truth ((value_of e s).word == 0))) suffices.least
          (answers_zero between new source (value_of e s).word (known storages scope unset s place stands knows).small is),
    ))

pub inverse_known : (k : Knowledge) (e : Expression) (made : Value) → ((word : ℕ) → word < 2 → Holds made word) → IsKnownOf k e (inverse_of e) made
inverse_known k e made holds storages scope unset s place stands knows = holds (truth ((value_of e s).word == 0)) (truth_small _)

-- ---- NOT of NOT

not_not_word : (w : ℕ) → w < 2 → truth (truth (w == 0) == 0) ≡ w
not_not_word zero h = refl
not_not_word (suc zero) h = refl
not_not_word (suc (suc w)) h = absurd (omega (arith, h))

-- a value that is 0 or 1 already
pub same_computes : (k : Knowledge) (old new : Lines) (p : Place) (e : Expression) (value : Value) (registers kept : ℕ)
    → Computes k old new e registers kept → IsKnown k e value → ((word : ℕ) → Holds value word → word < 2)
    → ComputesTo k old new (Not' p e) (inverse_of (Not' p e)) registers kept
same_computes k old new p e value registers kept computes known small storages scope unset s place stands suffices knows =
    let part = stand_not k storages scope unset p e stands in
    let v = value_of e s in
    let made : v ≡ inverse_of (Not' p e) s =
    ap (λ w. answer w v.flag) (sym (not_not_word v.word (small v.word (known storages scope unset s place part knows))))
    ∙ ap (answer (truth (truth (v.word == 0) == 0))) (sym (or-false v.flag) ∙ sym (ap (λ f. f || false) (or-false v.flag))) in
    does_less k.arrays old new _ _ _ _
    (computes storages scope unset s place part (suffices_part k registers (Not' p e) e (λ simple. simple) suffices) knows)
    (λ m said. said) (λ m end said after. subst (λ x. Pushes registers x m end × LeavesItems scope kept m end) made after)

pub same_known : (k : Knowledge) (p : Place) (e : Expression) (value : Value) → IsKnown k e value → ((word : ℕ) → Holds value word → word < 2)
    → IsKnownOf k (Not' p e) (inverse_of (Not' p e)) value
same_known k p e value known small storages scope unset s place stands knows =
    let holds = known storages scope unset s place (stand_not k storages scope unset p e stands) knows in
    subst (Holds value) (sym (not_not_word _ (small _ holds))) holds

-- the inverse of an inverse
pub twice_computes : (k : Knowledge) (old between middle new : Lines) (source : ℕ) (p : Place) (e : Expression) (value : Value) (registers kept : ℕ)
    → Computes k old between e registers kept → IsKnown k e value
    → middle ≡ followed_by between (line_of source (Plain (Eqc (pos 0))) ∷ [])
    → new ≡ followed_by middle (line_of source (Plain (Eqc (pos 0))) ∷ [])
    → ComputesTo k old new (Not' p e) (inverse_of (Not' p e)) registers kept
twice_computes k old between middle new source p e value registers kept computes known one two =
    computes_then k old middle new (Not' p e) e (inverse_of e) (λ a. pure (truth (a == 0))) registers 1 kept
    (inverse_computes k old between middle source e value registers kept computes known one)
    (λ storages scope unset s place stands suffices knows.
    let small = truth_small ((value_of e s).word == 0) in (
      stand_not k storages scope unset p e stands,
      suffices_part k registers (Not' p e) e (λ simple. simple) suffices,
      goes_by k scope unset s middle new registers 1 (inverse_of e s) (pure (truth ((inverse_of e s).word == 0))) suffices.least
          (answers_zero middle new source (inverse_of e s).word (omega (arith, small)) two),
    ))

-- ---- NOT of a comparison

greater_immediate : (k : Knowledge) (e : Expression) → is_immediate k Greater e ≡ false
greater_immediate k e = by_constant (constant_in k e)
  where
    by_constant : (o : Option ℕ) → option_map_or (has_immediate Greater) o false ≡ false
    by_constant None = refl
    by_constant (Some c) = refl

greater_registers : (k : Knowledge) (p : Place) (left : Expression) (q : Place) (right : Expression) (registers : ℕ)
    → Suffices k registers (Binary' Greater p left q right) → 2 ≤ registers
greater_registers k p left q right registers suffices = by_number (cases_lt 1 registers)
  where
    none : is_simple k (Binary' Greater p left q right) ≡ false
    none = rw (greater_immediate k right) refl

    by_number : (1 < registers) ⊎ (registers ≤ 1) → 2 ≤ registers
    by_number (inl more) = more
    by_number (inr one) = absurd (false_true (sym none ∙ suffices.simple one))

next_inverse : (l r : Answer) (next : ℕ) (e : truth (truth (int_lt (signed r.word) (signed l.word)) == 0) ≡ truth (int_lt (signed l.word) (signed next)))
    → r.flag ≡ false
    → bind l (applied Greater next) ≡ bind (bind l (λ b. bind r (applied Greater b))) (λ a. pure (truth (a == 0)))
next_inverse l r next e none =
    ap (λ w. answer w (l.flag || false)) (sym e)
    ∙ ap (answer (truth (truth (int_lt (signed r.word) (signed l.word)) == 0))) (sym (or-false _ ∙ ap (λ f. l.flag || (f || false)) none))

before_inverse : (l r : Answer) (before : ℕ) (e : truth (truth (int_lt (signed r.word) (signed l.word)) == 0) ≡ truth (int_lt (signed before) (signed r.word)))
    → l.flag ≡ false
    → bind r (λ b. applied Greater b before) ≡ bind (bind l (λ b. bind r (applied Greater b))) (λ a. pure (truth (a == 0)))
before_inverse l r before e none =
    ap (λ w. answer w (r.flag || false)) (sym e)
    ∙ ap (answer (truth (truth (int_lt (signed r.word) (signed l.word)) == 0))) (sym (or-false _ ∙ ap (λ f. f || (r.flag || false)) none))

pub successor_computes : (k : Knowledge) (old new : Lines) (p : Place) (left : Expression) (q : Place) (right : Expression) (next registers kept : ℕ)
    → IsSuccessor k right next
    → (IsNoShift Greater → 2 ≤ registers → ComputesTo k old new left (applied_first Greater next left) registers kept)
    → ComputesTo k old new (Binary' Greater p left q right) (inverse_of (Binary' Greater p left q right)) registers kept
successor_computes k old new p left q right next registers kept is computes storages scope unset s place stands suffices knows =
    let more = greater_registers k p left q right registers suffices in
    let parts = stand_binary k storages scope unset Greater p left q right stands in
    let value : value_of right s ≡ pure is.of = constant_value k storages scope unset s right is.of parts.1 knows is.constant in
    let l = value_of left s in
    let made : applied_first Greater next left s ≡ inverse_of (Binary' Greater p left q right) s =
    next_inverse l (pure is.of) next (greater_inverse l.word is.of next is.small is.less is.is) refl
    ∙ ap (λ r. bind (bind l (λ b. bind r (applied Greater b))) (λ a. pure (truth (a == 0)))) (sym value) in
    does_less k.arrays old new _ _ _ _
    (computes tt more storages scope unset s place parts.0 (suffices_two k registers left more suffices.most) knows)
    (λ m said. said) (λ m end said after. subst (λ x. Pushes registers x m end × LeavesItems scope kept m end) made after)

pub successor_known : (k : Knowledge) (p : Place) (left : Expression) (q : Place) (right : Expression) (next : ℕ) (value : Value)
    → IsSuccessor k right next → IsKnownOf k left (applied_first Greater next left) value
    → IsKnownOf k (Binary' Greater p left q right) (inverse_of (Binary' Greater p left q right)) value
successor_known k p left q right next value is known storages scope unset s place stands knows =
    let parts = stand_binary k storages scope unset Greater p left q right stands in
    let same : value_of right s ≡ pure is.of = constant_value k storages scope unset s right is.of parts.1 knows is.constant in
    let l = value_of left s in
    let made : applied_first Greater next left s ≡ inverse_of (Binary' Greater p left q right) s =
    next_inverse l (pure is.of) next (greater_inverse l.word is.of next is.small is.less is.is) refl
    ∙ ap (λ r. bind (bind l (λ b. bind r (applied Greater b))) (λ a. pure (truth (a == 0)))) (sym same) in
    subst (λ (x : Answer). Holds value x.word) made (known storages scope unset s place parts.0 knows)

pub predecessor_computes : (k : Knowledge) (old new : Lines) (p : Place) (left : Expression) (q : Place) (right : Expression) (before registers kept : ℕ)
    → IsPredecessor k left before
    → (IsNoShift Greater → (registers ≤ 1 → IsTrue (has_immediate Greater before)) → ComputesTo k old new right (applied_last Greater right before) registers kept)
    → ComputesTo k old new (Binary' Greater p left q right) (inverse_of (Binary' Greater p left q right)) registers kept
predecessor_computes k old new p left q right before registers kept is computes storages scope unset s place stands suffices knows =
    let more = greater_registers k p left q right registers suffices in
    let parts = stand_binary k storages scope unset Greater p left q right stands in
    let value : value_of left s ≡ pure is.of = constant_value k storages scope unset s left is.of parts.0 knows is.constant in
    let r = value_of right s in
    let made : applied_last Greater right before s ≡ inverse_of (Binary' Greater p left q right) s =
    before_inverse (pure is.of) r before (less_inverse r.word is.of before is.small is.more is.is) refl
    ∙ ap (λ l. bind (bind l (λ b. bind r (applied Greater b))) (λ a. pure (truth (a == 0)))) (sym value) in
    does_less k.arrays old new _ _ _ _
    (computes tt (λ one. absurd (omega (arith, more, one))) storages scope unset s place parts.1 (suffices_two k registers right more suffices.most) knows)
    (λ m said. said) (λ m end said after. subst (λ x. Pushes registers x m end × LeavesItems scope kept m end) made after)

pub predecessor_known : (k : Knowledge) (p : Place) (left : Expression) (q : Place) (right : Expression) (before : ℕ) (value : Value)
    → IsPredecessor k left before → IsKnownOf k right (applied_last Greater right before) value
    → IsKnownOf k (Binary' Greater p left q right) (inverse_of (Binary' Greater p left q right)) value
predecessor_known k p left q right before value is known storages scope unset s place stands knows =
    let parts = stand_binary k storages scope unset Greater p left q right stands in
    let same : value_of left s ≡ pure is.of = constant_value k storages scope unset s left is.of parts.0 knows is.constant in
    let r = value_of right s in
    let made : applied_last Greater right before s ≡ inverse_of (Binary' Greater p left q right) s =
    before_inverse (pure is.of) r before (less_inverse r.word is.of before is.small is.more is.is) refl
    ∙ ap (λ l. bind (bind l (λ b. bind r (applied Greater b))) (λ a. pure (truth (a == 0)))) (sym same) in
    subst (λ (x : Answer). Holds value x.word) made (known storages scope unset s place parts.1 knows)

-- ---- code that is passed over where Areg is 0

pub get_behind : {A : Type 0} (xs ys : List A) (i : ℕ) → slice_get (xs ++ ys) (length xs + i) ≡ slice_get ys i
get_behind [] ys i = ap (slice_get ys) (omega arith)
get_behind (x ∷ xs) ys i =
    let next : suc (length xs) + i ≡ suc (length xs + i) = omega arith in
    ap (slice_get (x ∷ xs ++ ys)) next ∙ get_behind xs ys i

-- lines that stand in code that has others before them
pub has_behind : (between more new : Lines) (line : CodeLine) (m : Machine) → new ≡ joined (followed_by between (line ∷ [])) more
    → more.base ≡ place_behind between + 1 → HasLines new m → HasLines more m
has_behind between more new line m is base has i h =
    let front = between.lines ++ line ∷ [] in
    let long : length front ≡ length between.lines + 1 = length-append between.lines (line ∷ []) in
    let all : length new.lines ≡ length front + length more.lines = ap (λ l. length l.lines) is ∙ length-append front more.lines in
    let there : length front + i < length new.lines = omega (arith, all, h) in
    ap (slice_get m.code) (omega (arith, base, long, ap (λ l. l.base) is)) ∙ has (length front + i) there
    ∙ ap (λ l. slice_get l.lines (length front + i)) is ∙ get_behind front more.lines i

pub jump_stands : (between more new : Lines) (line : CodeLine) (m : Machine) → new ≡ joined (followed_by between (line ∷ [])) more
    → HasLines new m → slice_get m.code (place_behind between) ≡ Some line
jump_stands between more new line m is has =
    let rest = line ∷ more.lines in
    let all : new.lines ≡ between.lines ++ rest = ap (λ l. l.lines) is ∙ append_assoc between.lines (line ∷ []) more.lines in
    let long : length new.lines ≡ length between.lines + length rest = ap length all ∙ length-append between.lines rest in
    let there : length between.lines + 0 < length new.lines = omega (arith, long) in
    ap (slice_get m.code) (omega (arith, ap (λ l. l.base) is)) ∙ has (length between.lines + 0) there
    ∙ ap (λ ls. slice_get ls (length between.lines + 0)) all ∙ get_behind between.lines rest 0

-- What a number in Areg leads to: where it is 0 to the place behind, and else through the code, with Areg popped.
pub record Branches (Before2 : Machine → Type 0) (After2 After3 : Machine → Machine → Type 0) (behind : ℕ) (m middle : Machine) : Type 0 where
  pub word : ℕ
  pub areg : middle.areg ≡ number word
  pub zero : word ≡ 0 → After3 m (at_place behind middle)
  pub before : (n : ℕ) → word ≡ suc n → (p : ℕ) → Before2 (at_place p (pop middle))
  pub after : (n : ℕ) → word ≡ suc n → (p : ℕ) (end : Machine) → After2 (at_place p (pop middle)) end → After3 m end

pub cj_jumps : (to p : ℕ) (m : Machine) → m.areg ≡ number 0 → performed (CjTo to) (at_place p m) ≡ Some (at_place to m)
unfolding performed
cj_jumps to p m areg = rw areg refl

pub suc_not_zero : (n : ℕ) → nat_eq (suc n) 0 ≡ false
suc_not_zero n = grind (arith, nat_tests)

pub cj_passes : (to p n : ℕ) (m : Machine) → m.areg ≡ number (suc n) → performed (CjTo to) (at_place p m) ≡ Some (at_place p (pop m))
unfolding performed
cj_passes to p n m areg = rw areg (rw (suc_not_zero n) refl)

pub does_branch : (arrays : List ℕ) (old between more new : Lines) (source : ℕ)
    (Before : Machine → Type 0) (After : Machine → Machine → Type 0) (Before2 : Machine → Type 0) (After2 After3 : Machine → Machine → Type 0)
    → new ≡ joined (followed_by between (line_of source (CjTo (place_behind more)) ∷ [])) more
    → Does arrays old between Before After
    → Does arrays (none_at (place_behind between + 1)) more Before2 After2
    → ((m middle : Machine) → Before m → After m middle → Branches Before2 After2 After3 (place_behind new) m middle)
    → Does arrays old new Before After3
does_branch arrays old between more new source Before After Before2 After2 After3 is first second branches = record {
  base = ap (λ l. l.base) is ∙ first.base;
  more = first.more ++ (line ∷ more.lines);
  lines = ap (λ l. l.lines) is ∙ append_assoc between.lines (line ∷ []) more.lines
      ∙ ap (λ ls. ls ++ (line ∷ more.lines)) first.lines ∙ append_assoc old.lines first.more (line ∷ more.lines);
  arrives = λ m before said.
      let has_between : HasLines between m = has_first between new (line ∷ more.lines) m (ap (λ l. l.base) is)
      (ap (λ l. l.lines) is ∙ append_assoc between.lines (line ∷ []) more.lines) before.lines in
      let a = first.arrives m (record { place = before.place; lines = has_between; served = before.served; running = before.running }) said in
      let b = branches m a.end said a.after in by_word m before a b b.word refl;
}
  where
    line : CodeLine
    line = line_of source (CjTo (place_behind more))

    behind : place_behind more ≡ place_behind new
    behind =
        omega (
          arith,
          second.base,
          ap (λ l. l.base) is,
          ap (λ l. length l.lines) is,
          length-append (between.lines ++ line ∷ []) more.lines,
          length-append between.lines (line ∷ []),
        )

    by_word : (m : Machine) → IsBefore arrays old new m → (a : Arrives between m After) → (b : Branches Before2 After2 After3 (place_behind new) m a.end)
        → (n : ℕ) → b.word ≡ n → Arrives new m After3
    by_word m before a b zero w =
        let areg : a.end.areg ≡ number 0 = b.areg ∙ ap number w in
        let at : slice_get a.end.code a.end.place ≡ Some line =
        ap (λ c. slice_get c a.end.place) a.same_code ∙ ap (slice_get m.code) a.place ∙ jump_stands between more new line m is before.lines in
        record {
          end = at_place (place_behind new) a.end;
          way = leads_then a.way (onward a.end (at_place (place_behind new) a.end) (at_place (place_behind new) a.end)
              (step_is a.end line a.running at ∙ cj_jumps (place_behind more) (a.end.place + 1) a.end areg ∙ ap (λ p. Some (at_place p a.end)) behind) (nowhere _));
          place = refl;
          running = a.running;
          same_code = a.same_code;
          same_sizes = a.same_sizes;
          after = b.zero w;
        }
    by_word m before a b (suc n) w =
        let areg : a.end.areg ≡ number (suc n) = b.areg ∙ ap number w in
        let at : slice_get a.end.code a.end.place ≡ Some line =
        ap (λ c. slice_get c a.end.place) a.same_code ∙ ap (slice_get m.code) a.place ∙ jump_stands between more new line m is before.lines in
        let p = a.end.place + 1 in
        let c = second.arrives (at_place p (pop a.end)) (record {
          place = omega (arith, a.place);
          lines = λ i h. ap (λ c. slice_get c (more.base + i)) a.same_code ∙ has_behind between more new line m is second.base before.lines i h;
          served = λ i other h. rw a.same_sizes (before.served i other (ap (λ c. slice_get c i) (sym a.same_code) ∙ h));
          running = a.running;
        }) (b.before n w p) in
        record {
          end = c.end;
          way = leads_then a.way (onward a.end (at_place p (pop a.end)) c.end
              (step_is a.end line a.running at ∙ cj_passes (place_behind more) p n a.end areg) c.way);
          place = c.place ∙ behind;
          running = c.running;
          same_code = c.same_code ∙ a.same_code;
          same_sizes = c.same_sizes ∙ a.same_sizes;
          after = b.after n w p c.end c.after;
        }

-- ---- AND and OR

-- of two values the second only where the first is not 0
abbrev pub both_value : (Store → Answer) → (Store → Answer) → Store → Answer
both_value f g s = bind (f s) (λ a. both a (g s))

popped_agrees : (k : Knowledge) (scope : List Entry) (unset : ℕ → Bool) (p : ℕ) (s : Store) (m : Machine) → Agrees k scope unset s m
    → Agrees k scope unset s (at_place p (pop m))
popped_agrees k scope unset p s m a = record { words = a.words; arrays = a.arrays; constants = a.constants }

pub does_both_values : (k : Knowledge) (scope : List Entry) (unset : ℕ → Bool) (s : Store) (old between more new : Lines) (source registers kept : ℕ) (f g : Answer)
    → new ≡ joined (followed_by between (line_of source (CjTo (place_behind more)) ∷ [])) more
    → Does k.arrays old between (Agrees k scope unset s) (λ m end. Pushes registers f m end × LeavesItems scope kept m end)
    → Does k.arrays (none_at (place_behind between + 1)) more (Agrees k scope unset s) (λ m end. Pushes registers g m end × LeavesItems scope kept m end)
    → Does k.arrays old new (Agrees k scope unset s)
    (λ m end. Pushes registers (bind f (λ a. both a g)) m end × LeavesItems scope kept m end)
does_both_values k scope unset s old between more new source registers kept f g is first second =
    does_branch k.arrays old between more new source _ _ _ _ _ is first second
    (λ m middle agrees after. record {
      word = f.word;
      areg = after.0.areg;
      zero = λ none. (
        record {
          areg = after.0.areg ∙ ap number none ∙ ap (λ n. number (both n g).word) (sym none);
          breg = after.0.breg;
          creg = after.0.creg;
          error = after.0.error ∙ ap (λ x. m.error || x) (sym (or-false f.flag)) ∙ ap (λ n. m.error || (f.flag || (both n g).flag)) (sym none);
        },
        record { blocks = after.1.blocks; to_come = after.1.to_come; sent = after.1.sent; traced = after.1.traced },
      );
      before = λ n some p. popped_agrees k scope unset p s middle (agrees_after k scope unset kept s m middle agrees after.1);
      after = λ n some p end after2. (
        record {
          areg = after2.0.areg ∙ ap (λ w. number (both w g).word) (sym some);
          breg = λ h. after2.0.breg h ∙ after.0.breg h;
          creg = λ h. after2.0.creg h ∙ after.0.creg h;
          error = after2.0.error ∙ ap (λ e. e || g.flag) after.0.error ∙ or_assoc m.error f.flag g.flag
              ∙ ap (λ w. m.error || (f.flag || (both w g).flag)) (sym some);
        },
        record {
          blocks = λ i at stays. after2.1.blocks i at stays ∙ after.1.blocks i at stays;
          to_come = after2.1.to_come ∙ after.1.to_come;
          sent = after2.1.sent ∙ after.1.sent;
          traced = after2.1.traced ∙ after.1.traced;
        },
      );
    })

-- the code of both, as the code of an expression whose parts they are
pub both_computes : (k k1 : Knowledge) (old between more new : Lines) (source : ℕ) (e left right : Expression) (f g : Store → Answer) (registers kept : ℕ)
    → k1 ≡ k
    → ((storages : List Storage) (scope : List Entry) (unset : ℕ → Bool) → MayStand k storages scope unset e
    → MayStand k storages scope unset left × MayStand k storages scope unset right)
    → (is_simple k e ≡ true → is_simple k left ≡ true) → (is_simple k e ≡ true → is_simple k right ≡ true)
    → ComputesTo k old between left f registers kept
    → ComputesTo k1 (none_at (place_behind between + 1)) more right g registers kept
    → new ≡ joined (followed_by between (line_of source (CjTo (place_behind more)) ∷ [])) more
    → ComputesTo k old new e (both_value f g) registers kept
both_computes k k1 old between more new source e left right f g registers kept same parts simple_left simple_right first second is storages scope unset s place stands suffices knows =
    let stand = parts storages scope unset stands in
    let second = subst (λ k. ComputesTo k (none_at (place_behind between + 1)) more right g registers kept) same second in
    does_both_values k scope unset s old between more new source registers kept (f s) (g s) is
    (first storages scope unset s place stand.0 (suffices_part k registers e left simple_left suffices) knows)
    (second storages scope unset s place stand.1 (suffices_part k registers e right simple_right suffices) knows)

pub and_computes : (k k1 : Knowledge) (old between more new : Lines) (source : ℕ) (p : Place) (left : Expression) (q : Place) (right : Expression) (registers kept : ℕ)
    → k1 ≡ k → Computes k old between left registers kept → Computes k1 (none_at (place_behind between + 1)) more right registers kept
    → new ≡ joined (followed_by between (line_of source (CjTo (place_behind more)) ∷ [])) more
    → Computes k old new (And' p left q right) registers kept
and_computes k k1 old between more new source p left q right registers kept same first second is =
    both_computes k k1 old between more new source (And' p left q right) left right (value_of left) (value_of right) registers kept same
    (λ storages scope unset stands. stand_and k storages scope unset p left q right stands)
    (λ simple. and_first _ _ simple) (λ simple. and_second (is_simple k left) _ simple) first second is

both_holds : (n : ℕ) (value : Value) (right : Answer) → Holds value 0 → Holds value right.word → Holds value (both n right).word
both_holds zero value right none some = none
both_holds (suc n) value right none some = some

pub and_known : (k k1 : Knowledge) (p : Place) (left : Expression) (q : Place) (right : Expression) (value made : Value) → k1 ≡ k
    → IsKnown k1 right value → ((word : ℕ) → Holds value word → Holds made word) → Holds made 0
    → IsKnown k (And' p left q right) made
and_known k k1 p left q right value made same known more none storages scope unset s place stands knows =
    let known = subst (λ k. IsKnown k right value) same known in
    let parts = stand_and k storages scope unset p left q right stands in
    both_holds (value_of left s).word made (value_of right s) none (more _ (known storages scope unset s place parts.1 knows))

-- OR by the inverses of both, and the inverse of that
suc_less : (n : ℕ) → nat_lt 0 (suc n) ≡ true
suc_less n = grind (arith, nat_tests)

or_flags : (f g : Bool) → ((f || false) || (g || false)) || false ≡ f || g
or_flags f g = or-false _ ∙ ap (λ x. x || (g || false)) (or-false f) ∙ ap (λ x. f || x) (or-false g)

or_flag : (f : Bool) → ((f || false) || false) || false ≡ f || false
or_flag f = or-false _ ∙ or-false _

or_words : (n m : ℕ) (f g : Bool)
    → bind (bind (bind (answer n f) (λ a. pure (truth (a == 0)))) (λ a. both a (bind (answer m g) (λ a. pure (truth (a == 0))))))
    (λ a. pure (truth (a == 0))) ≡ bind (answer n f) (λ a. either a (answer m g))
or_words zero zero f g = ap (answer 0) (or_flags f g)
or_words zero (suc m) f g = rw (suc_not_zero m) (rw (suc_less m) (ap (answer 1) (or_flags f g)))
or_words (suc n) m f g = rw (suc_not_zero n) (ap (answer 1) (or_flag f))

or_value : (v r : Answer) → bind (bind (bind v (λ a. pure (truth (a == 0)))) (λ a. both a (bind r (λ a. pure (truth (a == 0))))))
    (λ a. pure (truth (a == 0))) ≡ bind v (λ a. either a r)
or_value v r = or_words v.word r.word v.flag r.flag

both_small : (n : ℕ) (r : Answer) → r.word < 2 ^ 32 → (both n r).word < 2 ^ 32
both_small zero r h = omega arith
both_small (suc n) r h = h

pub or_computes : (k k1 : Knowledge) (old between more middle new : Lines) (source : ℕ) (p : Place) (left : Expression) (q : Place) (right : Expression) (registers kept : ℕ)
    → k1 ≡ k → ComputesTo k old between left (inverse_of left) registers kept
    → ComputesTo k1 (none_at (place_behind between + 1)) more right (inverse_of right) registers kept
    → middle ≡ joined (followed_by between (line_of source (CjTo (place_behind more)) ∷ [])) more
    → new ≡ followed_by middle (line_of source (Plain (Eqc (pos 0))) ∷ [])
    → Computes k old new (Or' p left q right) registers kept
or_computes k k1 old between more middle new source p left q right registers kept same first second is last storages scope unset s place stands suffices knows =
    let f = both_value (inverse_of left) (inverse_of right) in
    let r = inverse_of right s in
    let small : (f s).word < 2 ^ 32 = both_small (inverse_of left s).word r (let h = truth_small ((value_of right s).word == 0) in omega (arith, h)) in
    let whole = computes_then k old middle new (Or' p left q right) (Or' p left q right) f (λ a. pure (truth (a == 0))) registers 1 kept
    (both_computes k k1 old between more middle source (Or' p left q right) left right (inverse_of left) (inverse_of right) registers kept same
    (λ storages scope unset stands. stand_or k storages scope unset p left q right stands)
    (λ simple. and_first _ _ simple) (λ simple. and_second (is_simple k left) _ simple) first second is)
    (λ storages scope unset s place stands suffices knows.
    let small : (f s).word < 2 ^ 32 = both_small (inverse_of left s).word (inverse_of right s) (let h = truth_small ((value_of right s).word == 0) in omega (arith, h)) in (
      stands,
      suffices,
      goes_by k scope unset s middle new registers 1 (f s) (pure (truth ((f s).word == 0))) suffices.least
          (answers_zero middle new source (f s).word small last),
    )) in
    does_less k.arrays old new _ _ _ _ (whole storages scope unset s place stands suffices knows) (λ m said. said)
    (λ m end said after. subst (λ x. Pushes registers x m end × LeavesItems scope kept m end) (or_value (value_of left s) (value_of right s)) after)

either_small : (n : ℕ) (r : Answer) → (either n r).word < 2
either_small zero r = truth_small (nat_lt 0 r.word)
either_small (suc n) r = omega arith

pub or_known : (k : Knowledge) (p : Place) (left : Expression) (q : Place) (right : Expression) (made : Value) → ((word : ℕ) → word < 2 → Holds made word)
    → IsKnown k (Or' p left q right) made
or_known k p left q right made holds storages scope unset s place stands knows = holds _ (either_small (value_of left s).word (value_of right s))

-- the operator of a pattern is the one that it names
pub computes_greater : (k : Knowledge) (old new : Lines) (operator : Operator) (p : Place) (left : Expression) (q : Place) (right : Expression) (registers kept : ℕ)
    → operator ≡ Greater
    → ComputesTo k old new (Binary' Greater p left q right) (inverse_of (Binary' Greater p left q right)) registers kept
    → ComputesTo k old new (Binary' operator p left q right) (inverse_of (Binary' operator p left q right)) registers kept
computes_greater k old new operator p left q right registers kept is computes =
    subst (λ o. ComputesTo k old new (Binary' o p left q right) (inverse_of (Binary' o p left q right)) registers kept) (sym is) computes

pub known_greater : (k : Knowledge) (operator : Operator) (p : Place) (left : Expression) (q : Place) (right : Expression) (value : Value)
    → operator ≡ Greater
    → IsKnownOf k (Binary' Greater p left q right) (inverse_of (Binary' Greater p left q right)) value
    → IsKnownOf k (Binary' operator p left q right) (inverse_of (Binary' operator p left q right)) value
known_greater k operator p left q right value is known =
    subst (λ o. IsKnownOf k (Binary' o p left q right) (inverse_of (Binary' o p left q right)) value) (sym is) known
