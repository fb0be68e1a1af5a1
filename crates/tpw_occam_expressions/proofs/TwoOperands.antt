-- The code of two operands, and what works on them.
use Rattle.std.proofs.Common.{◌≡◌, ◌⊎◌, inl, inr, ◌+◌, ◌-◌, ◌*◌, ◌^◌, ◌≤◌, ◌<◌, [], ◌∷◌, ℕ, List, Option, Some, None, Bool, false, true, refl, ap, sym, subst, ◌∙◌, arith}
use Rattle.std.specs.Prelude.{◌||◌, not, IsTrue}
use Rattle.tpw_occam_expressions.specs.Ranges.{Contains, full}
use Rattle.tpw_occam_expressions.proofs.Ranges.{full_contains}
use Rattle.std.proofs.Math.Bool.{or_assoc, or_comm, or-false}
use Rattle.tp_decode.specs.declared.instr.Instr.TheVariants.{Rev}
use Rattle.tpw_occam_core.specs.declared.arithmetic.Answer.{Answer}
use Rattle.tpw_occam_core.specs.declared.worker.Storage.{Storage}
use Rattle.tpw_occam_core.specs.declared.scope.Entry.{Entry}
use Rattle.tpw_occam_core.specs.declared.expression.Operator.{Operator}
use Rattle.tpw_occam_core.specs.declared.expression.Expression.{Expression}
use Rattle.tpw_occam_core.specs.declared.expression.Expression.TheVariants as expression
use Rattle.tpw_occam_expressions.proofs.Standing.{suffices_two}
use Rattle.tpw_occam_symbolic.proofs.Sizes.{and_first, and_second}
use Rattle.std.specs.Prelude.{pos, ◌&&◌, ◌/◌, is_some}
use Rattle.std.specs.Option.{option_map_or}
use Rattle.std.proofs.lemmas.Bool.{cases_lt}
use Rattle.tpw_occam_expressions.proofs.Indexing.{subscript_below, subscript_word_below}
use Rattle.std.proofs.Math.IntN.{+ℤ_comm, *ℤ_comm}
use Rattle.std.proofs.lemmas.Nat.{and_comm, or_comm as bits_or_comm, xor_comm}
use Rattle.std.proofs.Common.{nat_eq}
use Rattle.std.proofs.lemmas.Bool.Decides.{nat_tests}
use Rattle.tp_words.specs.Words.{signed, low_word}
use Rattle.tp_words.specs.Numbers.{truth}
use Rattle.tpw_occam_core.specs.declared.expression.Operator.TheVariants as operators
use Rattle.tpw_occam_core.specs.Arithmetic.{answer, pure, checked, wrapped, applied, subscript}
use Rattle.tpw_occam_core.specs.Meaning.{Store, bind, value_of}
use Rattle.tpw_occam_symbolic.specs.declared.items.Item.{Item}
use Rattle.tpw_occam_symbolic.specs.declared.items.Item.TheVariants as item
use Rattle.tpw_occam_symbolic.specs.declared.code.Step.TheVariants.{Plain, Load, Store as StoreTo}
use Rattle.tpw_occam_expressions.specs.declared.expressions.Value.{Value}
use Rattle.tpw_occam_expressions.specs.declared.emitter.Allocation.{Allocation}
use Rattle.tpw_occam_symbolic.specs.Code.{Lines, followed_by, line_of, place_behind}
use Rattle.tpw_occam_symbolic.specs.Symbolic.{Machine, effect, performed, at_place, number, push}
use Rattle.tpw_occam_symbolic.specs.Leading.{Does, IsBefore, Arrives, HasConstants, HasWord, Makes}
use Rattle.tpw_occam_expressions.specs.Values.{Holds, HasCount, HasOperands, Pushes, answered}
use Rattle.tpw_occam_expressions.specs.Agreement.{Knowledge, constant_in, Knows, Agrees, LeavesItems, Stays}
use Rattle.tpw_occam_expressions.specs.Computing.{IsPlace, MayStand, Suffices, Computes, ComputesTo, ComputesBoth, ComputesTwo, PushesTwo, IsKnown, IsKnownOf, commutes, applied_value, is_simple, IsConstantBelow, IsNoShift, IsKnownOfBoth, IsSimplePair, applied_first, subscript_value, is_immediate, has_immediate, is_swapped, HasImmediate}
use Rattle.tpw_occam_expressions.proofs.Answering.{count_of_no_shift}
use Rattle.tpw_occam_symbolic.proofs.Leading.{does_both, does_less, does_step}
use Rattle.tpw_occam_expressions.proofs.Computing.{agrees_after, leaves_then, bytes_same, alone_pushes}
use Rattle.tpw_occam_expressions.proofs.Elements.{pushes_alone}
use Rattle.tpw_occam_expressions.proofs.Keeping.{Saves, does_save, does_recall}

false_true : ◌≡◌ {A = Bool} false true → ⊥
false_true e = cc

-- ---- one value above another

-- a second value with one register less
above : (registers kept : ℕ) (scope : List Entry) (one two : Answer) (m middle end : Machine)
    → 2 ≤ registers → registers ≤ 3 → Pushes registers one m middle × LeavesItems scope kept m middle
    → Pushes (registers - 1) two middle end × LeavesItems scope kept middle end
    → PushesTwo registers one.word two.word (one.flag || two.flag) false m end × LeavesItems scope kept m end
above registers kept scope one two m middle end least most a b = (
  record {
    operands = inl (b.0.breg (omega arith) ∙ a.0.areg, b.0.areg);
    creg = λ h. b.0.creg (omega arith) ∙ a.0.breg h;
    error = b.0.error ∙ ap (λ e. e || two.flag) a.0.error ∙ or_assoc m.error one.flag two.flag;
  },
  leaves_then scope kept m middle end a.1 b.1,
)

pub does_above : (k : Knowledge) (scope : List Entry) (unset : ℕ → Bool) (s : Store) (old between new : Lines) (registers kept : ℕ) (one two : Answer)
    → 2 ≤ registers → registers ≤ 3
    → Does k.arrays old between (Agrees k scope unset s) (λ m end. Pushes registers one m end × LeavesItems scope kept m end)
    → Does k.arrays between new (Agrees k scope unset s) (λ m end. Pushes (registers - 1) two m end × LeavesItems scope kept m end)
    → Does k.arrays old new (Agrees k scope unset s)
    (λ m end. PushesTwo registers one.word two.word (one.flag || two.flag) false m end × LeavesItems scope kept m end)
does_above k scope unset s old between new registers kept one two least most first second =
    does_both k.arrays old between new _ _ _ _ _ first second
    (λ m middle agrees after. agrees_after k scope unset kept s m middle agrees after.1)
    (λ m middle end agrees after after2. above registers kept scope one two m middle end least most after after2)

-- the other order: where they may change places nothing is left to do
pub two_changed : (registers b a : ℕ) (f g may_change : Bool) (m end : Machine) → may_change ≡ true
    → PushesTwo registers a b (g || f) false m end → PushesTwo registers b a (f || g) may_change m end
two_changed registers b a f g may_change m end may two = record {
  operands = by_order two.operands;
  creg = two.creg;
  error = two.error ∙ ap (λ e. m.error || e) (or_comm g f);
}
  where
    false_true : ◌≡◌ {A = Bool} false true → ⊥
    false_true e = cc

    by_order : HasOperands a b end ⊎ ((false ≡ true) × HasOperands b a end) → HasOperands b a end ⊎ ((may_change ≡ true) × HasOperands a b end)
    by_order (inl in_order) = inr (may, in_order)
    by_order (inr swapped) = absurd (false_true swapped.0)

-- what may not change places may as well
pub two_fixed : (registers b a : ℕ) (flag may_change : Bool) (m end : Machine) → PushesTwo registers b a flag false m end
    → PushesTwo registers b a flag may_change m end
two_fixed registers b a flag may_change m end two = record {
  operands = by_order two.operands;
  creg = two.creg;
  error = two.error;
}
  where
    false_true : ◌≡◌ {A = Bool} false true → ⊥
    false_true e = cc

    by_order : HasOperands b a end ⊎ ((false ≡ true) × HasOperands a b end) → HasOperands b a end ⊎ ((may_change ≡ true) × HasOperands a b end)
    by_order (inl in_order) = inl in_order
    by_order (inr swapped) = absurd (false_true swapped.0)

-- registers that are exchanged
pub does_rev : (k : Knowledge) (scope : List Entry) (unset : ℕ → Bool) (s : Store) (old between new : Lines) (source registers kept b a : ℕ) (f g : Bool)
    → new ≡ followed_by between (line_of source (Plain Rev) ∷ [])
    → Does k.arrays old between (Agrees k scope unset s)
    (λ m end. PushesTwo registers a b (g || f) false m end × LeavesItems scope kept m end)
    → Does k.arrays old new (Agrees k scope unset s)
    (λ m end. PushesTwo registers b a (f || g) false m end × LeavesItems scope kept m end)
unfolding performed effect
does_rev k scope unset s old between new source registers kept b a f g is first =
    does_both k.arrays old between new _ _ _ _ _ first
    (does_step k.arrays between new source (Plain Rev) (λ m. Unit {0}) (λ m. record m { areg = m.breg; breg = m.areg }) is
    (λ m said served. refl) (λ m. refl) (λ m. refl) (λ m. refl))
    (λ m middle said after. tt)
    (λ m middle end said after after2. (
      record {
        operands = by_order m middle end after2 after.0.operands;
        creg = λ h. ap (λ x. x.creg) after2 ∙ after.0.creg h;
        error = ap (λ x. x.error) after2 ∙ after.0.error ∙ ap (λ e. m.error || e) (or_comm g f);
      },
      record {
        blocks = λ i at stays. ap (λ x. x.blocks i at) after2 ∙ after.1.blocks i at stays;
        to_come = ap (λ x. x.to_come) after2 ∙ after.1.to_come;
        sent = ap (λ x. x.sent) after2 ∙ after.1.sent;
        traced = ap (λ x. x.traced) after2 ∙ after.1.traced;
      },
    ))
  where
    false_true : ◌≡◌ {A = Bool} false true → ⊥
    false_true e = cc

    by_order : (m middle end : Machine) → end ≡ at_place (place_behind new) (record middle { areg = middle.breg; breg = middle.areg })
        → HasOperands a b middle ⊎ ((false ≡ true) × HasOperands b a middle) → HasOperands b a end ⊎ ((false ≡ true) × HasOperands a b end)
    by_order m middle end at (inl in_order) = inl (ap (λ x. x.breg) at ∙ in_order.1, ap (λ x. x.areg) at ∙ in_order.0)
    by_order m middle end at (inr swapped) = absurd (false_true swapped.0)

-- ---- one value kept in a word

stays_more : (scope : List Entry) (kept : ℕ) (i : Item) → Stays scope kept i → Stays scope (kept + 1) i
stays_more scope kept (item.Variable x) stays = stays
stays_more scope kept (item.Temporary t) stays = omega (arith, stays)
stays_more scope kept (item.Constant c) stays = stays
stays_more scope kept (item.Array a) stays = stays
stays_more scope kept item.Zeros stays = stays

pub leaves_less : (scope : List Entry) (kept : ℕ) (m end : Machine) → LeavesItems scope (kept + 1) m end → LeavesItems scope kept m end
leaves_less scope kept m end leaves = record {
  blocks = λ i at stays. leaves.blocks i at (stays_more scope kept i stays);
  to_come = leaves.to_come;
  sent = leaves.sent;
  traced = leaves.traced;
}

saved_leaves : (scope : List Entry) (kept registers : ℕ) (one : Answer) (m middle end : Machine)
    → Pushes registers one m middle × LeavesItems scope kept m middle → Saves scope kept one.word middle end
    → LeavesItems scope kept m end
saved_leaves scope kept registers one m middle end a b = leaves_then scope kept m middle end a.1 b.leaves

-- a value that is pushed and kept
pub record Kept (registers kept : ℕ) (scope : List Entry) (one : Answer) (m end : Machine) : Type 0 where
  pub areg : registers ≤ 2 → end.areg ≡ m.areg
  pub error : end.error ≡ (m.error || one.flag)
  pub held : HasWord (item.Temporary kept) one.word end
  pub leaves : LeavesItems scope kept m end

pub does_keep : (k : Knowledge) (scope : List Entry) (unset : ℕ → Bool) (s : Store) (old between new : Lines) (source registers kept : ℕ) (one : Answer)
    → Does k.arrays old between (Agrees k scope unset s) (λ m end. Pushes registers one m end × LeavesItems scope kept m end)
    → new ≡ followed_by between (line_of source (StoreTo (item.Temporary kept) 0) ∷ [])
    → Does k.arrays old new (Agrees k scope unset s) (Kept registers kept scope one)
does_keep k scope unset s old between new source registers kept one first is =
    does_both k.arrays old between new _ _ _ _ _ first (does_save k.arrays scope between new source kept one.word is)
    (λ m middle agrees after. after.0.areg)
    (λ m middle end agrees after after2. record {
      areg = λ h. after2.areg ∙ after.0.breg h;
      error = after2.error ∙ after.0.error;
      held = after2.held;
      leaves = saved_leaves scope kept registers one m middle end after after2;
    })

record Both (registers kept : ℕ) (scope : List Entry) (b a : Answer) (m end : Machine) : Type 0 where
  areg : end.areg ≡ number b.word
  breg : registers ≤ 2 → end.breg ≡ m.areg
  error : end.error ≡ (m.error || (a.flag || b.flag))
  held : HasWord (item.Temporary kept) a.word end
  leaves : LeavesItems scope kept m end

-- a second value above it, and the first one recalled
pub does_recalled : (k : Knowledge) (scope : List Entry) (unset : ℕ → Bool) (s : Store) (old saved between new : Lines) (source registers kept : ℕ)
    (b a : Answer) → a.word < 2 ^ 32
    → Does k.arrays old saved (Agrees k scope unset s) (Kept registers kept scope a)
    → Does k.arrays saved between (Agrees k scope unset s) (λ m end. Pushes registers b m end × LeavesItems scope (kept + 1) m end)
    → new ≡ followed_by between (line_of source (Load (item.Temporary kept) 0) ∷ [])
    → Does k.arrays old new (Agrees k scope unset s)
    (λ m end. PushesTwo registers b.word a.word (b.flag || a.flag) false m end × LeavesItems scope kept m end)
does_recalled k scope unset s old saved between new source registers kept b a small first second is =
    does_both k.arrays old between new _ _ _ _ _
    (does_both k.arrays old saved between _ _ _ _ (Both registers kept scope b a) first second
    (λ m middle agrees after. agrees_after k scope unset kept s m middle agrees after.leaves)
    (λ m middle end agrees after after2. record {
      areg = after2.0.areg;
      breg = λ h. after2.0.breg h ∙ after.areg h;
      error = after2.0.error ∙ ap (λ e. e || b.flag) after.error ∙ or_assoc m.error a.flag b.flag;
      held = bytes_same end.blocks middle.blocks (item.Temporary kept) 0 4 (λ at. after2.1.blocks (item.Temporary kept) at (omega arith)) ∙ after.held;
      leaves = leaves_then scope kept m middle end after.leaves (leaves_less scope kept middle end after2.1);
    }))
    (does_recall k.arrays between new source (item.Temporary kept) a.word small is)
    (λ m middle agrees after. after.held)
    (λ m middle end agrees after after2. (
      record {
        operands = inl (after2.pushed.breg (omega arith) ∙ after.areg, after2.pushed.areg);
        creg = λ h. after2.pushed.creg (omega arith) ∙ after.breg h;
        error = after2.pushed.error ∙ or-false middle.error ∙ after.error ∙ ap (λ e. m.error || e) (or_comm a.flag b.flag);
      },
      record {
        blocks = λ i at stays. ap (λ x. x i at) after2.blocks ∙ after.leaves.blocks i at stays;
        to_come = after2.to_come ∙ after.leaves.to_come;
        sent = after2.sent ∙ after.leaves.sent;
        traced = after2.traced ∙ after.leaves.traced;
      },
    ))

-- ---- what works on two operands

-- code that does the same of either order does it of whichever there is
either_way : (k : Knowledge) (between new : Lines) (b a : ℕ) (may_change : Bool) (made : Answer)
    → Makes between new (HasOperands b a) (answered made)
    → (may_change ≡ true → Makes between new (HasOperands a b) (answered made))
    → Does k.arrays between new (λ m. HasOperands b a m ⊎ ((may_change ≡ true) × HasOperands a b m))
    (λ m end. end ≡ at_place (place_behind new) (answered made m))
either_way k between new b a may_change made works changed =
    let one = works k.arrays in
    record {
      base = one.base;
      more = one.more;
      lines = one.lines;
      arrives = λ m at which. by_order m at which;
    }
  where
    by_order : (m : Machine) → IsBefore k.arrays between new m → HasOperands b a m ⊎ ((may_change ≡ true) × HasOperands a b m)
        → Arrives new m (λ m end. end ≡ at_place (place_behind new) (answered made m))
    by_order m at (inl in_order) = (works k.arrays).arrives m at in_order
    by_order m at (inr swapped) = (changed swapped.0 k.arrays).arrives m at swapped.1

pub does_work : (k : Knowledge) (scope : List Entry) (unset : ℕ → Bool) (s : Store) (old between new : Lines) (registers kept : ℕ)
    (b a : ℕ) (flag may_change : Bool) (made : Answer) → 2 ≤ registers
    → Does k.arrays old between (Agrees k scope unset s)
    (λ m end. PushesTwo registers b a flag may_change m end × LeavesItems scope kept m end)
    → Makes between new (HasOperands b a) (answered made)
    → (may_change ≡ true → Makes between new (HasOperands a b) (answered made))
    → Does k.arrays old new (Agrees k scope unset s)
    (λ m end. Pushes registers (answer made.word (flag || made.flag)) m end × LeavesItems scope kept m end)
does_work k scope unset s old between new registers kept b a flag may_change made least first works changed =
    does_both k.arrays old between new _ _ _ _ _ first
    (either_way k between new b a may_change made works changed)
    (λ m middle agrees after. after.0.operands)
    (λ m middle end agrees after at. (
      record {
        areg = ap (λ x. x.areg) at;
        breg = λ h. ap (λ x. x.breg) at ∙ after.0.creg h;
        creg = λ h. absurd (omega (arith, least, h));
        error = ap (λ x. x.error) at ∙ ap (λ e. e || made.flag) after.0.error ∙ or_assoc m.error flag made.flag;
      },
      record {
        blocks = λ i place stays. ap (λ x. x.blocks i place) at ∙ after.1.blocks i place stays;
        to_come = ap (λ x. x.to_come) at ∙ after.1.to_come;
        sent = ap (λ x. x.sent) at ∙ after.1.sent;
        traced = ap (λ x. x.traced) at ∙ after.1.traced;
      },
    ))

-- ---- the ways of two operands

-- what fewer registers than there are need
pub suffices_above : (k : Knowledge) (registers n : ℕ) (e : Expression) → 1 ≤ n → (n ≤ 1 → IsTrue (is_simple k e)) → n < registers → registers ≤ 3
    → Suffices k (registers - 1) e
suffices_above k registers n e least simple less most =
    record { least = omega arith; most = omega arith; simple = λ one. simple (omega (arith, one, less)) }

constant_simple : (k : Knowledge) (e : Expression) (c : ℕ) → constant_in k e ≡ Some c → is_simple k e ≡ true
constant_simple k (expression.Constant d) c is = refl
constant_simple k (expression.Variable x) c is = refl
constant_simple k e c is = cc

-- the right operand above the left one
pub in_order_computes : (k k1 : Knowledge) (old between new : Lines) (left right : Expression) (b a : Store → Answer) (may_change : Bool) (registers kept : ℕ)
    → k1 ≡ k → ComputesTo k old between left b registers kept → ComputesTo k1 between new right a (registers - 1) kept
    → (registers ≤ 3 → Suffices k (registers - 1) right)
    → ComputesTwo k old new left right b a may_change registers kept
in_order_computes k k1 old between new left right b a may_change registers kept same first second enough storages scope unset s place one two least most knows =
    let second : ComputesTo k between new right a (registers - 1) kept = subst (λ k. ComputesTo k between new right a (registers - 1) kept) same second in
    does_less k.arrays old new _ _ _ _
    (does_above k scope unset s old between new registers kept (b s) (a s) least most
    (first storages scope unset s place one (suffices_two k registers left least most) knows)
    (second storages scope unset s place two (enough most) knows))
    (λ m said. said)
    (λ m end said after. (two_fixed registers (b s).word (a s).word ((b s).flag || (a s).flag) may_change m end after.0, after.1))

-- the left operand above the right one, which may stay
pub changed_computes : (k k1 : Knowledge) (old between new : Lines) (left right : Expression) (b a : Store → Answer) (may_change : Bool) (registers kept : ℕ)
    → k1 ≡ k → may_change ≡ true → ComputesTo k old between right a registers kept → ComputesTo k1 between new left b (registers - 1) kept
    → (registers ≤ 3 → Suffices k (registers - 1) left)
    → ComputesTwo k old new left right b a may_change registers kept
changed_computes k k1 old between new left right b a may_change registers kept same may first second enough storages scope unset s place one two least most knows =
    let second : ComputesTo k between new left b (registers - 1) kept = subst (λ k. ComputesTo k between new left b (registers - 1) kept) same second in
    does_less k.arrays old new _ _ _ _
    (does_above k scope unset s old between new registers kept (a s) (b s) least most
    (first storages scope unset s place two (suffices_two k registers right least most) knows)
    (second storages scope unset s place one (enough most) knows))
    (λ m said. said)
    (λ m end said after. (two_changed registers (b s).word (a s).word (b s).flag (a s).flag may_change m end may after.0, after.1))

-- .. or changes places with it
pub reversed_computes : (k k1 : Knowledge) (old between above new : Lines) (source : ℕ) (left right : Expression) (b a : Store → Answer) (may_change : Bool) (registers kept : ℕ)
    → k1 ≡ k → ComputesTo k old between right a registers kept → ComputesTo k1 between above left b (registers - 1) kept
    → (registers ≤ 3 → Suffices k (registers - 1) left) → new ≡ followed_by above (line_of source (Plain Rev) ∷ [])
    → ComputesTwo k old new left right b a may_change registers kept
reversed_computes k k1 old between above new source left right b a may_change registers kept same first second enough is storages scope unset s place one two least most knows =
    let second : ComputesTo k between above left b (registers - 1) kept = subst (λ k. ComputesTo k between above left b (registers - 1) kept) same second in
    does_less k.arrays old new _ _ _ _
    (does_rev k scope unset s old above new source registers kept (b s).word (a s).word (b s).flag (a s).flag is
    (does_above k scope unset s old between above registers kept (a s) (b s) least most
    (first storages scope unset s place two (suffices_two k registers right least most) knows)
    (second storages scope unset s place one (enough most) knows)))
    (λ m said. said)
    (λ m end said after. (two_fixed registers (b s).word (a s).word ((b s).flag || (a s).flag) may_change m end after.0, after.1))

-- the right operand kept in a word while the left one is evaluated
pub kept_computes : (k k1 : Knowledge) (old first_code saved between new : Lines) (source : ℕ) (left right : Expression) (b a : Store → Answer) (may_change : Bool)
    (registers kept : ℕ) → k1 ≡ k
    → ComputesTo k old first_code right a registers kept
    → ((storages : List Storage) (scope : List Entry) (unset : ℕ → Bool) (s : Store) → IsPlace k storages scope
    → MayStand k storages scope unset right → Knows k scope unset s → (a s).word < 2 ^ 32)
    → saved ≡ followed_by first_code (line_of source (StoreTo (item.Temporary kept) 0) ∷ [])
    → ComputesTo k1 saved between left b registers (kept + 1)
    → new ≡ followed_by between (line_of source (Load (item.Temporary kept) 0) ∷ [])
    → ComputesTwo k old new left right b a may_change registers kept
kept_computes k k1 old first_code saved between new source left right b a may_change registers kept same first small save second recall storages scope unset s place one two least most knows =
    let second : ComputesTo k saved between left b registers (kept + 1) = subst (λ k. ComputesTo k saved between left b registers (kept + 1)) same second in
    does_less k.arrays old new _ _ _ _
    (does_recalled k scope unset s old saved between new source registers kept (b s) (a s) (small storages scope unset s place two knows)
    (does_keep k scope unset s old first_code saved source registers kept (a s)
    (first storages scope unset s place two (suffices_two k registers right least most) knows) save)
    (second storages scope unset s place one (suffices_two k registers left least most) knows) recall)
    (λ m said. said)
    (λ m end said after. (two_fixed registers (b s).word (a s).word ((b s).flag || (a s).flag) may_change m end after.0, after.1))

-- the left operand kept in a word while the right one is evaluated
pub kept_reversed_computes : (k k1 : Knowledge) (old first_code saved between recalled new : Lines) (source : ℕ) (left right : Expression) (b a : Store → Answer) (may_change : Bool)
    (registers kept : ℕ) → k1 ≡ k
    → ComputesTo k old first_code left b registers kept
    → ((storages : List Storage) (scope : List Entry) (unset : ℕ → Bool) (s : Store) → IsPlace k storages scope
    → MayStand k storages scope unset left → Knows k scope unset s → (b s).word < 2 ^ 32)
    → saved ≡ followed_by first_code (line_of source (StoreTo (item.Temporary kept) 0) ∷ [])
    → ComputesTo k1 saved between right a registers (kept + 1)
    → recalled ≡ followed_by between (line_of source (Load (item.Temporary kept) 0) ∷ [])
    → new ≡ followed_by recalled (line_of source (Plain Rev) ∷ [])
    → ComputesTwo k old new left right b a may_change registers kept
kept_reversed_computes k k1 old first_code saved between recalled new source left right b a may_change registers kept same first small save second recall rev storages scope unset s place one two least most knows =
    let second : ComputesTo k saved between right a registers (kept + 1) = subst (λ k. ComputesTo k saved between right a registers (kept + 1)) same second in
    does_less k.arrays old new _ _ _ _
    (does_rev k scope unset s old recalled new source registers kept (b s).word (a s).word (b s).flag (a s).flag rev
    (does_recalled k scope unset s old saved between recalled source registers kept (a s) (b s) (small storages scope unset s place one knows)
    (does_keep k scope unset s old first_code saved source registers kept (b s)
    (first storages scope unset s place one (suffices_two k registers left least most) knows) save)
    (second storages scope unset s place two (suffices_two k registers right least most) knows) recall))
    (λ m said. said)
    (λ m end said after. (two_fixed registers (b s).word (a s).word ((b s).flag || (a s).flag) may_change m end after.0, after.1))

-- a shift's count that needs one register is a constant
pub suffices_count : (k : Knowledge) (registers n : ℕ) (count : Expression) → 1 ≤ n → (n ≤ 1 → IsConstantBelow k count 32) → n < registers → registers ≤ 3
    → Suffices k (registers - 1) count
suffices_count k registers n count least constant less most =
    record { least = omega arith; most = omega arith; simple = λ one. let is = constant (omega (arith, one, less)) in constant_simple k count is.0 is.1 }

-- of what was kept in a word the verifier knows nothing
pub recalled_holds : (value recalled : Value) (word : ℕ) → recalled ≡ record { source = value.source; known = full } → Holds value word → Holds recalled word
recalled_holds value recalled word is holds = record {
  small = holds.small;
  source = subst (λ (v : Value). Contains v.source word) (sym is) holds.source;
  known = subst (λ (v : Value). Contains v.known word) (sym is) (full_contains word holds.small);
}

-- ---- an operator

nat_eq_comm : (b a : ℕ) → nat_eq b a ≡ nat_eq a b
nat_eq_comm b a = grind (arith, nat_tests)

pub applied_commutes : (operator : Operator) (b a : ℕ) → commutes operator ≡ true → applied operator b a ≡ applied operator a b
applied_commutes operators.Add b a e = ap checked (+ℤ_comm (signed b) (signed a))
applied_commutes operators.Multiply b a e = ap checked (*ℤ_comm (signed b) (signed a))
applied_commutes operators.Plus b a e = ap wrapped (+ℤ_comm (pos b) (pos a))
applied_commutes operators.Times b a e = ap wrapped (*ℤ_comm (signed b) (signed a))
applied_commutes operators.BitAnd b a e = ap pure (and_comm b a)
applied_commutes operators.BitOr b a e = ap pure (bits_or_comm b a)
applied_commutes operators.BitXor b a e = ap pure (xor_comm b a)
applied_commutes operators.Equal b a e = ap (λ t. pure (truth t)) (nat_eq_comm b a)
applied_commutes operator b a e = cc

-- two operands, and what an operator makes of them
pub applied_computes : (k k1 : Knowledge) (old between new : Lines) (operator : Operator) (left right : Expression) (b a : Value) (may_change : Bool) (registers kept : ℕ)
    → k1 ≡ k → may_change ≡ commutes operator
    → ComputesTwo k old between left right (value_of left) (value_of right) may_change registers kept
    → IsKnown k left b → IsKnown k right a
    → ((vb va : ℕ) → Holds b vb → Holds a va → HasCount operator va → Makes between new (HasOperands vb va) (answered (applied operator vb va)))
    → ((vb va : ℕ) → Holds b vb → Holds a va → commutes operator ≡ true → HasCount operator vb → Makes between new (HasOperands va vb) (answered (applied operator vb va)))
    → IsNoShift operator → 2 ≤ registers
    → ComputesBoth k old new left right (applied_value operator left right) registers kept
applied_computes k k1 old between new operator left right b a may_change registers kept same may two left_known right_known makes swapped unshifted more storages scope unset s place one other least most knows =
    let l = value_of left s in
    let r = value_of right s in
    let made = applied operator l.word r.word in
    let hb = left_known storages scope unset s place one knows in
    let ha = right_known storages scope unset s place other knows in
    does_less k.arrays old new _ _ _ _
    (does_work k scope unset s old between new registers kept l.word r.word (l.flag || r.flag) may_change made more
    (two storages scope unset s place one other more most knows)
    (makes l.word r.word hb ha (count_of_no_shift operator r.word unshifted))
    (λ yes. swapped l.word r.word hb ha (sym may ∙ yes) (count_of_no_shift operator l.word unshifted)))
    (λ m said. said)
    (λ m end said after. subst (λ f. Pushes registers (answer made.word f) m end × LeavesItems scope kept m end) (or_assoc l.flag r.flag made.flag) after)

pub applied_known : (k : Knowledge) (operator : Operator) (left right : Expression) (b a made : Value) → IsKnown k left b → IsKnown k right a
    → ((vb va : ℕ) → Holds b vb → Holds a va → Holds made (applied operator vb va).word)
    → IsKnownOfBoth k left right (applied_value operator left right) made
applied_known k operator left right b a made left_known right_known holds storages scope unset s place one two knows =
    holds (value_of left s).word (value_of right s).word (left_known storages scope unset s place one knows) (right_known storages scope unset s place two knows)

-- ---- a constant and an operand

does_constant : (k : Knowledge) (scope : List Entry) (unset : ℕ → Bool) (s : Store) (old new : Lines) (c registers kept : ℕ) → 1 ≤ registers
    → Makes old new HasConstants (push (number c))
    → Does k.arrays old new (Agrees k scope unset s) (λ m end. Pushes registers (pure c) m end × LeavesItems scope kept m end)
does_constant k scope unset s old new c registers kept least makes =
    does_less k.arrays old new _ _ _ _ (makes k.arrays) (λ m said. said.constants)
    (λ m end said after. alone_pushes registers kept scope (pure c) m end least (pushes_alone c (place_behind new) m end after))

pub first_above_computes : (k : Knowledge) (old pushed between new : Lines) (operator : Operator) (right : Expression) (c : ℕ) (b a : Value) (registers kept : ℕ)
    → Holds b c → Makes old pushed HasConstants (push (number c))
    → Computes k pushed between right (registers - 1) kept → IsKnown k right a → (registers ≤ 3 → Suffices k (registers - 1) right)
    → ((vb va : ℕ) → Holds b vb → Holds a va → HasCount operator va → Makes between new (HasOperands vb va) (answered (applied operator vb va)))
    → IsNoShift operator → 2 ≤ registers
    → ComputesTo k old new right (applied_first operator c right) registers kept
first_above_computes k old pushed between new operator right c b a registers kept hb makes computes known enough works unshifted more storages scope unset s place stands suffices knows =
    let r = value_of right s in
    let ha = known storages scope unset s place stands knows in
    does_work k scope unset s old between new registers kept c r.word (false || r.flag) false (applied operator c r.word) more
    (does_above k scope unset s old pushed between registers kept (pure c) r more suffices.most
    (does_constant k scope unset s old pushed c registers kept suffices.least makes)
    (computes storages scope unset s place stands (enough suffices.most) knows))
    (works c r.word hb ha (count_of_no_shift operator r.word unshifted)) (λ yes. absurd (false_true yes))

pub first_below_computes : (k : Knowledge) (old between pushed reversed new : Lines) (source : ℕ) (operator : Operator) (right : Expression) (c : ℕ) (b a : Value) (registers kept : ℕ)
    → Computes k old between right registers kept → IsKnown k right a
    → Holds b c → Makes between pushed HasConstants (push (number c)) → reversed ≡ followed_by pushed (line_of source (Plain Rev) ∷ [])
    → ((vb va : ℕ) → Holds b vb → Holds a va → HasCount operator va → Makes reversed new (HasOperands vb va) (answered (applied operator vb va)))
    → IsNoShift operator → 2 ≤ registers
    → ComputesTo k old new right (applied_first operator c right) registers kept
first_below_computes k old between pushed reversed new source operator right c b a registers kept computes known hb makes is works unshifted more storages scope unset s place stands suffices knows =
    let r = value_of right s in
    let ha = known storages scope unset s place stands knows in
    does_work k scope unset s old reversed new registers kept c r.word (false || r.flag) false (applied operator c r.word) more
    (does_rev k scope unset s old pushed reversed source registers kept c r.word false r.flag is
    (does_above k scope unset s old between pushed registers kept r (pure c) more suffices.most
    (computes storages scope unset s place stands suffices knows)
    (does_constant k scope unset s between pushed c (registers - 1) kept (omega (arith, more)) makes)))
    (works c r.word hb ha (count_of_no_shift operator r.word unshifted)) (λ yes. absurd (false_true yes))

pub first_known : (k : Knowledge) (operator : Operator) (right : Expression) (c : ℕ) (b a made : Value) → Holds b c → IsKnown k right a
    → ((vb va : ℕ) → Holds b vb → Holds a va → Holds made (applied operator vb va).word)
    → IsKnownOf k right (applied_first operator c right) made
first_known k operator right c b a made hb known holds storages scope unset s place stands knows =
    holds c (value_of right s).word hb (known storages scope unset s place stands knows)

-- ---- operands that have changed places

both_swapped : (operator : Operator) (l r : Answer) → commutes operator ≡ true
    → bind r (λ b. bind l (applied operator b)) ≡ bind l (λ b. bind r (applied operator b))
both_swapped operator l r commute =
    ap (λ (x : Answer). answer x.word (r.flag || (l.flag || x.flag))) (applied_commutes operator r.word l.word commute)
    ∙ ap (answer (applied operator l.word r.word).word)
    (sym (or_assoc r.flag l.flag (applied operator l.word r.word).flag) ∙ ap (λ f. f || (applied operator l.word r.word).flag) (or_comm r.flag l.flag)
    ∙ or_assoc l.flag r.flag (applied operator l.word r.word).flag)

pub swapped_computes : (k : Knowledge) (old new : Lines) (operator : Operator) (left right : Expression) (registers kept : ℕ) → commutes operator ≡ true
    → ComputesBoth k old new right left (applied_value operator right left) registers kept
    → ComputesBoth k old new left right (applied_value operator left right) registers kept
swapped_computes k old new operator left right registers kept commute both storages scope unset s place one two least most knows =
    does_less k.arrays old new _ _ _ _ (both storages scope unset s place two one least most knows) (λ m said. said)
    (λ m end said after. subst (λ x. Pushes registers x m end × LeavesItems scope kept m end) (both_swapped operator (value_of left s) (value_of right s) commute) after)

pub swapped_known : (k : Knowledge) (operator : Operator) (left right : Expression) (value : Value) → commutes operator ≡ true
    → IsKnownOfBoth k right left (applied_value operator right left) value → IsKnownOfBoth k left right (applied_value operator left right) value
swapped_known k operator left right value commute known storages scope unset s place one two knows =
    subst (λ (x : Answer). Holds value x.word) (both_swapped operator (value_of left s) (value_of right s) commute)
    (known storages scope unset s place two one knows)

-- ---- shifts

abbrev pub IsShift : Operator → Type 0
IsShift operator = (operator ≡ operators.ShiftLeft) ⊎ (operator ≡ operators.ShiftRight)

shift_again : (operator : Operator) (b a : ℕ) → IsShift operator
    → applied operator b (subscript 32 a).word ≡ answer (applied operator b a).word false
shift_again operator b a (inl e) =
    let below = subscript_word_below 32 a (omega arith) in
    rw e (ap (λ (x : Answer). answer (low_word (pos (b * 2 ^ x.word))) x.flag) (subscript_below 32 (subscript 32 a).word below))
shift_again operator b a (inr e) =
    let below = subscript_word_below 32 a (omega arith) in
    rw e (ap (λ (x : Answer). answer (b / 2 ^ x.word) x.flag) (subscript_below 32 (subscript 32 a).word below))

shift_flag : (operator : Operator) (b a : ℕ) → IsShift operator → (applied operator b a).flag ≡ (subscript 32 a).flag
shift_flag operator b a (inl e) = rw e refl
shift_flag operator b a (inr e) = rw e refl

shift_count : (operator : Operator) (a : ℕ) → IsShift operator → a < 32 → HasCount operator a
shift_count operator a (inl e) h = rw e h
shift_count operator a (inr e) h = rw e h

-- no instruction with an operand shifts, and operands of shifts do not commute
shift_immediate : (k : Knowledge) (operator : Operator) (e : Expression) → IsShift operator → is_immediate k operator e ≡ false
shift_immediate k operator e (inl is) = rw is (by_constant (constant_in k e))
  where
    by_constant : (o : Option ℕ) → option_map_or (has_immediate operators.ShiftLeft) o false ≡ false
    by_constant None = refl
    by_constant (Some c) = refl
shift_immediate k operator e (inr is) = rw is (by_constant (constant_in k e))
  where
    by_constant : (o : Option ℕ) → option_map_or (has_immediate operators.ShiftRight) o false ≡ false
    by_constant None = refl
    by_constant (Some c) = refl

shift_commutes : (operator : Operator) → IsShift operator → commutes operator ≡ false
shift_commutes operator (inl e) = rw e refl
shift_commutes operator (inr e) = rw e refl

shift_registers : (k : Knowledge) (operator : Operator) (left count : Expression) (registers : ℕ) → IsShift operator
    → (registers ≤ 1 → IsSimplePair k operator left count) → 2 ≤ registers
shift_registers k operator left count registers which enough = by_number (cases_lt 1 registers)
  where
    none : ((is_immediate k operator count && is_simple k left) || (commutes operator && is_immediate k operator left && is_simple k count)) ≡ false
    none = rw (shift_immediate k operator count which) (rw (shift_commutes operator which) refl)

    by_number : (1 < registers) ⊎ (registers ≤ 1) → 2 ≤ registers
    by_number (inl more) = more
    by_number (inr one) = absurd (false_true (sym none ∙ enough one))

pub shift_computes : (k : Knowledge) (old between new : Lines) (operator : Operator) (left count : Expression) (b a : Value) (registers kept : ℕ)
    → IsShift operator
    → ComputesTwo k old between left count (value_of left) (subscript_value count 32) false registers kept
    → IsKnown k left b → IsKnownOf k count (subscript_value count 32) a
    → ((vb va : ℕ) → Holds b vb → Holds a va → HasCount operator va → Makes between new (HasOperands vb va) (answered (applied operator vb va)))
    → (registers ≤ 1 → IsSimplePair k operator left count)
    → ComputesBoth k old new left count (applied_value operator left count) registers kept
shift_computes k old between new operator left count b a registers kept which two left_known count_known works enough storages scope unset s place one other least most knows =
    let more = shift_registers k operator left count registers which enough in
    let l = value_of left s in
    let c = value_of count s in
    let r = subscript_value count 32 s in
    let hb = left_known storages scope unset s place one knows in
    let ha = count_known storages scope unset s place other knows in
    let made = applied operator l.word r.word in
    let below : r.word < 32 = subscript_word_below 32 c.word (omega arith) in
    let again : answer made.word ((l.flag || r.flag) || made.flag) ≡ applied_value operator left count s =
    ap (λ (x : Answer). answer x.word ((l.flag || r.flag) || x.flag)) (shift_again operator l.word c.word which)
    ∙ ap (answer (applied operator l.word c.word).word) (or-false (l.flag || r.flag)
    ∙ ap (λ f. l.flag || (c.flag || f)) (sym (shift_flag operator l.word c.word which))) in
    does_less k.arrays old new _ _ _ _
    (does_work k scope unset s old between new registers kept l.word r.word (l.flag || r.flag) false made more
    (two storages scope unset s place one other more most knows)
    (works l.word r.word hb ha (shift_count operator r.word which below)) (λ yes. absurd (false_true yes)))
    (λ m said. said)
    (λ m end said after. subst (λ x. Pushes registers x m end × LeavesItems scope kept m end) again after)

pub shift_known : (k : Knowledge) (operator : Operator) (left count : Expression) (b a made : Value) → IsShift operator
    → IsKnown k left b → IsKnownOf k count (subscript_value count 32) a
    → ((vb va : ℕ) → Holds b vb → Holds a va → Holds made (applied operator vb va).word)
    → IsKnownOfBoth k left count (applied_value operator left count) made
shift_known k operator left count b a made which left_known count_known holds storages scope unset s place one other knows =
    subst (λ (x : Answer). Holds made x.word) (shift_again operator (value_of left s).word (value_of count s).word which)
    (holds (value_of left s).word (subscript_value count 32 s).word (left_known storages scope unset s place one knows)
    (count_known storages scope unset s place other knows))

-- ---- registers of operands

pub swapped_commutes : (k : Knowledge) (operator : Operator) (left right : Expression) → is_swapped k operator left right ≡ true
    → commutes operator ≡ true
swapped_commutes k operator left right e = and_first _ _ (and_first _ _ (and_first _ _ e))

either_of : (a b : Bool) → (a || b) ≡ true → (a ≡ true) ⊎ (b ≡ true)
either_of true b e = inl refl
either_of false b e = inr e

not_true : (b : Bool) → not b ≡ true → b ≡ false
not_true true e = absurd (false_true e)
not_true false e = refl

true_false : (b : Bool) → b ≡ true → b ≡ false → ⊥
true_false true e f = false_true (sym f)
true_false false e f = false_true e

and_both : (a b : Bool) → a ≡ true → b ≡ true → (a && b) ≡ true
and_both true b p q = q
and_both false b p q = absurd (false_true p)

-- where operands change places, it is the left one that is the operand of an instruction
pub swapped_immediate : (k : Knowledge) (operator : Operator) (left right : Expression) → is_swapped k operator left right ≡ true
    → IsSimplePair k operator left right → HasImmediate k operator right left
swapped_immediate k operator left right swapped pair = by_which (either_of _ _ pair)
  where
    by_which : ((is_immediate k operator right && is_simple k left) ≡ true) ⊎ ((commutes operator && is_immediate k operator left && is_simple k right) ≡ true)
        → HasImmediate k operator right left
    by_which (inl direct) = absurd (true_false (is_immediate k operator right) (and_first _ _ direct) (not_true _ (and_second _ _ (and_first _ _ swapped))))
    by_which (inr other) =
        and_both (is_immediate k operator left) (is_simple k right)
        (and_second (commutes operator) (is_immediate k operator left) (and_first _ _ other)) (and_second _ _ other)

some_simple : (k : Knowledge) (e : Expression) → is_some (constant_in k e) ≡ true → is_simple k e ≡ true
some_simple k (expression.Constant d) is = refl
some_simple k (expression.Variable x) is = refl
some_simple k e is = cc

four_tests : (a b c d e : Bool) → a ≡ true → b ≡ true → c ≡ false → e ≡ true → (a && b && not c && (not d || e)) ≡ true
four_tests true true false true true p q r s = refl
four_tests true true false false true p q r s = refl
four_tests a b c d e p q r s = cc

pub fixed_immediate : (k : Knowledge) (operator : Operator) (left right : Expression) → is_swapped k operator left right ≡ false
    → IsSimplePair k operator left right → HasImmediate k operator left right
fixed_immediate k operator left right fixed pair = by_which (either_of _ _ pair)
  where
    immediate_some : (o : Option ℕ) → option_map_or (has_immediate operator) o false ≡ true → is_some o ≡ true
    immediate_some None e = absurd (false_true e)
    immediate_some (Some c) e = refl

    by_right : (b : Bool) → is_immediate k operator right ≡ b → commutes operator ≡ true → is_immediate k operator left ≡ true
        → HasImmediate k operator left right
    by_right true e commute is = and_both (is_immediate k operator right) (is_simple k left) e
        (some_simple k left (immediate_some (constant_in k left) is))
    by_right false e commute is =
        absurd (true_false (is_swapped k operator left right)
        (four_tests (commutes operator) (is_some (constant_in k left)) (is_immediate k operator right) (is_some (constant_in k right))
        (is_immediate k operator left) commute (immediate_some (constant_in k left) is) e is) fixed)

    by_which : ((is_immediate k operator right && is_simple k left) ≡ true) ⊎ ((commutes operator && is_immediate k operator left && is_simple k right) ≡ true)
        → HasImmediate k operator left right
    by_which (inl direct) = direct
    by_which (inr other) = by_right (is_immediate k operator right) refl (and_first (commutes operator) (is_immediate k operator left) (and_first _ _ other))
        (and_second (commutes operator) (is_immediate k operator left) (and_first _ _ other))

-- a count above another operand, and one evaluated while the other is kept
pub count_above : (k k1 : Knowledge) (between new : Lines) (count : Expression) (room less : Allocation) (n : ℕ)
    → k1 ≡ k → less ≡ record room { registers = room.registers - 1 } → 1 ≤ n → (n ≤ 1 → IsConstantBelow k count 32) → n < room.registers
    → (0 < 32 → 32 ≤ 2 ^ 31 → (less.registers ≤ 1 → IsConstantBelow k1 count 32)
    → ComputesTo k1 between new count (subscript_value count 32) less.registers less.next_temporary)
    → ComputesTo k1 between new count (subscript_value count 32) (room.registers - 1) room.next_temporary
count_above k k1 between new count room less n same is least constant fits computes =
    subst (λ (r : Allocation). ComputesTo k1 between new count (subscript_value count 32) r.registers r.next_temporary) is
    (computes (omega arith) (omega arith)
    (λ few. subst (λ k. IsConstantBelow k count 32) (sym same) (constant (omega (arith, few, fits, ap (λ (r : Allocation). r.registers) is)))))

pub count_beside : (k1 : Knowledge) (between new : Lines) (count : Expression) (room more : Allocation)
    → more ≡ record room { next_temporary = room.next_temporary + 1 } → 2 ≤ room.registers
    → (0 < 32 → 32 ≤ 2 ^ 31 → (more.registers ≤ 1 → IsConstantBelow k1 count 32)
    → ComputesTo k1 between new count (subscript_value count 32) more.registers more.next_temporary)
    → ComputesTo k1 between new count (subscript_value count 32) room.registers (room.next_temporary + 1)
count_beside k1 between new count room more is least computes =
    subst (λ (r : Allocation). ComputesTo k1 between new count (subscript_value count 32) r.registers r.next_temporary) is
    (computes (omega arith) (omega arith) (λ few. absurd (omega (arith, few, least, ap (λ (r : Allocation). r.registers) is))))
