-- Where an expression may stand its parts may.
use Rattle.std.proofs.Common.{Option, Some, None, Result, Ok, Err, OnOk, ◌≡◌, ◌⊎◌, inl, inr, Box, Global, ◌≤◌, ◌<◌, ◌^◌, ℕ, List, Bool, false, true, ◌||◌, refl, sym, ◌∙◌, arith}
use Rattle.std.specs.Prelude.{IsTrue}
use Rattle.std.proofs.lemmas.Bool.{ltb-true, leb-true, cases_lt}
use Rattle.tpw_occam_core.specs.declared.worker.Storage.{Storage}
use Rattle.tpw_occam_core.specs.declared.scope.Entry.{Entry}
use Rattle.tpw_occam_core.specs.declared.kind.Kind.{Kind}
use Rattle.tpw_occam_core.specs.declared.expression.Operator.{Operator}
use Rattle.tpw_occam_core.specs.declared.expression.Expression.{Expression}
use Rattle.tpw_occam_core.specs.declared.expression.Expression.TheVariants.{Element', Checked', Binary', Complement', Not', LowByte', And', Or'}
use Rattle.tpw_occam_core.specs.Sound.{is_seen}
use Rattle.tpw_occam_symbolic.proofs.Sizes.{and_first, and_second}
use Rattle.tpw_occam_expressions.specs.Agreement.{Knowledge}
use Rattle.tpw_occam_expressions.specs.Computing.{MayStand, Suffices, is_simple, reads}

pub or_first : (a b : Bool) → (a || b) ≡ false → a ≡ false
or_first true b e = e
or_first false b e = refl

pub or_second : (a b : Bool) → (a || b) ≡ false → b ≡ false
or_second true b e = cc
or_second false b e = e

-- where a box's contents lie
abbrev pub Place : Type 0
Place = Box (Unit {0}) Global

module _ (k : Knowledge) (storages : List Storage) (scope : List Entry) (unset : ℕ → Bool) where
  pub stand_checked : (below : ℕ) (p : Place) (e : Expression) → MayStand k storages scope unset (Checked' below p e)
      → (0 < below) × (below ≤ 2 ^ 31) × MayStand k storages scope unset e
  stand_checked below p e stands = (
    ltb-true 0 below (and_first _ _ (and_first _ _ stands.sound)),
    leb-true below (2 ^ 31) (and_second _ _ (and_first _ _ stands.sound)),
    record { sound = and_second _ _ stands.sound; assigned = stands.assigned },
  )

  pub stand_element : (a : ℕ) (kind : Kind) (p : Place) (e : Expression) → MayStand k storages scope unset (Element' a kind p e)
      → IsTrue (is_seen storages scope a kind) × MayStand k storages scope unset e
  stand_element a kind p e stands =
      (and_first _ _ stands.sound, record { sound = and_second _ _ stands.sound; assigned = stands.assigned })

  pub stand_binary : (operator : Operator) (p : Place) (e : Expression) (q : Place) (f : Expression)
      → MayStand k storages scope unset (Binary' operator p e q f)
      → MayStand k storages scope unset e × MayStand k storages scope unset f
  stand_binary operator p e q f stands = (
    record { sound = and_first _ _ stands.sound; assigned = λ x h. or_first _ _ (stands.assigned x h) },
    record { sound = and_second _ _ stands.sound; assigned = λ x h. or_second (reads e x) _ (stands.assigned x h) },
  )

  pub stand_and : (p : Place) (e : Expression) (q : Place) (f : Expression)
      → MayStand k storages scope unset (And' p e q f)
      → MayStand k storages scope unset e × MayStand k storages scope unset f
  stand_and p e q f stands = (
    record { sound = and_first _ _ stands.sound; assigned = λ x h. or_first _ _ (stands.assigned x h) },
    record { sound = and_second _ _ stands.sound; assigned = λ x h. or_second (reads e x) _ (stands.assigned x h) },
  )

  pub stand_or : (p : Place) (e : Expression) (q : Place) (f : Expression)
      → MayStand k storages scope unset (Or' p e q f)
      → MayStand k storages scope unset e × MayStand k storages scope unset f
  stand_or p e q f stands = (
    record { sound = and_first _ _ stands.sound; assigned = λ x h. or_first _ _ (stands.assigned x h) },
    record { sound = and_second _ _ stands.sound; assigned = λ x h. or_second (reads e x) _ (stands.assigned x h) },
  )

  pub stand_complement : (p : Place) (e : Expression) → MayStand k storages scope unset (Complement' p e) → MayStand k storages scope unset e
  stand_complement p e stands = record { sound = stands.sound; assigned = stands.assigned }

  pub stand_not : (p : Place) (e : Expression) → MayStand k storages scope unset (Not' p e) → MayStand k storages scope unset e
  stand_not p e stands = record { sound = stands.sound; assigned = stands.assigned }

  pub stand_low_byte : (p : Place) (e : Expression) → MayStand k storages scope unset (LowByte' p e) → MayStand k storages scope unset e
  stand_low_byte p e stands = record { sound = stands.sound; assigned = stands.assigned }

-- ---- registers

true_false : ◌≡◌ {A = Bool} false true → ⊥
true_false e = cc

-- one register is not enough for what is not simple
pub two_registers : (k : Knowledge) (registers : ℕ) (e : Expression) → is_simple k e ≡ false → Suffices k registers e → 2 ≤ registers
two_registers k registers e not suffices = by_number (cases_lt 1 registers)
  where
    by_number : (1 < registers) ⊎ (registers ≤ 1) → 2 ≤ registers
    by_number (inl more) = more
    by_number (inr one) = absurd (true_false (sym not ∙ suffices.simple one))

-- many registers are enough for anything
pub suffices_two : (k : Knowledge) (registers : ℕ) (e : Expression) → 2 ≤ registers → registers ≤ 3 → Suffices k registers e
suffices_two k registers e two most = record { least = omega arith; most = most; simple = λ one. absurd (omega arith) }

pub suffices_part : (k : Knowledge) (registers : ℕ) (e f : Expression) → (is_simple k e ≡ true → is_simple k f ≡ true) → Suffices k registers e
    → Suffices k registers f
suffices_part k registers e f part suffices = record { least = suffices.least; most = suffices.most; simple = λ one. part (suffices.simple one) }

-- two facts of one outcome
pub on_ok_both : {A E : Type 0} (P Q : Type 0) (r : Result A E) → OnOk r P → OnOk r Q → OnOk r (P × Q)
on_ok_both P Q (Ok x) p q = (p, q)
on_ok_both P Q (Err e) p q = tt

-- what is none of anything
pub none_of : {A : Type 0} (o : Option A) → ((x : A) → o ≡ Some x → ⊥) → o ≡ None
none_of None not_some = refl
none_of (Some x) not_some = absurd (not_some x refl)

-- where a box lies
pub place_of : {A : Type 0} → Box A Global → Place
place_of b = record { ptr = b.ptr; alloc = b.alloc; value = tt }
