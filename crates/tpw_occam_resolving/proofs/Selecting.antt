-- What a CASE selects.
use Rattle.std.proofs.Common.{◌≡◌, ℕ, ◌==◌, Bool, true, false, ◌||◌, if◌then◌else◌, List, [], ◌∷◌, length, Some, None, refl, sym, ap, ◌∙◌}
use Rattle.std.proofs.Common.{nat_eq, arith}
use Rattle.std.proofs.lemmas.Bool.Decides.{nat_tests}
use Rattle.std.specs.List.{list_any}
use Rattle.std.specs.declared.boxed.Box.{Box}
use Rattle.std.specs.declared.alloc.Global.{Global}
use Rattle.tp_words.specs.Numbers.{truth}
use Rattle.tpw_occam_core.specs.declared.expression.Operator.TheVariants.{Equal}
use Rattle.tpw_occam_core.specs.Arithmetic.{pure, applied}
use Rattle.tpw_occam_core.specs.Meaning.{bind, either}
use Rattle.tpw_occam_meaning.specs.declared.expression.Expression as tree
use Rattle.tpw_occam_terms.specs.declared.span.Span.{Span}
use Rattle.tpw_occam_meaning.specs.declared.tree.Cases.{Cases}
use Rattle.tpw_occam_meaning.specs.declared.tree.Process.{Process}
use Rattle.tpw_occam_meaning.specs.declared.tree.Process.TheVariants as process
use Rattle.tpw_occam_meaning.specs.Effects.{Effect, guarded_by, selected_by}
use Rattle.tpw_occam_meaning.specs.Names.{Word, Names, word_in}
use Rattle.tpw_occam_meaning.specs.Processes.{run}
use Rattle.tpw_occam_meaning.specs.States.{State, flagged, chosen}
use Rattle.tpw_occam_meaning.specs.Values.{Varying}
use Rattle.tpw_occam_scoped.specs.declared.expression.Expression.{Expression}
use Rattle.tpw_occam_scoped.specs.Meaning.{value_of}
use Rattle.tpw_occam_resolving.specs.Cases.{cased}

either_made : (b r : Bool) → bind (pure (truth b)) (λ a. either a (pure (truth r))) ≡ pure (truth (b || r))
either_made true true = refl
either_made true false = refl
either_made false true = refl
either_made false false = refl

or_false : (p : Bool) → (p || false) ≡ p
or_false true = refl
or_false false = refl

-- the last constant
pub last_made : (equal w : Expression) (first : ℕ) (more all : List ℕ) (word : Word) → all ≡ first ∷ more →
    true ≡ nat_eq (length more) 0 →
    value_of w ≡ (λ s. pure (word_in word s)) →
    value_of equal ≡ (λ s. bind (pure first) (λ b. bind (value_of w s) (applied Equal b))) →
    value_of equal ≡ (λ s. pure (truth (list_any (λ c. c == word_in word s) all)))
last_made equal w first [] all word all-is none w-is equal-is =
    equal-is
    ∙ (λ i s. bind (pure first) (λ b. bind (w-is i s) (applied Equal b)))
    ∙ (λ i s. pure (truth (sym (or_false (first == word_in word s)) i)))
    ∙ (λ i s. pure (truth (list_any (λ c. c == word_in word s) (sym all-is i))))
last_made equal w first (x ∷ more) all word all-is none w-is equal-is = absurd (grind (arith, nat_tests, none))

-- one constant more
pub one_more_made : (e equal others w : Expression) (first : ℕ) (more all : List ℕ) (word : Word) → all ≡ first ∷ more →
    value_of w ≡ (λ s. pure (word_in word s)) →
    value_of equal ≡ (λ s. bind (pure first) (λ b. bind (value_of w s) (applied Equal b))) →
    value_of others ≡ (λ s. pure (truth (list_any (λ c. c == word_in word s) more))) →
    value_of e ≡ (λ s. bind (value_of equal s) (λ a. either a (value_of others s))) →
    value_of e ≡ (λ s. pure (truth (list_any (λ c. c == word_in word s) all)))
one_more_made e equal others w first more all word all-is w-is equal-is others-is e-is =
    e-is
    ∙ (λ i s. bind (equal-is i s) (λ a. either a (others-is i s)))
    ∙ (λ i s. bind (bind (pure first) (λ b. bind (w-is i s) (applied Equal b)))
    (λ a. either a (pure (truth (list_any (λ c. c == word_in word s) more)))))
    ∙ (λ i s. either_made (first == word_in word s) (list_any (λ c. c == word_in word s) more) i)
    ∙ (λ i s. pure (truth (list_any (λ c. c == word_in word s) (sym all-is i))))

not_flagged : (s : State) → flagged false s ≡ s
not_flagged s = λ i. record s { flag = or_false s.flag i }

chosen_is : (b : Bool) (f g : State → State) (s : State) →
    chosen (truth b) f g (flagged false s) ≡ (if b then f else g) s
chosen_is true f g s = ap f (not_flagged s)
chosen_is false f g s = ap g (not_flagged s)

selected_step : (word : Word) (constants : List ℕ) (f g : Effect) →
    guarded_by (Varying (λ s. pure (truth (list_any (λ c. c == word_in word s) constants)))) f g ≡ selected_by word constants f g
selected_step word constants None g = refl
selected_step word constants (Some f) None = refl
selected_step word constants (Some f) (Some g) =
    λ i. Some (λ s. chosen_is (list_any (λ c. c == word_in word s) constants) f g s i)

pub selected_made : (word : Word) (constants : List ℕ) (guard : Expression) (f g : Effect) →
    value_of guard ≡ (λ s. pure (truth (list_any (λ c. c == word_in word s) constants))) →
    guarded_by (Varying (value_of guard)) f g ≡ selected_by word constants f g
selected_made word constants guard f g guard-is =
    ap (λ v. guarded_by (Varying v) f g) guard-is ∙ selected_step word constants f g

-- the effect of a CASE
case_step : (e : tree.Expression) (l : Box Cases Global) (span : Span) (names : Names) (d : ℕ) →
    run (process.Case e l span) names d ≡ cased e l.value names d
case_step e l span names d = refl

pub case_run : (p : Process) (e : tree.Expression) (l : Box Cases Global) (list : Cases) (span : Span) (names : Names) (d : ℕ)
    (r : Effect) → p ≡ process.Case e l span → list ≡ l.value → r ≡ cased e list names d → r ≡ run p names d
case_run p e l list span names d r p-is list-is h =
    h ∙ ap (λ x. cased e x names d) list-is ∙ sym (case_step e l span names d) ∙ sym (ap (λ x. run x names d) p-is)
