-- What takes the results of a FUNCTION with a body.
use Rattle.std.proofs.Common.{◌≡◌, ℕ, List, [], ◌∷◌, ◌++◌, refl, sym, ap, ◌∙◌}
use Rattle.std.specs.declared.boxed.Box.{Box}
use Rattle.std.specs.declared.alloc.Global.{Global}
use Rattle.tpw_occam_terms.specs.declared.name.Primitive.{Primitive}
use Rattle.tpw_occam_meaning.specs.declared.expression.Expression.{Expression}
use Rattle.tpw_occam_meaning.specs.declared.expression.Expressions.{Expressions}
use Rattle.tpw_occam_meaning.specs.declared.expression.Expressions.TheVariants.{More}
use Rattle.tpw_occam_meaning.specs.Calls.{referred, entered}
use Rattle.tpw_occam_meaning.specs.Effects.{Effect}
use Rattle.tpw_occam_meaning.specs.Names.{Place, Form, OfVariable, Names, behind}
use Rattle.tpw_occam_meaning.specs.Values.{Value}
use Rattle.tpw_occam_scoped.specs.Made.{depth_behind, passed_to}

one_behind : (places : List Place) (place : Place) (more : List Place) → places ++ (place ∷ more) ≡ (places ++ (place ∷ [])) ++ more
one_behind [] place more = refl
one_behind (first ∷ places) place more = ap (λ l. first ∷ l) (one_behind places place more)

module _ (names : Names) (does : List Place → ℕ → Effect) (targets : Expressions) (forms : List Form) (places : List Place) (d : ℕ) (r : Effect) where
  -- one target, and those behind it
  pub one_taken : (e : Box Expression Global) (m : Box Expressions Global) (e' : Expression) (m' : Expressions) (others : List Form)
      (of : Primitive) (v : Value) (place : Place) (n : ℕ) (all : List Place) (rest : Effect) → targets ≡ More e m → e' ≡ e.value → m' ≡ m.value →
      forms ≡ OfVariable of ∷ others →
      ((next : Place → ℕ → Effect) → referred e' of names d next ≡ passed_to d v (next place (depth_behind d v))) →
      n ≡ depth_behind d v → all ≡ places ++ (place ∷ []) → rest ≡ entered m' others (λ more n. does (all ++ more) n) names n →
      r ≡ passed_to d v rest → r ≡ entered targets forms (λ more n. does (places ++ more) n) names d
  one_taken e m e' m' others of v place n all rest targets-is e-is m-is forms-is refers n-is all-is rest-is r-is =
      let one = λ (more : List Place) (n : ℕ). does (places ++ more) n in
      let next = λ (place : Place) (n : ℕ). entered m.value others (behind place one) names n in
      sym ((λ i. entered (targets-is i) (forms-is i) one names d)
      ∙ ap (λ x. referred x of names d next) (sym e-is) ∙ refers next
      ∙ ap (passed_to d v)
      ((λ i. entered (sym m-is i) others (behind place one) names (sym n-is i))
      ∙ (λ i. entered m' others (λ more n. does (one_behind places place more i) n) names n)
      ∙ (λ i. entered m' others (λ more n. does (sym all-is i ++ more) n) names n)
      ∙ sym rest-is)
      ∙ sym r-is)
