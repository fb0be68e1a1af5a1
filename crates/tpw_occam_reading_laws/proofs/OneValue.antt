-- Two expressions with one writing have one value.
use Rattle.std.proofs.Common.{◌≡◌, ℕ, [], Option, Some, sym, ap, ◌∙◌}
use Rattle.tpw_occam_terms.specs.declared.name.Primitive.{Primitive}
use Rattle.tpw_occam_meaning.specs.declared.expression.Expression.{Expression}
use Rattle.tpw_occam_meaning.specs.Names.{Names}
use Rattle.tpw_occam_meaning.specs.Values.{Value}
use Rattle.tpw_occam_meaning.specs.Expressions.{value_of}
use Rattle.tpw_occam_reading.specs.Spelled.{spelled}
use Rattle.tpw_occam_reading_laws.proofs.Plain.{plain}
use Rattle.tpw_occam_reading_laws.proofs.Readings.{one_expression}
use Rattle.tpw_occam_reading_laws.proofs.Wellformed.{value_needs}
use Rattle.tpw_occam_reading_laws.proofs.Order.{names_refl}
use Rattle.tpw_occam_reading_laws.proofs.Meanings.{value_below}

-- two things that are one
pub one_of : {A : Type 0} (o : Option A) (x y : A) → o ≡ Some x → o ≡ Some y → x ≡ y
one_of o x y h k = cc (sym h ∙ k)

pub one_value : (a b : Expression) (of : Primitive) (names : Names) (d : ℕ) (v w : Value) → spelled a [] ≡ spelled b []
    → value_of a of names d ≡ Some v → value_of b of names d ≡ Some w → v ≡ w
one_value a b of names d v w same h k =
    let e : plain a ≡ plain b =
    (one_expression a b ((value_needs a of names d).holds v h) ((value_needs b of names d).holds w k) [] [] tt tt same).0 in
    let h' = (value_below a of names names d (names_refl names)).holds v h in
    let k' = (value_below b of names names d (names_refl names)).holds w k in
    one_of (value_of (plain a) of names d) v w h' (ap (λ x. value_of x of names d) e ∙ k')
