-- What is made of values.
use Rattle.std.proofs.Common.{◌≡◌, ℕ, List, Some, sym, ap, ◌∙◌}
use Rattle.tpw_occam_core.specs.Arithmetic.{subscript, low_byte}
use Rattle.tpw_occam_core.specs.Arrays.{size, with_element}
use Rattle.tpw_occam_core.specs.Meaning.{bind, element_at}
use Rattle.tpw_occam_terms.specs.declared.name.Primitive.{Primitive}
use Rattle.tpw_occam_terms.specs.declared.name.Primitive.TheVariants.{Int, Byte}
use Rattle.tpw_occam_meaning.specs.Assignments.{written_array, element_target}
use Rattle.tpw_occam_meaning.specs.Maybe.{and_then}
use Rattle.tpw_occam_meaning.specs.Names.{View, Array, Table, element_in, element_of}
use Rattle.tpw_occam_meaning.specs.States.{with_array}
use Rattle.tpw_occam_meaning.specs.Values.{Value, Varying, at, of_one, converted, element_type}
use Rattle.tpw_occam_scoped.specs.declared.expression.Expression.{Expression}
use Rattle.tpw_occam_scoped.specs.declared.process.Target.TheVariants as target
use Rattle.tpw_occam_scoped.specs.declared.value.Value as made
use Rattle.tpw_occam_scoped.specs.declared.value.Value.TheVariants as value
use Rattle.tpw_occam_scoped.specs.Made.{value_made, target_made}
use Rattle.tpw_occam_scoped.specs.Meaning.{value_of}

pub checked_made : (n below : ℕ) (i e : Expression) (v : made.Value) → n ≡ below → v ≡ value.Varying i →
    value_of e ≡ (λ s. bind (value_of i s) (subscript n)) →
    Varying (value_of e) ≡ of_one (λ i. bind i (subscript below)) (value_made v)
checked_made n below i e v n-is v-is e-is =
    ap Varying e-is ∙ (λ j. Varying (λ s. bind (value_of i s) (subscript (n-is j))))
    ∙ sym (ap (λ v. of_one (λ i. bind i (subscript below)) (value_made v)) v-is)

pub narrowed : (from to : Primitive) (a : made.Value) (e r : Expression) → from ≡ Int → to ≡ Byte → a ≡ value.Varying e →
    value_of r ≡ (λ s. bind (value_of e s) low_byte) →
    and_then (converted from to) (λ make. Some (of_one (λ a. bind a make) (value_made a))) ≡ Some (Varying (value_of r))
narrowed from to a e r from-is to-is a-is r-is =
    (λ j. and_then (converted (from-is j) (to-is j)) (λ make. Some (of_one (λ a. bind a make) (value_made (a-is j)))))
    ∙ (λ j. Some (Varying (sym r-is j)))

-- an element of an array, and one of a table
pub array_element : (view : View) (v : Value) (a : ℕ) (i e : Expression) → view.storage ≡ Array a → value_of i ≡ at v →
    value_of e ≡ (λ s. bind (value_of i s) (element_at view.kind (s.arrays a))) →
    Varying (value_of e) ≡ element_of view v
array_element view v a i e storage-is i-is e-is =
    ap Varying e-is ∙ (λ j. Varying (λ s. bind (i-is j s) (element_at view.kind (s.arrays a))))
    ∙ sym (ap (λ x. element_in x view.kind v) storage-is)

pub table_element : (view : View) (v : made.Value) (bytes table : List ℕ) (i e : Expression) → view.storage ≡ Table bytes →
    table ≡ bytes → v ≡ value.Varying i → value_of e ≡ (λ s. bind (value_of i s) (element_at view.kind table)) →
    Varying (value_of e) ≡ element_of view (value_made v)
table_element view v bytes table i e storage-is table-is v-is e-is =
    ap Varying e-is ∙ (λ j. Varying (λ s. bind (value_of i s) (element_at view.kind (table-is j))))
    ∙ sym (λ j. element_in (storage-is j) view.kind (value_made (v-is j)))

-- an element that is assigned to
pub element_targeted : (view : View) (v : Value) (a : ℕ) (of : Primitive) (e : Expression) → written_array view ≡ Some a →
    of ≡ element_type view.kind → value_of e ≡ at v →
    element_target view v ≡ Some (target_made of (target.Element a view.kind e))
element_targeted view v a of e written of-is e-is =
    ap (λ o. and_then o (λ a. Some (record {
      of = element_type view.kind;
      subscript = λ s. bind (at v s) (subscript (size view.kind (s.arrays a)));
      put = λ i word s. with_array a (with_element view.kind (s.arrays a) i word) s;
    }))) written
    ∙ (λ j. Some (record {
      of = sym of-is j;
      subscript = λ s. bind (sym e-is j s) (subscript (size view.kind (s.arrays a)));
      put = λ i word s. with_array a (with_element view.kind (s.arrays a) i word) s;
    }))
