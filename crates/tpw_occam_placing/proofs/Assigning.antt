-- Assignments.
use Rattle.std.proofs.Common.{◌≡◌, ◌∙◌, ◌<◌, ◌+◌, take, get_or, ℕ, ◌||◌, List, [], ◌∷◌, ◌++◌, length, refl, sym, ap, subst}
use Rattle.std.proofs.lemmas.List.{take_more}
use Rattle.std.specs.Prelude.{Some}
use Rattle.std.specs.List.{AllZip}
use Rattle.tpw_occam_core.specs.declared.arithmetic.Answer.{Answer}
use Rattle.tpw_occam_core.specs.declared.kind.Kind.{Kind}
use Rattle.tpw_occam_core.specs.declared.expression.Expression.{Expression}
use Rattle.tpw_occam_core.specs.declared.process.Assignment.{Assignment}
use Rattle.tpw_occam_core.specs.declared.process.Target.TheVariants as target
use Rattle.tpw_occam_core.specs.Arithmetic.{subscript}
use Rattle.tpw_occam_core.specs.Arrays.{size, kept, with_element}
use Rattle.tpw_occam_core.specs.Meaning.{Store, bind, with_value, with_array, array_of, kind_of}
use Rattle.tpw_occam_core.specs.Meaning as core
use Rattle.tpw_occam_meaning.specs.States.{State}
use Rattle.tpw_occam_meaning.specs.States as state
use Rattle.tpw_occam_scoped.specs.declared.expression.Expression.{Expression as Scoped}
use Rattle.tpw_occam_scoped.specs.declared.process.Target.{Target as ScopedTarget}
use Rattle.tpw_occam_scoped.specs.declared.process.Target.TheVariants.{Cell, Element}
use Rattle.tpw_occam_scoped.specs.declared.process.Assignment.{Assignment as ScopedAssignment}
use Rattle.tpw_occam_scoped.specs.Meaning as scoped
use Rattle.tpw_occam_placing.specs.declared.tables.Tables.{Tables}
use Rattle.tpw_occam_placing.specs.declared.scope.Scope.{Scope}
use Rattle.tpw_occam_placing.specs.Placing.{variable_of, array_of as array_at, Holds, IsPlaced, IsTarget, IsAssignment}
use Rattle.tpw_occam_placing.proofs.Holding.{holds_stored}
use Rattle.tpw_occam_placing.proofs.Arrays.{holds_array_stored}
use Rattle.tpw_occam_placing.proofs.Doing.{with_element_length, holds_flagged}

-- one more of each
pub zip_push : {A B : Type 0} (R : A → B → Type 0) (xs : List A) (ys : List B) (x : A) (y : B) → AllZip R xs ys → R x y
    → AllZip R (xs ++ x ∷ []) (ys ++ y ∷ [])
zip_push R [] [] x y all r = (r, tt)
zip_push R [] (b ∷ ys) x y all r = absurd all
zip_push R (a ∷ xs) [] x y all r = absurd all
zip_push R (a ∷ xs) (b ∷ ys) x y all r = (all.0, zip_push R xs ys x y all.1 r)

pub zip_more : {A B : Type 0} (R : A → B → Type 0) (xs : List A) (ys : List B) (i : ℕ) (x : A) (y : B) → i < length xs
    → x ≡ get_or xs i x → AllZip R (take i xs) ys → R x y → AllZip R (take (i + 1) xs) (ys ++ y ∷ [])
zip_more R xs ys i x y less is all r =
    subst (λ l. AllZip R l (ys ++ y ∷ [])) (ap (λ z. take i xs ++ z ∷ []) is ∙ sym (take_more xs i x less)) (zip_push R (take i xs) ys x y all r)

module _ (tables : Tables) (scope : Scope) where
  pub target_cell : (to : ScopedTarget) (x n : ℕ) (kind : Kind) → to ≡ Cell x kind → variable_of tables scope x ≡ Some n
      → kind_of tables.kinds.items n ≡ kind → IsTarget tables scope to (target.Variable n)
  target_cell to x n kind is lies keeps = subst (λ (k : ScopedTarget). IsTarget tables scope k (target.Variable n)) (sym is) (record {
    subscript = λ s t holds. refl;
    put = λ i word s t holds. subst (λ (k : Kind). Holds tables scope (state.with_cell x (kept kind word) s) (with_value n (kept k word) t)) (sym keeps)
        (holds_stored tables scope s t x n (kept kind word) lies holds);
  })

  pub target_element : (to : ScopedTarget) (a n : ℕ) (kind : Kind) (e : Scoped) (made : Expression) → to ≡ Element a kind e
      → array_at tables scope a ≡ Some n → IsPlaced tables scope e made → IsTarget tables scope to (target.Element n kind made)
  target_element to a n kind e made is lies placed = subst (λ (k : ScopedTarget). IsTarget tables scope k (target.Element n kind made)) (sym is) (record {
    subscript = λ s t holds i. bind (placed s t holds i) (subscript (size kind (holds.arrays a n lies i)));
    put = λ i word s t holds.
        subst (λ (before : List ℕ). Holds tables scope (state.with_array a (with_element kind before i word) s) (with_array n (with_element kind (array_of t n) i word) t))
        (holds.arrays a n lies)
        (holds_array_stored tables scope s t a n (with_element kind (array_of t n) i word) lies
        (with_element_length kind (array_of t n) i word ∙ holds.sizes n) holds);
  })

  -- the last target is written first
  pub done_assigned : (list : List ScopedAssignment) (made : List Assignment) → AllZip (IsAssignment tables scope) list made
      → (s : State) (t : Store) → Holds tables scope s t
      → Holds tables scope (scoped.all_assigned list s) (core.assigned tables.kinds.items made t)
  done_assigned [] [] all s t holds = holds
  done_assigned [] (b ∷ made) all s t holds = elim all [ ]
  done_assigned (a ∷ list) [] all s t holds = elim all [ ]
  done_assigned (a ∷ list) (b ∷ made) all s t holds =
      let v : core.value_of b.value t ≡ scoped.value_of a.value s = all.0.value s t holds in
      let i : core.subscript_of b.target t ≡ scoped.subscript_of a.target s = all.0.target.subscript s t holds in
      let after = done_assigned list made all.1 s t holds in
      subst (λ (w : Answer). Holds tables scope (scoped.all_assigned (a ∷ list) s)
      (core.flagged (w.flag || (core.subscript_of b.target t).flag)
      (core.stored tables.kinds.items b.target (core.subscript_of b.target t).word w.word (core.assigned tables.kinds.items made t)))) (sym v)
      (subst (λ (j : Answer). Holds tables scope (scoped.all_assigned (a ∷ list) s)
      (core.flagged ((scoped.value_of a.value s).flag || j.flag)
      (core.stored tables.kinds.items b.target j.word (scoped.value_of a.value s).word (core.assigned tables.kinds.items made t)))) (sym i)
      (holds_flagged tables scope _ _ ((scoped.value_of a.value s).flag || (scoped.subscript_of a.target s).flag)
      (all.0.target.put (scoped.subscript_of a.target s).word (scoped.value_of a.value s).word
      (scoped.all_assigned list s) (core.assigned tables.kinds.items made t) after)))
