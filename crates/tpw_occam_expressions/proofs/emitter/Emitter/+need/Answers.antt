use Rattle.std.proofs.Common.{◌≡◌, Bool, true, false, ◌&&◌, ◌||◌, refl, ap, sym, ◌∙◌}
use Rattle.tpw_occam_core.specs.declared.expression.Operator.{Operator}
use Rattle.tpw_occam_core.specs.declared.expression.Expression.{Expression}
use Rattle.tpw_occam_expressions.specs.Agreement.{Knowledge}
use Rattle.tpw_occam_expressions.specs.Computing.{is_simple, is_immediate, is_swapped, commutes}
use Rattle.tpw_occam_expressions.proofs.emitter.Emitter.+need.Goals as goal

first_of : (a b : Bool) → (a && b) ≡ true → a ≡ true
first_of true b e = refl
first_of false b e = e

swapped_commutes : (k : Knowledge) (operator : Operator) (left right : Expression) → is_swapped k operator left right ≡ true
    → commutes operator ≡ true
swapped_commutes k operator left right e = first_of _ _ (first_of _ _ (first_of _ _ e))

swapped_simple : (k : Knowledge) (operator : Operator) (left right : Expression) (direct : Bool) → commutes operator ≡ true
    → (is_immediate k operator left && is_simple k right) ≡ true
    → (direct || (commutes operator && is_immediate k operator left && is_simple k right)) ≡ true
swapped_simple k operator left right true e h = refl
swapped_simple k operator left right false e h = rw e h

pub need-returns-then-is_swapped-clause-simple : goal.need-returns-then-is_swapped-clause-simple
need-returns-then-is_swapped-clause-simple t c h =
    let b = c.in-Binary in
    let swapped : is_swapped c.args.self.now b.operator b.left.value b.right.value ≡ true =
    ap (λ l. is_swapped c.args.self.now b.operator l b.right.value) (sym c.deref-in-Binary.ensures)
    ∙ ap (λ r. is_swapped c.args.self.now b.operator c.deref-in-Binary.result.now r) (sym c.deref-in-Binary-2.ensures)
    ∙ sym c.if-is_swapped.ensures in
    let simple : (is_immediate c.args.self.now b.operator b.left.value && is_simple c.args.self.now b.right.value) ≡ true =
    ap (λ l. is_immediate c.args.self.now b.operator l && is_simple c.args.self.now b.right.value) (sym c.deref-then-is_swapped-2.ensures)
    ∙ ap (λ r. is_immediate c.args.self.now b.operator c.deref-then-is_swapped-2.result.now && is_simple c.args.self.now r) (sym c.deref-then-is_swapped.ensures)
    ∙ c.need_of_operands.ensures.simple h in
    rw b.is (swapped_simple c.args.self.now b.operator b.left.value b.right.value _ (swapped_commutes c.args.self.now b.operator b.left.value b.right.value swapped) simple)
