use Rattle.std.proofs.Common.{◌≡◌, List, ◌∷◌, Some, ap, ◌∙◌}
use Rattle.tpw_occam_terms.specs.declared.name.Primitive.{Primitive}
use Rattle.tpw_occam_meaning.specs.Assignments.{assigning, assigned}
use Rattle.tpw_occam_meaning.specs.Values.{Value, at}
use Rattle.tpw_occam_scoped.specs.declared.expression.Expression.{Expression}
use Rattle.tpw_occam_scoped.specs.declared.process.Target.{Target}
use Rattle.tpw_occam_scoped.specs.declared.process.Assignment.{Assignment}
use Rattle.tpw_occam_scoped.specs.Made.{value_made, target_made, effect_of_all}
use Rattle.tpw_occam_scoped.specs.Meaning.{value_of, subscript_of, all_assigned}
use Rattle.tpw_occam_scoped.proofs.processes.assigning.Goals as goal

first_assigned : (all others : List Assignment) (of : Primitive) (t : Target) (e : Expression) (v : Value) →
    all ≡ record { target = t; value = e } ∷ others → value_of e ≡ at v →
    effect_of_all all ≡ assigning (target_made of t) v (effect_of_all others)
unfolding effect_of_all
first_assigned all others of t e v h k =
    ap effect_of_all h
    ∙ (λ i. Some (λ s. assigned (target_made of t) (subscript_of t s) (k i s) (all_assigned others s)))

pub returns : goal.returns
returns c =
    first_assigned c.insert.new.self.items c.args.others.items c.args.of c.args.target c.in_ok-value.value
    (value_made c.args.value) c.in_ok-insert.ensures.items c.in_ok-value.ensures
