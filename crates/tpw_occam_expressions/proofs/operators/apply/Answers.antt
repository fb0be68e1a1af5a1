use Rattle.std.proofs.Common.{◌≡◌, ℕ, refl, subst, true, ◌∙◌}
use Rattle.tpw_occam_core.specs.declared.expression.Operator.{Operator}
use Rattle.tpw_occam_core.specs.declared.expression.Operator.TheVariants.{Add, Plus, Multiply, Times}
use Rattle.tpw_occam_expressions.specs.Ranges.{TwinsAgree}
use Rattle.tpw_occam_symbolic.specs.Leading.{Makes}
use Rattle.tpw_occam_expressions.specs.Computing.{commutes}
use Rattle.tpw_occam_expressions.proofs.TwoOperands.{applied_commutes}
use Rattle.tpw_occam_expressions.specs.Values.{Holds, HasOperands, answered, AreTwins}
use Rattle.tpw_occam_expressions.specs.declared.expressions.Value.{Value}
use Rattle.tpw_occam_expressions.proofs.operators.apply.Goals as goal

twins_of : (operator : Operator) (b a : Value) (vb va : ℕ) → Holds b vb → Holds a va → TwinsAgree operator b.source a.source
    → AreTwins operator vb va
twins_of Plus b a vb va hb ha agree = agree vb va hb.small ha.small hb.source ha.source
twins_of Multiply b a vb va hb ha agree = agree vb va hb.small ha.small hb.source ha.source
twins_of operator b a vb va hb ha agree = tt

pub returns-clause-makes : goal.returns-clause-makes
returns-clause-makes c vb va b a counts =
    c.in_ok-work_out.ensures vb va b.small a.small
    (λ fits. twins_of c.args.operator c.args.b c.args.a vb va b a (c.always_fits-fits.ensures.twins fits)) counts

-- the twins of operands that change places
swapped_twins : (operator : Operator) (b a : ℕ) → commutes operator ≡ true → AreTwins operator b a → AreTwins operator a b
swapped_twins Plus b a e twins = applied_commutes Add a b refl ∙ twins ∙ applied_commutes Plus b a refl
swapped_twins Multiply b a e twins = applied_commutes Multiply a b refl ∙ twins ∙ applied_commutes Times b a refl
swapped_twins operator b a e twins = tt

pub returns-clause-swapped : goal.returns-clause-swapped
returns-clause-swapped c vb va b a commute count =
    subst (λ made. Makes c.args.code.now c.work_out.new.code (HasOperands va vb) (answered made)) (applied_commutes c.args.operator va vb commute)
    (c.in_ok-work_out.ensures va vb a.small b.small
    (λ fits. swapped_twins c.args.operator vb va commute (twins_of c.args.operator c.args.b c.args.a vb va b a (c.always_fits-fits.ensures.twins fits))) count)
