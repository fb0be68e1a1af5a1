use Rattle.std.proofs.Common.{refl, ◌<◌, ◌^◌, ◌∙◌, sym, subst, ℕ}
use Rattle.tpw_occam_core.specs.declared.expression.Operator.{Operator}
use Rattle.tpw_occam_core.specs.declared.expression.Operator.TheVariants.{Plus, Minus}
use Rattle.tpw_occam_expressions.specs.declared.range.Range.{Range}
use Rattle.tpw_occam_expressions.specs.declared.expressions.Value.{Value}
use Rattle.tpw_occam_expressions.specs.Ranges.{TwinsAgree, Contains}
use Rattle.tpw_occam_expressions.specs.Values.{Holds}
use Rattle.tpw_occam_expressions.proofs.Immediates.{Operand, operand_found, equal_works, add_works, wrapped_works, HasTwin}
use Rattle.tpw_occam_expressions.proofs.operators.immediate_instr.Goals as goal

twin_of : (operator : Operator) (b : Value) (range : Range) (vb c : ℕ) → Holds b vb → c < 2 ^ 32 → Contains range c
    → TwinsAgree operator b.source range → HasTwin operator vb c
twin_of Plus b range vb c holds h in_range agree = agree vb c holds.small h holds.source in_range
twin_of Minus b range vb c holds h in_range agree = agree vb c holds.small h holds.source in_range
twin_of operator b range vb c holds h in_range agree = tt

pub returns-in-Equal-clause-some : goal.returns-in-Equal-clause-some
returns-in-Equal-clause-some c vb holds =
    let found = operand_found c.args.operator c.args.c c.in_ok-n.n (sym c.immediate.ensures ∙ c.in_ok-n.was) in
    let same = c.in-Equal.is in
    rw same (equal_works c.in_ok-n.n vb c.args.c holds.small c.ranges.c.fits (subst (λ o. Operand o c.args.c c.in_ok-n.n) same found))

pub returns-in-Add-clause-some : goal.returns-in-Add-clause-some
returns-in-Add-clause-some c vb holds =
    add_works c.args.operator c.in_ok-n.n vb c.args.c c.in-Add.is c.ranges.c.fits
    (operand_found c.args.operator c.args.c c.in_ok-n.n (sym c.immediate.ensures ∙ c.in_ok-n.was))

pub returns-in_default : goal.returns-in_default
returns-in_default c = record {
  some = λ vb holds.
      wrapped_works c.args.operator c.in_ok-n.n vb c.args.c c.in_default.not-Equal c.in_default.not-Add c.in_default.not-Subtract c.ranges.c.fits
      (operand_found c.args.operator c.args.c c.in_ok-n.n (sym c.immediate.ensures ∙ c.in_ok-n.was))
      (twin_of c.args.operator c.args.b c.exactly.result vb c.args.c holds c.ranges.c.fits c.exactly.ensures.contains
      (c.always_fits.ensures.twins c.if-always_fits.true));
  straight = refl;
  none = tt;
}
