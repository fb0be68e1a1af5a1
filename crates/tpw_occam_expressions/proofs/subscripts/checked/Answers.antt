use Rattle.std.proofs.Common.{◌%◌, ◌^◌, sym, arith, subst}
use Rattle.std.specs.Prelude.{nat_le}
use Rattle.tpw_occam_core.specs.Arithmetic.{answer, pure}
use Rattle.tpw_occam_expressions.specs.Values.{Answers}
use Rattle.tpw_occam_expressions.proofs.Answering.{answers_then, answers_nothing}
use Rattle.tpw_occam_expressions.proofs.Indexing.{subscript_below, subscript_checked, subscript_word_below}
use Rattle.tpw_occam_expressions.proofs.subscripts.checked.Goals as goal

pub returns-then-is_within-clause-makes : goal.returns-then-is_within-clause-makes
returns-then-is_within-clause-makes c i holds positive small =
    let below = c.below-range.ensures.within positive small i holds.small (c.is_within.ensures.contains c.if-is_within.true i holds.source) in
    subst (λ made. Answers c.args.code.now c.args.code.now 2 i made) (sym (subscript_below c.args.size i below)) (answers_nothing c.args.code.now 2 i)

pub returns-then-is_within-clause-holds : goal.returns-then-is_within-clause-holds
returns-then-is_within-clause-holds c i holds positive small =
    let below = c.below-range.ensures.within positive small i holds.small (c.is_within.ensures.contains c.if-is_within.true i holds.source) in
    rw (subscript_below c.args.size i below) holds

pub returns-clause-makes : goal.returns-clause-makes
returns-clause-makes c i holds positive small =
    subst (λ made. Answers c.args.code.now c.reduce.new.code 2 i made) (subscript_checked c.args.size i positive small)
    (answers_then c.args.code.now c.check.new.code c.reduce.new.code 2 i (answer i (nat_le c.args.size i)) (pure (i % 2 ^ 31 % c.args.size))
    (c.in_ok-check.ensures i) (c.in_ok-known.ensures.makes i holds.small holds.known positive small))

pub returns-clause-holds : goal.returns-clause-holds
returns-clause-holds c i holds positive small =
    let below = subscript_word_below c.args.size i positive in
    record {
      small = omega (arith, below);
      source = c.below-range.ensures.contains positive small _ below;
      known = c.in_ok-known.ensures.known _ below small;
    }
