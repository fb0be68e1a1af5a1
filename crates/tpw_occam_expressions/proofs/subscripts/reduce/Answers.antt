use Rattle.std.proofs.Common.{◌%◌, ◌^◌, ap, ◌∙◌, arith, subst}
use Rattle.std.specs.Prelude.{bit_and}
use Rattle.std.proofs.Math.Nat.{mod-lt}
use Rattle.tpw_occam_core.specs.Arithmetic.{pure}
use Rattle.tpw_occam_expressions.specs.Values.{Answers}
use Rattle.tpw_occam_expressions.proofs.Answering.{answers_then}
use Rattle.tpw_occam_expressions.proofs.Indexing.{mask_answer}
use Rattle.tpw_occam_expressions.proofs.subscripts.reduce.Goals as goal

pub returns-in-Some-clause-makes : goal.returns-in-Some-clause-makes
returns-in-Some-clause-makes c i h known positive small =
    let size = c.args.size in
    subst (λ w. Answers c.args.code.now c.mask.new.code 2 i (pure w))
    (ap (bit_and i) c.saturating_sub.ensures ∙ mask_answer i size c.in-Some.field-0 c.in-Some.ensures.power c.in-Some.ensures.small) (c.in_ok-mask.ensures i)

pub returns-clause-makes : goal.returns-clause-makes
returns-clause-makes c i h known positive small =
    answers_then c.args.code.now c.without_sign.new.code c.remainder.new.code 2 i (pure (i % 2 ^ 31)) (pure (i % 2 ^ 31 % c.args.size))
    (c.in_ok-without_sign.ensures i h known) (c.in_ok-remainder.ensures (i % 2 ^ 31) (mod-lt i (omega arith)) positive small)
