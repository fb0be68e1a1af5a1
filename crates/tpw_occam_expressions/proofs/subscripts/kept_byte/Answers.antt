use Rattle.std.proofs.Common.{◌≡◌, ◌%◌, ◌<◌, arith, subst}
use Rattle.std.proofs.lemmas.Result.{on_ok_weaker}
use Rattle.std.proofs.lemmas.Nat.{and_mask}
use Rattle.tpw_occam_core.specs.Arithmetic.{pure}
use Rattle.tpw_occam_expressions.specs.Values.{Answers}
use Rattle.tpw_occam_expressions.proofs.Answering.{answers_nothing}
use Rattle.tpw_occam_expressions.proofs.Indexing.{byte_small}
use Rattle.tpw_occam_expressions.proofs.subscripts.kept_byte.Goals as goal

pub returns-then-is_within : goal.returns-then-is_within
returns-then-is_within c i holds =
    let low : i < 256 = byte_small i holds.small (c.is_within.ensures.contains c.if-is_within.true i holds.source) in
    let same : i ≡ i % 256 = omega arith in
    subst (λ w. Answers c.args.code.now c.args.code.now 2 i (pure w)) same (answers_nothing c.args.code.now 2 i)

pub returns : goal.returns
returns c = on_ok_weaker c.mask.result (λ makes i holds.
    subst (λ w. Answers c.args.code.now c.mask.new.code 2 i (pure w)) (and_mask i 8) (makes i)) c.mask.ensures
