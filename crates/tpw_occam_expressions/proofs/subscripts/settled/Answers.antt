use Rattle.std.proofs.Common.{◌%◌, ◌^◌, ◌||◌, false, ap, ◌∙◌, subst}
use Rattle.std.proofs.Math.Bool.{or-false}
use Rattle.tpw_occam_core.specs.Arithmetic.{answer, pure, subscript}
use Rattle.tpw_occam_expressions.specs.Values.{Answers}
use Rattle.tpw_occam_expressions.proofs.Answering.{answers_then}
use Rattle.tpw_occam_expressions.proofs.Indexing.{subscript_word_below, reduced_below}
use Rattle.tpw_occam_expressions.proofs.subscripts.settled.Goals as goal

pub returns-clause-makes : goal.returns-clause-makes
returns-clause-makes c i holds positive small =
    let size = c.args.size in
    let one = subscript size i in
    let held = c.in_ok-value.ensures.holds i holds positive small in
    let below = subscript_word_below size i positive in
    subst (λ made. Answers c.args.code.now c.reduce.new.code 2 i made)
    (ap (λ w. answer w (one.flag || false)) (reduced_below size one.word below small) ∙ ap (λ f. answer one.word f) (or-false one.flag))
    (answers_then c.args.code.now c.checked.new.code c.reduce.new.code 2 i one (pure (one.word % 2 ^ 31 % size))
    (c.in_ok-value.ensures.makes i holds positive small) (c.in_ok-known.ensures.makes one.word held.small held.known positive small))

pub returns-clause-holds : goal.returns-clause-holds
returns-clause-holds c i holds positive small =
    let held = c.in_ok-value.ensures.holds i holds positive small in
    record {
      small = held.small;
      source = held.source;
      known = c.in_ok-known.ensures.known _ (subscript_word_below c.args.size i positive) small;
    }
