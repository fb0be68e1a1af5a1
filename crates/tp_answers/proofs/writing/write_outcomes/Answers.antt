use Rattle.std.proofs.Common.{◌≡◌, ◌++◌, sym, ap, ◌∙◌, slice_get, take, Some, append_assoc}
use Rattle.std.proofs.lemmas.Option.{slice_get-get_or}
use Rattle.tp_answers.specs.Texts.{outcome_lines, outcomes_lines}
use Rattle.tp_answers.proofs.OutcomeLemmas.{lines_more}
use Rattle.tp_answers.proofs.writing.write_outcomes.Goals as goal

pub loop-number-preserved : goal.loop-number-preserved
loop-number-preserved c =
    let runs = c.args.runs.now in
    let i = c.loop-number.number in
    let o = c.index-runs-number.result in
    let there : slice_get runs i ≡ Some o =
    slice_get-get_or runs i o c.loop-number-test.true ∙ ap Some (sym c.index-runs-number.is) in
    c.in_ok-write_outcome.ensures ∙ ap (λ bytes. bytes ++ outcome_lines c.args.trace i o) c.loop-number.invariant
    ∙ append_assoc c.args.out.now.items (outcomes_lines c.args.trace 0 (take i runs)) (outcome_lines c.args.trace i o)
    ∙ ap (λ bytes. c.args.out.now.items ++ bytes) (sym (lines_more c.args.trace runs i o there))
