use Rattle.std.proofs.Common.{◌≡◌, ◌∙◌, ℕ, List, length, map, take, Some, ap, sym, subst}
use Rattle.std.specs.Str.Lines.{lines}
use Rattle.std.proofs.lemmas.List.{length_push}
use Rattle.std.proofs.lemmas.Iterator.Consumers.{YieldsList-from_enumerate, YieldsList-turn, YieldsList-end}
use Rattle.std.proofs.lemmas.Iterator.Splits.{YieldsList-from_lines}
use Rattle.tpw_text.proofs.Folds.{at_last, at_turn}
use Rattle.tpw_runs.specs.Packets.{expected_said, lines_said, result_said}
use Rattle.tpw_runs.proofs.Saying.{one_said}
use Rattle.tpw_runs.proofs.packets.results_of.Goals as goal

pub loop-i-preserved : goal.loop-i-preserved
loop-i-preserved c =
    let text : List (List ℕ) = lines c.args.text.now in
    let k : ℕ = length c.loop-i.yielded in
    let said = result_said c.args.notation c.args.bytes in
    let t = at_turn text k c.in-Some.i c.in-Some.line.now
    (YieldsList-turn (YieldsList-from_enumerate (YieldsList-from_lines c.args.text.now (cc)) (cc)) c.loop-i.yielded _
    c.loop-i.yielded_by _ _ (c.in-Some.i, c.in-Some.line) c.in-Some.is c.next.ensures.steps) in
    subst (λ n. lines_said said (take n text) ≡ Some (map expected_said c.push_result.new.results.items))
    (sym (length_push c.loop-i.yielded (c.in-Some.i, c.in-Some.line)))
    (one_said said text k c.in-Some.line.now (map expected_said c.loop-i.results.items)
    (map expected_said c.push_result.new.results.items) t.0 t.2 c.loop-i.invariant c.in_ok-push_result.ensures)

pub returns : goal.returns
returns c =
    let text : List (List ℕ) = lines c.args.text.now in
    let end = YieldsList-end (YieldsList-from_enumerate (YieldsList-from_lines c.args.text.now (cc)) (cc)) c.loop-i.yielded _ c.loop-i.yielded_by _ _ c.in-None.is c.next.ensures.steps in
    ap (lines_said (result_said c.args.notation c.args.bytes)) (sym (at_last text (length c.loop-i.yielded) end.1)) ∙ c.loop-i.invariant
