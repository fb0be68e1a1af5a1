use Rattle.std.proofs.Common.{◌≡◌, ℕ, ◌+◌, List, map, length, take, Ok, ap, sym, ◌∙◌, subst}
use Rattle.std.specs.Str.Lines.{lines}
use Rattle.std.proofs.lemmas.List.{length_push}
use Rattle.std.proofs.lemmas.Iterator.Consumers.{YieldsList-from_enumerate, YieldsList-turn, YieldsList-end}
use Rattle.std.proofs.lemmas.Iterator.Splits.{YieldsList-from_lines}
use Rattle.tpw_text.specs.Words.{token, words_of_line}
use Rattle.tpw_text.specs.Drafts.{said}
use Rattle.tpw_text.specs.Apart.{draft_apart}
use Rattle.tpw_text.specs.Texts.{words_of_lines, words_say}
use Rattle.tpw_text.proofs.Folds.{passed_on, one_more, refused_at, at_first, at_end, at_turn, at_last}
use Rattle.tpw_text.proofs.reading.draft_of.Goals as goal

pub loop-i-init : goal.loop-i-init
loop-i-init c = at_first (lines c.args.text.now) (said c.new-draft.result) c.new-draft.ensures

pub returns-in_err-read_line-clause-refused : goal.returns-in_err-read_line-clause-refused
returns-in_err-read_line-clause-refused c =
    let text : List (List ℕ) = lines c.args.text.now in
    let k : ℕ = length c.loop-i.yielded in
    let t = at_turn text k c.in-Some.i c.in-Some.line.now
    (YieldsList-turn (YieldsList-from_enumerate (YieldsList-from_lines c.args.text.now (cc)) (cc)) c.loop-i.yielded _
    c.loop-i.yielded_by _ _ (c.in-Some.i, c.in-Some.line) c.in-Some.is c.next.ensures.steps) in
    let this : map token c.deref.result.now ≡ words_of_line (k + 1) c.in-Some.line.now =
    ap (map token) c.deref.ensures.value ∙ c.in_ok-words.ensures ∙ ap (words_of_line (c.in-Some.i + 1)) c.as_bytes.ensures.value ∙ ap (λ n. words_of_line (n + 1) c.in-Some.line.now) t.1 in
    passed_on c.from_residual-in_err-read_line.result c.in_err-read_line.field-0.0 c.from_residual-in_err-read_line.ensures.1
    (refused_at c.args.text.now k c.in-Some.line.now (said c.loop-i.draft) c.in_err-read_line.field-0.0
    c.deref.result.now t.0 c.loop-i.invariant (this ∙ ap (words_of_line (k + 1)) t.2)
    c.in_err-read_line.ensures.refused)

pub loop-i-preserved : goal.loop-i-preserved
loop-i-preserved c =
    let text : List (List ℕ) = lines c.args.text.now in
    let k : ℕ = length c.loop-i.yielded in
    let t = at_turn text k c.in-Some.i c.in-Some.line.now
    (YieldsList-turn (YieldsList-from_enumerate (YieldsList-from_lines c.args.text.now (cc)) (cc)) c.loop-i.yielded _
    c.loop-i.yielded_by _ _ (c.in-Some.i, c.in-Some.line) c.in-Some.is c.next.ensures.steps) in
    let this : map token c.deref.result.now ≡ words_of_line (k + 1) c.in-Some.line.now =
    ap (map token) c.deref.ensures.value ∙ c.in_ok-words.ensures ∙ ap (words_of_line (c.in-Some.i + 1)) c.as_bytes.ensures.value ∙ ap (λ n. words_of_line (n + 1) c.in-Some.line.now) t.1 in
    subst (λ n. words_say (words_of_lines 1 (take n text)) ≡ Ok (draft_apart (said c.read_line.new.draft))) (sym (length_push c.loop-i.yielded (c.in-Some.i, c.in-Some.line)))
    (one_more text k c.in-Some.line.now (said c.loop-i.draft) (said c.read_line.new.draft) c.deref.result.now t.0
    c.loop-i.invariant (this ∙ ap (words_of_line (k + 1)) t.2) c.in_ok-read_line.ensures.said)

pub returns-clause-said : goal.returns-clause-said
returns-clause-said c =
    let text : List (List ℕ) = lines c.args.text.now in
    let end = YieldsList-end (YieldsList-from_enumerate (YieldsList-from_lines c.args.text.now (cc)) (cc)) c.loop-i.yielded _ c.loop-i.yielded_by _ _ c.in-None.is c.next.ensures.steps in
    at_end c.args.text.now (length c.loop-i.yielded) (said c.loop-i.draft) (at_last text (length c.loop-i.yielded) end.1) c.loop-i.invariant
