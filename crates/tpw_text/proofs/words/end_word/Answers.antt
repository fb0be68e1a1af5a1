use Rattle.std.proofs.Common.{ℕ, List, ◌+◌, ◌++◌, map, drop, ap, sym, ◌∙◌, append_assoc}
use Rattle.std.specs.List.{slice_range}
use Rattle.tpw_text.specs.Words.{Token, token, tokens, word_if_any}
use Rattle.tpw_text.proofs.Tokens.{then_white, then_mark}
use Rattle.tpw_text.proofs.words.end_word.Goals as goal

pub returns-then-not-is_mark : goal.returns-then-not-is_mark
returns-then-not-is_mark c =
    let text : List ℕ = c.args.text.now in
    let old : List Token = map token c.args.words.now.items in
    let a : List Token = word_if_any c.args.line (c.args.start + 1) (slice_range text c.args.start c.args.end) in
    let rest : List Token = tokens c.args.line (c.args.end + 1 + 1) (drop (c.args.end + 1) text) in
    ap (λ ws. old ++ ws) (then_white c.args.line c.args.start c.args.end text c.requires.order c.requires.within c.requires.plain c.requires.ends (sym c.is_mark.ensures ∙ c.if-not-is_mark.true))
    ∙ sym (append_assoc old a rest)
    ∙ ap (λ ws. ws ++ rest) (sym c.in_ok-push_word.ensures)

pub returns : goal.returns
returns c =
    let text : List ℕ = c.args.text.now in
    let old : List Token = map token c.args.words.now.items in
    let a : List Token = word_if_any c.args.line (c.args.start + 1) (slice_range text c.args.start c.args.end) in
    let b : List Token = word_if_any c.args.line (c.args.end + 1) (slice_range text c.args.end (c.args.end + 1)) in
    let rest : List Token = tokens c.args.line (c.args.end + 1 + 1) (drop (c.args.end + 1) text) in
    ap (λ ws. old ++ ws) (then_mark c.args.line c.args.start c.args.end text c.requires.order c.requires.within c.requires.plain c.requires.ends (sym c.is_mark.ensures ∙ c.if-not-is_mark.false))
    ∙ sym (append_assoc old (a ++ b) rest)
    ∙ ap (λ ws. ws ++ rest) (sym (append_assoc old a b))
    ∙ ap (λ ws. (ws ++ b) ++ rest) (sym c.in_ok-push_word.ensures)
    ∙ ap (λ ws. ws ++ rest) (sym c.in_ok-push_word-2.ensures)
