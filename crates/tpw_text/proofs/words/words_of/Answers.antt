use Rattle.std.proofs.Common.{◌≡◌, ℕ, List, ◌+◌, ◌++◌, length, map, true, ap, sym, ◌∙◌, subst, arith}
use Rattle.std.specs.List.{list_all, slice_range}
use Rattle.tpw_text.specs.Words.{token, is_plain, tokens}
use Rattle.tpw_text.proofs.Tokens.{at_end, run_goes_on, nothing_yet}
use Rattle.tpw_text.proofs.words.words_of.Goals.{then-not-is_plain+in_ok-end_word, else-not-is_plain}
use Rattle.tpw_text.proofs.words.words_of.Goals as goal

pub loop-i-preserved : goal.loop-i-preserved
loop-i-preserved c =
    let said : List ℕ = c.before_comment-said.result.now in
    elim c.if-not-is_plain.branch [
      | then-not-is_plain+in_ok-end_word w ↦ record {
        order = omega (arith, w.start-is);
        plain = rw w.start-is (nothing_yet said (c.loop-i.i + 1));
        words_are = rw (w.words-is, w.start-is) (sym w.in_ok-end_word.ensures ∙ c.loop-i.invariant.words_are);
      }
      | else-not-is_plain w ↦ record {
        order = omega (arith, w.start-is, c.loop-i.invariant.order);
        plain = rw w.start-is (run_goes_on said c.loop-i.start c.loop-i.i c.loop-i.invariant.order c.loop-i-test.true c.loop-i.invariant.plain (sym c.is_plain.ensures ∙ w.if-not-is_plain.false));
        words_are = rw (w.words-is, w.start-is) c.loop-i.invariant.words_are;
      }
    ]

pub returns : goal.returns
returns c =
    let said : List ℕ = c.before_comment-said.result.now in
    let end : c.loop-i.i ≡ length said = omega arith in
    let plain : list_all is_plain (slice_range said c.loop-i.start (length said)) ≡ true =
    subst (λ (i : ℕ). list_all is_plain (slice_range said c.loop-i.start i) ≡ true) end c.loop-i.invariant.plain in
    c.in_ok-push_word.ensures
    ∙ ap (λ ws. map token c.loop-i.words.items ++ ws) (sym (at_end c.args.line c.loop-i.start said (omega (arith, c.loop-i.invariant.order)) plain))
    ∙ c.loop-i.invariant.words_are
    ∙ ap (tokens c.args.line 1) c.before_comment-said.ensures
