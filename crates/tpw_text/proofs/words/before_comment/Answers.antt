use Rattle.std.proofs.Common.{sym, ap, ◌∙◌, arith}
use Rattle.std.proofs.lemmas.List.{take_rest}
use Rattle.tpw_text.specs.Words.{begins_comment}
use Rattle.tpw_text.proofs.Tokens.{comment_begins, no_comment_begins, no_comment}
use Rattle.tpw_text.proofs.words.before_comment.Goals as goal

pub returns-then-begins_comment : goal.returns-then-begins_comment
returns-then-begins_comment c =
    comment_begins c.args.text.now c.loop-at.at c.loop-at.invariant
    (ap begins_comment (sym (take_rest c.args.text.now c.loop-at.at)) ∙ sym c.begins_comment.ensures ∙ c.if-begins_comment.true)

pub loop-at-preserved : goal.loop-at-preserved
loop-at-preserved c =
    no_comment_begins c.args.text.now c.loop-at.at c.loop-at-test.true c.loop-at.invariant
    (ap begins_comment (sym (take_rest c.args.text.now c.loop-at.at)) ∙ sym c.begins_comment.ensures ∙ c.if-begins_comment.false)

pub returns : goal.returns
returns c = no_comment c.args.text.now c.loop-at.at (omega arith) c.loop-at.invariant
