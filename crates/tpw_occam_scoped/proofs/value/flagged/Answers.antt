use Rattle.std.proofs.Common.{◌≡◌, ℕ, ◌+◌, ◌<◌, ◌^◌, true, pos, ◌+ℤ◌, ◌∙◌, arith}
use Rattle.std.proofs.lemmas.Result.{IfOk-weaker}
use Rattle.tp_words.specs.Words.{low_word}
use Rattle.tpw_occam_core.specs.declared.expression.Operator.TheVariants.{Plus}
use Rattle.tpw_occam_core.specs.Arithmetic.{answer, pure, applied}
use Rattle.tpw_occam_core.specs.Meaning.{bind}
use Rattle.tpw_occam_scoped.specs.Meaning.{value_of}
use Rattle.tpw_occam_scoped.proofs.value.flagged.Goals as goal

same_word : (w : ℕ) → w < 2 ^ 32 → low_word (pos 0 +ℤ pos w) ≡ w
same_word w h = omega arith

pub returns : goal.returns
returns c =
    IfOk-weaker c.binary-2.result _ _
    (λ e h. h ∙ (λ i s. bind (c.in_ok-zero.ensures i s) (λ b. bind (pure c.args.word) (applied Plus b)))
    ∙ (λ i s. answer (same_word c.args.word (omega arith) i) true))
    c.binary-2.ensures
