use Rattle.std.proofs.Common.{◌≡◌, ℕ, ap, ◌∙◌, rules, arith}
use Rattle.std.specs.Int.{w32, cast_signed, cast_unsigned}
use Rattle.std.proofs.lemmas.Int.{of_z-to_z}
use Rattle.tp_image.specs.Text.{word}
use Rattle.tp_image.proofs.Rows.{row_spelled}
use Rattle.tp_image.proofs.read.row_of.Goals as goal

pub returns-clause-text : goal.returns-clause-text
returns-clause-text c =
    let n = c.word_of.result in
    let back = of_z-to_z w32 n (omega arith) in
    let e : cast_unsigned w32 c.cast_signed.result ≡ n = ap (cast_unsigned w32) c.cast_signed.ensures ∙ back in
    let start : cast_unsigned w32 (cast_signed w32 (cast_unsigned w32 c.cast_signed.result)) ≡ n = ap (λ (m : ℕ). cast_unsigned w32 (cast_signed w32 m)) e ∙ back in
    row_spelled c.args.bytes.now _ _ _ _ _ (search rules) c.half_word.ensures.text c.half_word-2.ensures.text c.half_word-3.ensures.text c.half_word-4.ensures.text (ap word start ∙ c.word_of.ensures)
