use Rattle.std.proofs.Common.{ℕ, ℤ, List, ◌++◌, ap, ◌∙◌}
use Rattle.std.specs.Int.{w32, cast_unsigned}
use Rattle.std.proofs.lemmas.Int.{to_z-of_z}
use Rattle.tp_image.specs.Text.{word}
use Rattle.tp_image.proofs.Pushes.{pushed_5}
use Rattle.tp_image.proofs.write.put_row.Goals as goal

pub returns : goal.returns
returns c =
    let start = to_z-of_z w32 c.args.row.now.start c.requires.start in
    let word_is = c.to_le_bytes.ensures ∙ ap (λ (z : ℤ). word (cast_unsigned w32 z)) start in
    pushed_5 _ _ _ _ _ _ _ _ _ _ _ c.in_ok-put_half_word.ensures c.in_ok-put_half_word-2.ensures c.in_ok-put_half_word-3.ensures c.in_ok-put_half_word-4.ensures
    (c.in_ok-extend_from_slice.ensures.items ∙ ap (λ (end : List ℕ). c.put_half_word-4.new.out.items ++ end) word_is)
