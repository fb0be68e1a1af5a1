use Rattle.std.proofs.Common.{◌≡◌, ◌∙◌, ◌*ℤ◌, ◌^◌, ◌%◌, ℤ, pos, negsuc, ap, arith, rules, SFits, w32, to_z-of_z}
use Rattle.std.specs.Int.{cast_unsigned, int_wrap}
use Rattle.std.proofs.lemmas.Int.{wrapping_mul_is, SFits-int_wrap, of_z-to_z}
use Rattle.tp_words.specs.Words.{signed, low_word}
use Rattle.tp_words.proofs.checked_product.Goals as goal

low_wrap : (z : ℤ) → cast_unsigned w32 (int_wrap w32 z) ≡ low_word z
unfolding int_wrap
low_wrap (pos n) = of_z-to_z w32 (n % 2 ^ 32) (omega arith)
low_wrap (negsuc n) = of_z-to_z w32 _ (omega arith)

pub returns-clause-low : goal.returns-clause-low
returns-clause-low c =
    let b = c.cast_signed.result in
    let a = c.cast_signed-2.result in
    let f : SFits w32 b = search rules in
    let g : SFits w32 a = search rules in
    let h = simp to_z-of_z at c.overflowing_mul-product.ensures.value in
    let wrapped = h ∙ wrapping_mul_is w32 b a f g in
    let fits : SFits w32 c.overflowing_mul-product.result.0 = rw wrapped (SFits-int_wrap w32 (b *ℤ a)) in
    let product : b *ℤ a ≡ signed c.args.b *ℤ signed c.args.a = ap (λ x. x *ℤ a) c.cast_signed.ensures ∙ ap (λ x. signed c.args.b *ℤ x) c.cast_signed-2.ensures in
    simp to_z-of_z at c.cast_unsigned.ensures ∙ ap (cast_unsigned w32) wrapped ∙ low_wrap (b *ℤ a) ∙ ap low_word product
