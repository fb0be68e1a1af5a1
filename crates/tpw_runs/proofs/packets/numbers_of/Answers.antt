use Rattle.std.proofs.Common.{rules, ◌≡◌, ◌∙◌, ◌≤◌, ◌+◌, ◌++◌, map, drop, length, length-append, ap, sym, arith}
use Rattle.std.specs.Int.{w32, to_le_bytes, cast_unsigned}
use Rattle.std.specs.Option.{option_map}
use Rattle.std.proofs.lemmas.Int.{to_z-of_z}
use Rattle.tpw_runs.specs.Packets.{words_said, word_bytes}
use Rattle.tpw_runs.proofs.Numbers.{none_said, one_more, from_ok}
use Rattle.tpw_runs.proofs.packets.numbers_of.Goals as goal

pub returns-in_default-clause-said : goal.returns-in_default-clause-said
returns-in_default-clause-said c =
    none_said (λ f. f.text.now) c.args.fields.now c.loop-field.field-index _ c.loop-field.packet.items c.loop-field-test.true
    c.loop-field.invariant.0 (sym c.value_of.ensures ∙ c.in_default.is)

pub loop-field-preserved : goal.loop-field-preserved
loop-field-preserved c =
    let more =
    one_more (λ f. f.text.now) c.args.fields.now c.loop-field.field-index _ c.loop-field.packet.items c.in-Some.number
    c.loop-field-test.true c.loop-field.invariant.0 (sym c.value_of.ensures ∙ c.in-Some.is) in
    let bytes : c.to_le_bytes.result ≡ word_bytes c.in-Some.number =
    c.to_le_bytes.ensures ∙ ap (λ z. to_le_bytes w32 (cast_unsigned w32 z)) (to_z-of_z w32 c.in-Some.number (search rules)) in
    let four : length c.to_le_bytes.result ≡ 4 = ap length bytes in
    let fits : length c.loop-field.packet.items + length c.to_le_bytes.result ≤ 256 =
    omega (arith, four, c.loop-field.invariant.1, c.requires, c.loop-field-test.true) in
    let taken : c.try_extend_from_slice.new.self.items ≡ c.loop-field.packet.items ++ c.to_le_bytes.result =
    from_ok c.try_extend_from_slice.result _ (c.try_extend_from_slice.ensures.variant.1 fits) c.try_extend_from_slice.ensures.ok in
    let items : c.try_extend_from_slice.new.self.items ≡ c.loop-field.packet.items ++ word_bytes c.in-Some.number =
    taken ∙ ap (λ b. c.loop-field.packet.items ++ b) bytes in
    let length_is : length c.try_extend_from_slice.new.self.items ≡ length c.loop-field.packet.items + length c.to_le_bytes.result =
    ap length taken ∙ length-append c.loop-field.packet.items c.to_le_bytes.result in (
      more ∙ ap (λ i. option_map (λ rest. i ++ rest) (words_said (drop (c.loop-field.field-index + 1) (map (λ f. f.text.now) c.args.fields.now)))) (sym items),
      omega (arith, length_is, four, c.loop-field.invariant.1),
    )
