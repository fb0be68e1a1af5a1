use Rattle.std.proofs.Common.{◌≡◌, ◌++◌, codes, decimal, ap, ◌∙◌}
use Rattle.hex.specs.Hex.{encode_lower}
use Rattle.tp_answers.specs.Texts.{flag}
use Rattle.tp_answers.proofs.Texts.{flag_is, result_told}
use Rattle.tp_answers.proofs.writing.write_result.Goals as goal

pub returns : goal.returns
returns c =
    let run = c.args.run.now in
    let error : decimal c.from.result ≡ decimal (flag run.error) =
    ap decimal (c.from.ensures ∙ flag_is c.run.inside.error ∙ ap (λ r. flag r.error) c.run.view_is) in
    let field : c.write_field-2.new.out.items ≡ c.write_field.new.out.items ++ decimal (flag run.error) ++ codes " " =
    c.in_ok-write_field-2.ensures ∙ ap (λ n. c.write_field.new.out.items ++ n ++ codes " ") error in
    let steps : c.write_field-3.new.out.items ≡ c.write_field-2.new.out.items ++ decimal run.steps ++ codes " " =
    c.in_ok-write_field-3.ensures ∙ ap (λ n. c.write_field-2.new.out.items ++ decimal n ++ codes " ")
    (c.from-2.ensures ∙ ap (λ r. r.steps) c.run.view_is) in
    let result : c.write_hex.new.out.items ≡ c.write_field-3.new.out.items ++ encode_lower run.result =
    c.in_ok-write_hex.ensures ∙ ap (λ bytes. c.write_field-3.new.out.items ++ encode_lower bytes)
    (c.as_slice.ensures.value ∙ ap (λ r. r.result) c.run.view_is) in
    result_told c.args.out.now.items (decimal c.args.number) (decimal (flag run.error)) (decimal run.steps)
    (encode_lower run.result) c.in_ok-extend_from_slice.ensures.items c.in_ok-write_field.ensures field steps result
    c.in_ok-push.ensures.items
