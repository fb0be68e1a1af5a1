use Rattle.std.proofs.Common.{◌≡◌, ◌++◌, codes, string_bytes, sym, ap, ◌∙◌, arith}
use Rattle.tp_decode.specs.Lines.{instruction_text}
use Rattle.tp_decode.specs.Table.{entry}
use Rattle.tpw_text.specs.Written.{operation_text, operand_text, stated_text}
use Rattle.tpw_text.proofs.Written.{written_on, appended_on, instr_alone, instr_parted, parted_written, alone_written}
use Rattle.tpw_text.proofs.writing.put_instr.Goals as goal

pub returns-in-Some : goal.returns-in-Some
unfolding operation_text
returns-in-Some c =
    let old = string_bytes c.args.text.now in
    let stated = stated_text c.args.bytes in
    let is : c.as_str.result.now ≡ instruction_text c.args.instr = c.as_str.ensures.value ∙ c.in_ok-shown.ensures.ok in
    let cut = c.in-Some.ensures.byte (omega arith) (λ w o h. h) in
    let parts = instr_parted c.args.instr c.as_str.result.now is cut.2 in
    let spaced : string_bytes c.push_str-in-Some.new.self ≡ ((old ++ c.in-Some.name.now) ++ stated) ++ codes " " =
    c.in_ok-push_str-in-Some-2.ensures.bytes ∙ ap (λ t. t ++ codes " ") (c.in_ok-put_stated-in-Some.ensures ∙ ap (λ t. t ++ stated) c.in_ok-push_str-in-Some.ensures.bytes) in
    appended_on c.push_str-in-Some-2.result _ _ _ _ c.push_str-in-Some-2.ensures.bytes
    (parted_written old stated (entry c.args.instr).name c.in-Some.name.now _ c.in-Some.operand.now (operand_text c.args.instr) spaced (cut.0 ∙ parts.0) cut.1 parts.1)

pub returns : goal.returns
unfolding operation_text
returns c =
    let is : c.as_str.result.now ≡ instruction_text c.args.instr = c.as_str.ensures.value ∙ c.in_ok-shown.ensures.ok in
    let parts = instr_alone c.args.instr c.as_str.result.now is (c.in-None.ensures.byte (omega arith) (λ w o h. h)) in
    written_on c.put_stated-in-None.result _ _ _ c.put_stated-in-None.ensures
    (alone_written (string_bytes c.args.text.now) (stated_text c.args.bytes) (entry c.args.instr).name
    c.as_str-in-None.result.now (operand_text c.args.instr) c.in_ok-push_str-in-None.ensures.bytes
    (c.as_str-in-None.ensures.value ∙ sym c.as_str.ensures.value ∙ parts.0) parts.1)
