use Rattle.std.proofs.Common.{◌≡◌, ◌++◌, codes, string_bytes, sym, ap, refl, ◌∙◌, append_assoc}
use Rattle.std.specs.Str.{bytes_eq}
use Rattle.hex.specs.Hex.{encode_lower}
use Rattle.tp_decode.specs.Lines.{plain_line, shortest}
use Rattle.tp_decode.specs.Listings.{cut_of}
use Rattle.tp_decode.proofs.LineLemmas.{line_alone, line_noted, not_true, not_false}
use Rattle.tp_decode.proofs.lines.line.Goals as goal
use Rattle.tp_decode.proofs.lines.line.Goals.{then-ne+in_ok-push_str+in_ok-encode+in_ok-push_str-2, else-ne}

pub returns : goal.returns
returns c =
    let cut = cut_of c.args.piece.now in
    let plain : string_bytes c.in_ok-text.text ≡ plain_line c.args.at cut = c.in_ok-text.ensures in
    let least : c.spelling-least.result.items ≡ shortest cut.instr = c.spelling-least.ensures in
    let test : bytes_eq c.as_slice.result.now c.as_slice-2.result.now ≡ bytes_eq (shortest cut.instr) cut.bytes =
    rw (c.as_slice.ensures.value, c.as_slice-2.ensures.value, least) refl in
    elim c.if-ne.branch [
      | then-ne+in_ok-push_str+in_ok-encode+in_ok-push_str-2 w ↦
          let other = sym test ∙ not_true c.ne.result _ c.ne.ensures w.if-ne.true in
          let hex : string_bytes w.in_ok-encode.field-0 ≡ encode_lower (shortest cut.instr) = w.in_ok-encode.ensures ∙ ap encode_lower (w.as_slice-then-ne.ensures.value ∙ least) in
          let front : string_bytes w.push_str.new.self ≡ plain_line c.args.at cut ++ codes " least " = w.in_ok-push_str.ensures.bytes ∙ ap (λ bytes. bytes ++ codes " least ") plain in
          let text : w.as_str.result.now ≡ encode_lower (shortest cut.instr) = w.as_str.ensures.value ∙ hex in
          ap string_bytes w.text-is ∙ w.in_ok-push_str-2.ensures.bytes ∙
          ap (λ bytes. bytes ++ w.as_str.result.now) front ∙
          append_assoc (plain_line c.args.at cut) (codes " least ") w.as_str.result.now
          ∙ ap (λ bytes. plain_line c.args.at cut ++ (codes " least " ++ bytes)) text ∙ sym (line_noted c.args.at cut other)
      | else-ne w ↦ ap string_bytes w.text-is ∙ plain ∙ sym (line_alone c.args.at cut (sym test ∙ not_false c.ne.result _ c.ne.ensures w.if-ne.false))
    ]
