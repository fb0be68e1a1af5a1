use Rattle.std.proofs.Common.{◌≡◌, ◌++◌, codes, string_bytes, IfOk, ap, ◌∙◌}
use Rattle.std.specs.Fmt.{decimal}
use Rattle.hex.specs.Hex.{encode_lower}
use Rattle.tp_decode.specs.Lines.{instruction_text}
use Rattle.tp_decode.proofs.LineLemmas.{told, regrouped}
use Rattle.tp_decode.proofs.lines.plain_line.Goals as goal

pub returns : goal.returns
returns c =
    let address = decimal c.args.at in
    let text = instruction_text c.args.piece.now.instr in
    let spelling : string_bytes c.in_ok-spelling.spelling ≡ encode_lower c.args.piece.now.spelling.items = c.in_ok-spelling.ensures ∙ ap encode_lower c.as_slice.ensures.value in
    let h : IfOk c.format.result (λ s. string_bytes s ≡ address ++ (codes " " ++ (string_bytes c.in_ok-spelling.spelling ++ (codes " " ++ text)))) = c.format.ensures.ok in
    told string_bytes c.format.result _ _ h (ap (λ bytes. address ++ (codes " " ++ (bytes ++ (codes " " ++ text))))
    spelling ∙ regrouped address (codes " ") (encode_lower c.args.piece.now.spelling.items) (codes " ") text)
