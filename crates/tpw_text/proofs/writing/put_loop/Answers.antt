use Rattle.std.proofs.Common.{◌≡◌, ◌++◌, codes, string_bytes, ap, ◌∙◌, rules}
use Rattle.std.proofs.lemmas.Int.{to_z-of_z}
use mir.Val.{SFits}
use mir.Syntax.{w32}
use Rattle.std.specs.Fmt.{decimal, signed_decimal}
use Rattle.tpw_text.specs.Written.{spot_text, loop_text}
use Rattle.tpw_text.proofs.Written.{appended_on, row_written}
use Rattle.tpw_text.proofs.writing.put_loop.Goals as goal

pub returns : goal.returns
unfolding loop_text
returns c =
    let row = c.args.row.now in
    let fits : SFits w32 row.start = search rules in
    let head : string_bytes c.put_spot.new.text ≡ string_bytes c.args.text.now ++ codes "loop head " ++ spot_text row.head =
    c.in_ok-put_spot.ensures ∙ ap (λ t. t ++ spot_text row.head) c.in_ok-push_str.ensures.bytes in
    let lend : string_bytes c.put_spot-2.new.text ≡ string_bytes c.args.text.now ++ codes "loop head " ++ spot_text row.head ++ codes " lend " ++ spot_text row.lend =
    c.in_ok-put_spot-2.ensures ∙ ap (λ t. t ++ spot_text row.lend) (c.in_ok-push_str-2.ensures.bytes ∙ ap (λ t. t ++ codes " lend ") head) in
    let numbers = codes " control " ++ (decimal row.control ++ (codes " turns " ++ (decimal row.count ++ codes " start "))) in
    let start : string_bytes c.put_signed.new.text ≡ (string_bytes c.put_spot-2.new.text ++ numbers) ++ signed_decimal row.start =
    c.in_ok-put_signed.ensures ∙ ap (λ n. string_bytes c.write.new.self ++ signed_decimal n) (to_z-of_z w32 row.start fits)
    ∙ ap (λ t. t ++ signed_decimal row.start) c.in_ok-write.ensures.bytes in
    appended_on c.push_str-3.result _ _ _ _ c.push_str-3.ensures.bytes
    (ap (λ t. t ++ codes "\n") (start ∙ ap (λ t. (t ++ numbers) ++ signed_decimal row.start) lend)
    ∙ row_written (string_bytes c.args.text.now) (spot_text row.head) (spot_text row.lend) (decimal row.control) (decimal row.count) (signed_decimal row.start))
