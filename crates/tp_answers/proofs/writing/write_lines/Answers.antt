use Rattle.std.proofs.Common.{◌≡◌, ◌++◌, codes, string_bytes, length, take, sym, ap, ◌∙◌, arith, append_assoc}
use Rattle.std.specs.List.{flat_map}
use Rattle.std.proofs.Math.Seq.{take-length}
use Rattle.tp_decode.specs.Lines.{lines_from}
use Rattle.tp_answers.specs.Texts.{text_line}
use Rattle.tp_answers.proofs.Texts.{as_many_lines, line_more}
use Rattle.tp_answers.proofs.writing.write_lines.Goals as goal

pub loop-i-preserved : goal.loop-i-preserved
loop-i-preserved c =
    let before = c.args.out.now.items in
    let so_far = flat_map text_line (take c.loop-i.i (lines_from 0 c.args.listing.now)) in
    let line = string_bytes c.in_ok-text.field-0 in
    c.in_ok-push.ensures.items ∙ ap (λ bytes. bytes ++ codes "\n")
    (c.in_ok-extend_from_slice.ensures.items ∙ ap (λ bytes. c.loop-i.out.items ++ bytes) c.as_bytes.ensures.value
    ∙ ap (λ bytes. bytes ++ line) c.loop-i.invariant)
    ∙ ap (λ bytes. bytes ++ codes "\n") (append_assoc before so_far line) ∙ append_assoc before (so_far ++ line) (codes "\n")
    ∙ ap (λ bytes. before ++ bytes) (sym (line_more (lines_from 0 c.args.listing.now) c.loop-i.i line c.in_ok-text.ensures))

pub returns : goal.returns
returns c =
    let all : length (lines_from 0 c.args.listing.now) ≡ c.loop-i.i =
    omega (arith, c.len-i-end.ensures, as_many_lines 0 c.args.listing.now) in
    c.loop-i.invariant ∙ ap (λ lines. c.args.out.now.items ++ flat_map text_line lines)
    (ap (λ n. take n (lines_from 0 c.args.listing.now)) (sym all) ∙ take-length (lines_from 0 c.args.listing.now))
