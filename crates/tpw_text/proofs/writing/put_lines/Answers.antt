use Rattle.std.proofs.Common.{ℕ, Bool, ◌+◌, ◌++◌, drop, get_or, false, string_bytes, sym, ap, ◌∙◌, arith}
use Rattle.std.specs.Option.{option_copied}
use Rattle.tpw_text.specs.Written.{lines_text}
use Rattle.tpw_text.proofs.Written.{written_on, lines_more, line_more, lines_end}
use Rattle.tpw_text.proofs.writing.put_lines.Goals as goal

pub loop-place-preserved : goal.loop-place-preserved
loop-place-preserved c =
    let t : ℕ → Bool = λ k. get_or c.args.marks.now k false in
    let remarks = option_copied c.args.remarks in
    let n = c.loop-place.place in
    line_more (string_bytes c.loop-place.text) _ _ _ (lines_text t remarks (n + 1) (drop (n + 1) c.args.lines.now)) _ c.in_ok-put_label.ensures c.in_ok-put_line.ensures c.in_ok-end_line.ensures
    (ap (λ l. string_bytes c.loop-place.text ++ l) (sym (lines_more t remarks n c.args.lines.now n _ (omega arith))) ∙ c.loop-place.invariant)

pub returns : goal.returns
returns c =
    let t : ℕ → Bool = λ k. get_or c.args.marks.now k false in
    let remarks = option_copied c.args.remarks in
    written_on c.put_label-2.result _ _ _ c.put_label-2.ensures
    (ap (λ l. string_bytes c.loop-place.text ++ l) (lines_end t remarks c.loop-place.place c.args.lines.now (omega arith)) ∙ c.loop-place.invariant)
