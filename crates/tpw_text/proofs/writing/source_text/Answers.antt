use Rattle.std.proofs.Common.{ℕ, ◌≡◌, ◌++◌, Bool, get_or, false, string_bytes, ap, ◌∙◌, arith}
use Rattle.std.specs.Option.{option_copied}
use Rattle.tpw_text.specs.Programs.{program_said}
use Rattle.tpw_text.specs.Written.{is_named, above, fields_text, lines_text, text_of}
use Rattle.tpw_text.proofs.Written.{lines_same}
use Rattle.tpw_text.proofs.writing.source_text.Goals as goal

pub returns : goal.returns
unfolding text_of
returns c =
    let p = program_said c.args.program.now in
    let remarks = option_copied c.args.remarks in
    let marked : ℕ → Bool = λ k. get_or c.deref.result.now k false in
    let front : string_bytes c.put_fields.new.text ≡ above remarks ++ fields_text p =
    c.in_ok-put_fields.ensures ∙ ap (λ t. t ++ fields_text p) (c.in_ok-put_above.ensures ∙ ap (λ t. t ++ above remarks) c.new-text.ensures.bytes) in
    let written : string_bytes c.put_lines.new.text ≡ string_bytes c.put_fields.new.text ++ lines_text marked remarks 0 c.deref-2.result.now = c.in_ok-put_lines.ensures in
    let lines : lines_text marked remarks 0 c.deref-2.result.now ≡ lines_text (is_named p) remarks 0 p.lines =
    ap (lines_text marked remarks 0) c.deref-2.ensures.value
    ∙ lines_same marked (is_named p) remarks 0 p.lines (λ k low high. ap (λ l. get_or l k false) c.deref.ensures.value ∙ c.in_ok-marks.ensures k (omega arith)) in
    written ∙ ap (λ t. t ++ lines_text marked remarks 0 c.deref-2.result.now) front ∙ ap (λ l. (above remarks ++ fields_text p) ++ l) lines
