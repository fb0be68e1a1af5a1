use Rattle.std.proofs.Common.{◌≡◌, ◌+◌, length, replicate, false, ap, ◌∙◌, arith}
use Rattle.tpw_text.specs.Programs.{program_said}
use Rattle.tpw_text.specs.Written.{is_named}
use Rattle.tpw_text.proofs.Written.{marks_are, in_place, fresh_marks}
use Rattle.tpw_text.proofs.writing.marks_of.Goals as goal

pub returns : goal.returns
returns c =
    let p = c.args.program.now in
    let lines = length p.lines.items in
    let count : c.len.result ≡ lines = omega (arith, p.lines.ok.0) in
    let none : c.deref_mut.result.now ≡ replicate (lines + 1) false =
    c.deref_mut.ensures.value ∙ c.in_ok-resize.ensures.items ∙ fresh_marks c.len.result lines _ c.new-marks.result.items c.new-marks.ensures.items c.new-marks.ensures.len count in
    let same : length c.mark_program.new.marks ≡ length c.deref_mut.result.now = omega arith in
    marks_are (is_named (program_said p)) c.deref_mut.result.now c.mark_program.new.marks _ lines none same
    (in_place c.resize.new.self.len c.mark_program.new.marks c.resize.new.self.items (same ∙ ap length c.deref_mut.ensures.value) (omega (arith, c.resize.new.self.ok.0))) c.mark_program.ensures
