use Rattle.std.proofs.Common.{List, arith, subst}
use Rattle.std.specs.List.{list_any}
use Rattle.tpw_asm.specs.declared.program.Loop.{Loop}
use Rattle.tpw_asm.specs.declared.program.Line.{Line}
use Rattle.tpw_text.specs.Written.{IsMarked, names_from_row, names_from_line, is_named}
use Rattle.tpw_text.proofs.Written.{marked_both}
use Rattle.tpw_text.proofs.writing.mark_program.Goals as goal

pub returns : goal.returns
unfolding is_named
returns c =
    let p = c.args.program.now in
    let old = c.args.marks.now in
    marked_both (λ k. list_any (names_from_row k) p.loops.items) (λ k. list_any (names_from_line k) p.lines.items) old c.mark_rows.new.marks c.mark_lines.new.marks (omega arith)
    (subst (λ (rows : List Loop). IsMarked (λ k. list_any (names_from_row k) rows) old c.mark_rows.new.marks) c.deref.ensures.value c.mark_rows.ensures)
    (subst (λ (lines : List Line). IsMarked (λ k. list_any (names_from_line k) lines) c.mark_rows.new.marks c.mark_lines.new.marks) c.deref-2.ensures.value c.mark_lines.ensures)
