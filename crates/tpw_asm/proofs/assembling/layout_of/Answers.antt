use Rattle.std.proofs.Common.{◌≡◌, length, None, Some, List, sym, ap, subst, ◌∙◌, arith}
use Rattle.std.proofs.lemmas.Result.{err_from_is_err_and}
use Rattle.tpw_asm.specs.Faults.{first_fault, first_row, first_narrow, AreSound}
use Rattle.tpw_asm.specs.declared.program.Line.{Line}
use Rattle.tpw_asm.specs.Layout.{IsLeastLayout}
use Rattle.tpw_asm.specs.Assembly.{HasLayout}
use Rattle.tpw_asm.proofs.AssemblyLemmas.{line_refused, row_refused, narrow_refused, layout_count}
use Rattle.tpw_asm.proofs.assembling.layout_of.Goals as goal

pub returns-in_err-check_lines-clause-refused : goal.returns-in_err-check_lines-clause-refused
returns-in_err-check_lines-clause-refused c =
    let p = err_from_is_err_and c.from_residual.result c.from_residual.ensures.1 in
    let is : first_fault (length c.args.program.now.lines.items) 0 c.args.program.now.lines.items ≡ Some c.in_err-check_lines.field-0.0 =
    ap (λ xs. first_fault (length xs) 0 xs) (sym c.deref.ensures.value) ∙ sym c.in_err-check_lines.ensures in
    rw (p.1, p.2) (line_refused c.args.program.now _ is)

pub returns-in_err-check_rows-clause-refused : goal.returns-in_err-check_rows-clause-refused
returns-in_err-check_rows-clause-refused c =
    let p = err_from_is_err_and c.from_residual-in_err-check_rows.result c.from_residual-in_err-check_rows.ensures.1 in
    let sound : AreSound c.args.program.now.lines.items = ap (λ xs. first_fault (length xs) 0 xs) (sym c.deref.ensures.value) ∙ sym c.in_ok-check_lines.ensures in
    let count : length c.args.program.now.lines.items ≡ c.len.result = omega (arith, c.args.program.now.lines.ok.0) in
    let is : first_row (length c.args.program.now.lines.items) 0 c.args.program.now.loops.items ≡ Some c.in_err-check_rows.field-0.0 =
    ap (λ n. first_row n 0 c.args.program.now.loops.items) count ∙ ap (first_row c.len.result 0) (sym c.deref-2.ensures.value) ∙ sym c.in_err-check_rows.ensures in
    rw (p.1, p.2) (row_refused c.args.program.now _ sound is)

pub check_lengths-requires : goal.check_lengths-requires
check_lengths-requires c =
    ap length c.deref-5.ensures.value ∙ layout_count c.deref-3.result.now _ c.in_ok-layout.ensures.laid_out.least.layout ∙ ap length c.deref-3.ensures.value ∙ sym (ap length c.deref-4.ensures.value)

pub returns-in_err-check_lengths-clause-refused : goal.returns-in_err-check_lengths-clause-refused
returns-in_err-check_lengths-clause-refused c =
    let p = err_from_is_err_and c.from_residual-in_err-check_lengths.result c.from_residual-in_err-check_lengths.ensures.1 in
    let count : length c.args.program.now.lines.items ≡ c.len.result = omega (arith, c.args.program.now.lines.ok.0) in
    let lengths = c.in_ok-layout.layout.lengths.items in
    let sound : AreSound c.args.program.now.lines.items = ap (λ xs. first_fault (length xs) 0 xs) (sym c.deref.ensures.value) ∙ sym c.in_ok-check_lines.ensures in
    let rows : first_row (length c.args.program.now.lines.items) 0 c.args.program.now.loops.items ≡ None =
    ap (λ n. first_row n 0 c.args.program.now.loops.items) count ∙ ap (first_row c.len.result 0) (sym c.deref-2.ensures.value) ∙ sym c.in_ok-check_rows.ensures in
    let has : HasLayout c.args.program.now lengths = record {
      places = record { lines = sound; rows = rows };
      least = subst (λ (xs : List Line). IsLeastLayout xs lengths) c.deref-3.ensures.value c.in_ok-layout.ensures.laid_out.least;
      short = omega (arith, c.in_ok-layout.ensures.laid_out.short, c.most-most.ensures.code);
    } in
    let is : first_narrow 0 c.args.program.now.lines.items lengths ≡ Some c.in_err-check_lengths.field-0.0 =
    ap (λ xs. first_narrow 0 xs lengths) (sym c.deref-4.ensures.value) ∙ ap (first_narrow 0 c.deref-4.result.now) (sym c.deref-5.ensures.value) ∙ sym c.in_err-check_lengths.ensures in
    rw (p.1, p.2) (narrow_refused c.args.program.now lengths _ has is)
