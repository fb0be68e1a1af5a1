use Rattle.std.proofs.Common.{inl}
use Rattle.std.proofs.lemmas.Result.{on_ok_weaker, IfErr-weaker}
use Rattle.tpw_commands.proofs.Lines.{is_line}
use Rattle.tpw_commands.proofs.assembling.assemble_text.Goals as goal

pub returns-clause-line : goal.returns-clause-line
returns-clause-line g c =
    let line = is_line _ _ _ _ _ _ c.in_ok-made.ensures.image c.as_slice.ensures.value c.in_ok-line.ensures c.as_str.ensures.value in
    on_ok_weaker c.write_line.result (λ written. (c.as_str.result.now, line, written)) c.write_line.ensures.text

pub returns-clause-refused : goal.returns-clause-refused
returns-clause-refused g c = IfErr-weaker c.write_line.result _ _ (λ e is. inl is) c.write_line.ensures.fault
