use Rattle.std.proofs.Common.{[], sym}
use Rattle.std.proofs.lemmas.List.{append-nil}
use Rattle.tp_session.proofs.KnownBytes.{appends_front, appends_same}
use Rattle.tp_program.specs.Program.{fault_line}
use Rattle.tp_program.proofs.ending.write_fault.Goals as goal

pub returns-in-Ok : goal.returns-in-Ok
returns-in-Ok g c =
    let text = fault_line c.args.fault in
    appends_front _ _ text [] text (sym (append-nil text)) (appends_same _ _ _ _ c.fault_line.ensures c.in-Ok.ensures.ok)
