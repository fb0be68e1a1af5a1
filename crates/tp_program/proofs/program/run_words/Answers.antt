use Rattle.std.proofs.Common.{Err, map}
use Rattle.tp_program.proofs.Performing.{served, ended}
use Rattle.tp_program.proofs.program.run_words.Goals as goal

pub returns-in-Err-serve_members : goal.returns-in-Err-serve_members
returns-in-Err-serve_members g c =
    let text = c.report.ensures.text in
    let by = c.in-Err-serve_members.ensures in
    served (map g.S.AsStr.text c.args.words.now) _ _ _ _ _ _ c.in-Ok.asked c.in-Ok.ensures.asked c.in-Ok.ensures.none (Err c.in-Err-serve_members.fault)
    tt by.read by.want by.write _ c.report.ensures.status text.0 text.1

pub returns-in-Err : goal.returns-in-Err
returns-in-Err g c = ended (map g.S.AsStr.text c.args.words.now) _ _ _ _ _ c.in-Err.ending c.in-Err.ensures.fails _ c.conclude.ensures
