use Rattle.std.proofs.Common.{◌≡◌, length, refl, rules}
use Rattle.tp_machine.proofs.Exchanging.{in_within, in_made, in_refused}
use Rattle.tp_machine.proofs.registers.Registers.input.Goals as goal

pub receive-requires-clause-low : goal.receive-requires-clause-low
receive-requires-clause-low g c = (in_within c.args.self c.args.workspace.now c.requires).0

pub receive-requires-clause-high : goal.receive-requires-clause-high
receive-requires-clause-high g c = (in_within c.args.self c.args.workspace.now c.requires).1

pub returns-in-Ok : goal.returns-in-Ok
returns-in-Ok g c = λ image before s t usual h d awaits e.
    let long : length c.args.workspace.now ≡ 2048 = search rules in
    rw c.in-Ok.ensures.bytes (in_made c.args.self c.args.workspace.now long image before _ s t usual h d awaits e _ c.in-Ok.ensures.answer c.in-Ok.ensures.device)

pub returns-in-Err : goal.returns-in-Err
returns-in-Err g c = λ image before s t usual h d awaits e.
    let long : length c.args.workspace.now ≡ 2048 = search rules in
    (in_refused c.args.self c.args.workspace.now long image before _ s t usual h d awaits e c.in-Err.code _ c.in-Err.ensures.answer c.in-Err.ensures.device, refl)
