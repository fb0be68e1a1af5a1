use Rattle.std.proofs.Common.{◌≡◌, length, rules}
use Rattle.tp_machine.proofs.Copying.{move_within, leads_move}
use Rattle.tp_machine.proofs.registers.Registers.move_bytes.Goals as goal

pub copy-requires-clause-target_low : goal.copy-requires-clause-target_low
copy-requires-clause-target_low c = (move_within c.args.self c.args.workspace.now c.requires).target_low

pub copy-requires-clause-target_high : goal.copy-requires-clause-target_high
copy-requires-clause-target_high c = (move_within c.args.self c.args.workspace.now c.requires).target_high

pub copy-requires-clause-source_low : goal.copy-requires-clause-source_low
copy-requires-clause-source_low c = (move_within c.args.self c.args.workspace.now c.requires).source_low

pub copy-requires-clause-source_high : goal.copy-requires-clause-source_high
copy-requires-clause-source_high c = (move_within c.args.self c.args.workspace.now c.requires).source_high

pub copy-requires-clause-apart : goal.copy-requires-clause-apart
copy-requires-clause-apart c = (move_within c.args.self c.args.workspace.now c.requires).apart

pub returns : goal.returns
returns c =
    let long : length c.args.workspace.now ≡ 2048 = search rules in
    rw c.copy.ensures (leads_move c.args.self c.args.workspace.now long)
