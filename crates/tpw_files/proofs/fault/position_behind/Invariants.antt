use Rattle.std.proofs.Common.{◌≡◌, ◌≤◌, ◌+◌, take}
use Rattle.tpw_files.specs.Positions.{behind_all}
use Rattle.tpw_files.proofs.fault.position_behind.Given as goal

abbrev pub invariant-loop-byte : goal.invariant-loop-byte
invariant-loop-byte l =
    (l.position ≡ behind_all record { line = 1; column = 1 } (take l.byte-index l.before))
    × (l.position.line ≤ l.byte-index + 1) × (l.position.column ≤ l.byte-index + 1)
