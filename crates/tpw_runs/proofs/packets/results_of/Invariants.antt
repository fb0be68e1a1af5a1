use Rattle.std.proofs.Common.{◌≡◌, length, map, take, Some}
use Rattle.std.specs.Str.Lines.{lines}
use Rattle.tpw_runs.specs.Packets.{expected_said, lines_said, result_said}
use Rattle.tpw_runs.proofs.packets.results_of.Given as goal

-- the results are what the lines so far say
abbrev pub invariant-loop-i : goal.invariant-loop-i
invariant-loop-i l =
    lines_said (result_said l.notation l.bytes) (take (length l.yielded) (lines l.text)) ≡ Some (map expected_said l.results.items)
