use Rattle.std.proofs.Common.{◌≡◌, ◌≤◌, ◌++◌, drop, length, map}
use Rattle.tpw_runs.specs.Packets.{fields_said}
use Rattle.tpw_runs.proofs.Cutting.{Within}
use Rattle.tpw_runs.proofs.packets.fields_of.Given as goal

-- the fields so far, and those of what is left from a place on
abbrev pub invariant-loop-i : goal.invariant-loop-i
invariant-loop-i l =
    (map (λ f. f.text.now) l.fields.items ++ fields_said (drop l.start l.line) ≡ fields_said l.line)
    × Within l.line l.start l.i
    × (l.start ≤ length l.line)
