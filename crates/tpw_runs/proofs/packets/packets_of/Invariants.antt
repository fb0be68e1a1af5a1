use Rattle.std.proofs.Common.{◌≡◌, All, length, map, take, Some}
use Rattle.std.specs.Str.Lines.{lines}
use Rattle.tpw_runs.specs.Packets.{lines_said, packet_said}
use Rattle.tpw_runs.proofs.packets.packets_of.Given as goal

-- the packets are what the lines so far say
abbrev pub invariant-loop-i : goal.invariant-loop-i
invariant-loop-i l =
    All (λ p. length p.items ≡ l.bytes) l.packets.items
    × (lines_said (packet_said l.notation l.bytes) (take (length l.yielded) (lines l.text)) ≡ Some (map (λ p. p.items) l.packets.items))
