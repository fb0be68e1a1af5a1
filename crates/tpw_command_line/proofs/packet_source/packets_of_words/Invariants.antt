use Rattle.std.proofs.Common.{◌≡◌, All, length}
use Rattle.tpw_command_line.proofs.packet_source.packets_of_words.Given as goal

abbrev pub invariant-loop-line : goal.invariant-loop-line
invariant-loop-line l = All (λ p. length p.items ≡ l.bytes) l.packets.items
