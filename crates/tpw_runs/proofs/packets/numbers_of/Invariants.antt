use Rattle.std.proofs.Common.{◌≡◌, ◌++◌, ◌*◌, drop, length, map}
use Rattle.std.specs.Option.{option_map}
use Rattle.tpw_runs.specs.Packets.{words_said}
use Rattle.tpw_runs.proofs.packets.numbers_of.Given as goal

-- what the fields say is what is there so far, and behind it what those left say
abbrev pub invariant-loop-field : goal.invariant-loop-field
invariant-loop-field l =
    (words_said (map (λ f. f.text.now) l.fields)
    ≡ option_map (λ rest. l.packet.items ++ rest) (words_said (drop l.field-index (map (λ f. f.text.now) l.fields))))
    × (length l.packet.items ≡ 4 * l.field-index)
