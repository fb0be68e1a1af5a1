use Rattle.std.proofs.Common.{◌≡◌, take, length, filter}
use Rattle.std.specs.List.{range_with_len}
use Rattle.tp_flow.specs.LoopsAround.{is_around}
use Rattle.tp_flow.proofs.nest.Nest.around.Given as goal

abbrev pub invariant-loop-row : goal.invariant-loop-row
invariant-loop-row l = l.rows.items ≡ filter (is_around l.self l.at) (take l.row (range_with_len 0 (length l.self)))
