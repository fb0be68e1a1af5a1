-- Lists of one event.
use Rattle.std.proofs.Common.{ℕ, zero, suc, ◌<◌, replicate, arith}
use Rattle.tp_board.specs.declared.event.Event.{Event}
use Rattle.tp_board.specs.Runs.{AllMembers}

pub are_members : (count : ℕ) (e : Event) → AllMembers 1 (replicate count (0, e))
are_members zero e = tt
are_members (suc count) e = (omega arith, are_members count e)
