use Rattle.std.proofs.Common.{◌≡◌, length}
use Rattle.tp_farm.specs.Settings.{SameDevice}
use Rattle.tp_farm.proofs.handling.drain.Given as goal

abbrev pub invariant-loop-scratch : goal.invariant-loop-scratch
invariant-loop-scratch g l =
    SameDevice (g.D.LinkDevice.state l.initial.device) (g.D.LinkDevice.state l.device)
    × ((g.D.LinkDevice.state l.device).faults ≡ (g.D.LinkDevice.state l.initial.device).faults)

abbrev pub decreases-loop-scratch : goal.decreases-loop-scratch
decreases-loop-scratch g l = length (g.D.LinkDevice.state l.device).held
