use Rattle.std.proofs.Common.{◌≡◌}
use Rattle.tp_outcome.specs.Devices.{devices_of}
use Rattle.tpw_step.proofs.Along.{Along}
use Rattle.tpw_step.proofs.stepper.Stepper.next.Given as goal

abbrev pub invariant-loop : goal.invariant-loop
invariant-loop g l =
    (l.self.image ≡ l.fn.self.image)
    × Along l.fn.self.image l.prefixes l.fn.self.machine l.fn.self.phase
    (devices_of g.D.LinkDevice.state l.fn.links)
    l.counter l.self.machine l.self.phase
    (devices_of g.D.LinkDevice.state l.links)
