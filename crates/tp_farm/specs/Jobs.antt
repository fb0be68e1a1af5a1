-- Jobs as contracts see them.
use Rattle.std.specs.Prelude.{map, All}
use Rattle.tp_accept.specs.Ending.{IsPacket}
use Rattle.tp_collect.specs.Collected.{JobValue}
use Rattle.tp_farm.specs.declared.job.Job.{Job}

-- what contracts see of a job
abbrev pub value_of_job : Job → JobValue
value_of_job job =
    record { number = job.batch; image = job.image.now.image; packets = map (λ p. p.items) job.packets.now }

-- each packet is as many bytes as the image states
abbrev pub AreWhole : JobValue → Type 0
AreWhole batch = All (IsPacket batch.image) batch.packets
