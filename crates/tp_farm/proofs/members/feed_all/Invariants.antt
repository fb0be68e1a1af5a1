use Rattle.tp_stream.specs.Streams.{IsFeederOf}
use Rattle.tp_farm.specs.Feeding.{HasOnlyFed}
use Rattle.tp_farm.proofs.members.feed_all.Given as goal

abbrev pub invariant-loop : goal.invariant-loop
invariant-loop g l = IsFeederOf l.stream l.feeder × HasOnlyFed l.feeder
