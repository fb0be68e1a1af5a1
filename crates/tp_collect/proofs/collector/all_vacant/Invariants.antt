use Rattle.std.proofs.Common.{◌≡◌, replicate}
use Rattle.tp_collect.specs.Collecting.{vacant}
use Rattle.tp_collect.proofs.collector.all_vacant.Given as goal

abbrev pub invariant-loop : goal.invariant-loop
invariant-loop l = l.entries.items ≡ replicate l.counter vacant
