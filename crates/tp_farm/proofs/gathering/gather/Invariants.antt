use Rattle.std.specs.List.{All}
use Rattle.std.specs.Vec.Iter.{into_iter_items}
use Rattle.tp_farm.specs.Gathering.{IsOfBatch, entries_with}
use Rattle.tp_farm.proofs.Filing.{MayFile}
use Rattle.tp_farm.proofs.gathering.gather.Given as goal

abbrev pub invariant-loop-one : goal.invariant-loop-one
invariant-loop-one l =
    (goal.iterator-loop-one).can_next l.one-iterator
    × (goal.iterator-loop-one).is_finite l.one-iterator
    × All (IsOfBatch l.initial.collector.batch) (into_iter_items l.one-iterator)
    × MayFile l.initial.collector.batch (entries_with l.initial.collector.entries l.fn.filed.items) l.collector
    (into_iter_items l.one-iterator)
