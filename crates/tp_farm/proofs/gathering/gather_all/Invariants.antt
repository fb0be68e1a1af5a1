use Rattle.std.proofs.Common.{◌≡◌, ◌+◌, ◌≤◌, ◌++◌, map, vec_len, vec_capacity}
use Rattle.std.specs.List.{All}
use Rattle.std.specs.Vec.Iter.{into_iter_items, into_iter_len}
use Rattle.tp_farm.specs.Gathering.{IsOfBatch, entries_with, all_filed}
use Rattle.tp_farm.proofs.Filing.{MayFile}
use Rattle.tp_farm.proofs.gathering.gather_all.Given as goal

abbrev pub invariant-loop-one : goal.invariant-loop-one
invariant-loop-one g l =
    (goal.iterator-loop-one g).can_next l.one-iterator
    × (goal.iterator-loop-one g).is_finite l.one-iterator
    × All (λ k. All (IsOfBatch l.initial.collector.batch) k.filed.items) (into_iter_items l.one-iterator)
    × MayFile l.initial.collector.batch (entries_with l.initial.collector.entries
    (all_filed (map (λ k. k.filed.items) l.fn.kept.items))) l.collector
    (all_filed (map (λ k. k.filed.items) (into_iter_items l.one-iterator)))
    × (vec_len l.links + into_iter_len l.one-iterator ≤ vec_capacity l.links)
    × (l.links.items ++ map (λ k. k.links) (into_iter_items l.one-iterator) ≡ l.initial.links.items
    ++ map (λ k. k.links) l.fn.kept.items)
