use Rattle.std.proofs.Common.{◌≡◌, ◌+◌, ◌≤◌, vec_len, vec_capacity}
use Rattle.std.specs.List.{All}
use Rattle.std.specs.Vec.Iter.{into_iter_items, into_iter_len}
use Rattle.tp_farm.specs.Working.{IsFresh}
use Rattle.tp_farm.proofs.Starting.{IsUpTo}
use Rattle.tp_farm.proofs.members.start_all.Given as goal

abbrev pub invariant-loop-links : goal.invariant-loop-links
invariant-loop-links g l =
    (goal.iterator-loop-links g).can_next l.links-iterator
    × (goal.iterator-loop-links g).is_finite l.links-iterator
    × IsUpTo (λ h. h.promise.before.value) (λ h. h.promise.shared.now ≡ l.shared) l.fn.all.items
    (into_iter_items l.links-iterator) l.handles.items
    × All (IsFresh l.shared.stream.now) l.hands.items
    × (vec_len l.hands ≡ into_iter_len l.links-iterator)
    × (vec_len l.handles + into_iter_len l.links-iterator ≡ vec_len l.fn.all)
    × (l.number ≡ vec_len l.handles)
    × (vec_len l.fn.all ≤ vec_capacity l.handles)
