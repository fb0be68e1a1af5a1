use Rattle.std.proofs.Common.{◌≡◌, ◌+◌, ◌≤◌, ◌++◌, None, map, vec_len, vec_capacity}
use Rattle.std.specs.List.{All}
use Rattle.std.specs.Vec.Iter.{into_iter_items, into_iter_len}
use Rattle.tp_farm.specs.Gathering.{fault_of_end}
use Rattle.tp_farm.specs.MemberResults.{member_results}
use Rattle.tp_farm.proofs.gathering.take_hands.Given as goal

abbrev pub invariant-loop-one : goal.invariant-loop-one
invariant-loop-one g l =
    (goal.iterator-loop-one g).can_next l.one-iterator
    × (goal.iterator-loop-one g).is_finite l.one-iterator
    × (vec_len l.hands + into_iter_len l.one-iterator ≤ vec_capacity l.hands)
    × (vec_len l.kept + into_iter_len l.one-iterator ≤ vec_capacity l.kept)
    × (l.hands.items ++ map (λ r. r.hand) (into_iter_items l.one-iterator) ≡ l.initial.hands.items
    ++ map (λ r. r.hand) l.fn.returned.items)
    × (l.kept.items ++ map member_results (into_iter_items l.one-iterator) ≡ l.initial.kept.items
    ++ map member_results l.fn.returned.items)
    × (All (λ r. fault_of_end r.end ≡ None) (into_iter_items l.one-iterator)
    → All (λ r. fault_of_end r.end ≡ None) l.fn.returned.items)
