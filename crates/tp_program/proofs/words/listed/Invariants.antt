use Rattle.std.proofs.Common.{◌≡◌, ◌++◌}
use Rattle.std.specs.Vec.Iter.{into_iter_items}
use Rattle.tp_program.proofs.words.listed.Given as goal

-- the words listed, and those that are left, are those that were given
abbrev pub invariant-loop-word : goal.invariant-loop-word
invariant-loop-word l =
    goal.iterator-loop-word.can_next l.word-iterator × goal.iterator-loop-word.is_finite l.word-iterator
    × (l.all.items ++ into_iter_items l.word-iterator ≡ into_iter_items l.fn.words)
