use Rattle.std.proofs.Common.{List, ◌++◌}
use Rattle.tpw_occam_code.specs.declared.order.Move.{Move}
use Rattle.tpw_occam_code.specs.Ordering.{Settles}
use Rattle.tpw_occam_code.proofs.order.moves.Given as goal

abbrev pub invariant-loop : goal.invariant-loop
invariant-loop l = (rest : List Move) → Settles l.all l.waiting.items rest → Settles l.all l.initial.waiting.items (l.moves.items ++ rest)
