use Rattle.std.proofs.Common.{◌≡◌, take, None}
use Rattle.std.specs.List.{find, enumerate_from}
use Rattle.tp_flow.specs.RowRules.{is_bad_row}
use Rattle.tp_flow.proofs.rows.bad_row.Given as goal

abbrev pub invariant-loop-i : goal.invariant-loop-i
invariant-loop-i l = find (λ row. is_bad_row l.image l.listing row.0 row.1) (take l.i (enumerate_from 0 l.image.loops)) ≡ None
