use Rattle.std.proofs.Common.{◌≡◌, ◌≤◌, ℕ, length}
use Rattle.tp_check.specs.Tables.{table_of}
use Rattle.tp_check.specs.Joining.{is_kept_at}
use Rattle.tp_check.proofs.Keeping.{AreSome}
use Rattle.tp_check.proofs.table.Table.of.Given as goal

abbrev pub invariant-loop-at : goal.invariant-loop-at
invariant-loop-at l = record {
  inside : l.at ≤ length l.initial.states.items;
  sized : length l.states.items ≡ length l.initial.states.items;
  rest : (x : ℕ) → l.at ≤ x → table_of l.states.items x ≡ table_of l.initial.states.items x;
  kept : AreSome (is_kept_at l.predecessors) (table_of l.initial.states.items) l.at l.kept.items;
}
