use Rattle.std.proofs.Common.{◌≡◌, ◌+◌, ◌≤◌, ◌^◌, length, false, Ok}
use Rattle.tp_check.specs.Tables.{table_of, HasPlacedStates}
use Rattle.tp_check.specs.Passes.{pass}
use Rattle.tp_check.specs.Arrivals.{HasPlaces}
use Rattle.tpw_why.proofs.Passing.{IsBefore, left_of}
use Rattle.tpw_why.proofs.passes.first_refusal.Given as goal

abbrev pub invariant-loop-is_changed : goal.invariant-loop-is_changed
invariant-loop-is_changed l = record {
  inside : HasPlaces l.listing (length l.table.items);
  placed : HasPlacedStates l.image (table_of l.table.items);
  few : l.passes + left_of l.image l.is_changed l.table.items ≤ 2 ^ 100;
  before : IsBefore l.image l.listing l.passes (table_of l.table.items);
  stays : l.is_changed ≡ false → pass l.image l.listing (table_of l.table.items) ≡ Ok (table_of l.table.items);
}

abbrev pub decreases-loop-is_changed : goal.decreases-loop-is_changed
decreases-loop-is_changed l = left_of l.image l.is_changed l.table.items
