-- Joins of what is known of words, as that is kept in planes.
use Rattle.std.specs.Prelude.{ℕ, ◌*◌, List, length}
use Rattle.tp_state.specs.declared.planes.Bits.{Bits}
use Rattle.tp_state.specs.Order.{join_cells}
use Rattle.tp_state.specs.Planes.{cell_in, ChangesPlanes}

-- each word takes what holds of it and of the other's of its number
abbrev pub TakesJoins : (values other_values : List ℕ) → (old others new : List Bits) → Type 0
TakesJoins values other_values old others new =
    ChangesPlanes values old new (λ i c. join_cells c (cell_in other_values others i)) 0 (64 * length old)
