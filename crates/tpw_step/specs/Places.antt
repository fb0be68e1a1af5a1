-- Places in a run.
use Rattle.std.specs.Prelude.{ℕ, ℤ, pos, Bool, nat_le}
use Rattle.std.specs.Ordering.{int_eq}
use Rattle.tpw_step.specs.declared.span.Place.{Place}
use Rattle.tpw_step.specs.declared.span.Place.TheVariants.{Address, Count}

-- a run that has made a number of steps and is at an address is at a place: at that address, or as many steps are made,
-- or more
abbrev pub is_at : Place → ℤ → ℕ → Bool
is_at (Address address) at count = int_eq (pos address) at
is_at (Count steps) at count = nat_le steps count
