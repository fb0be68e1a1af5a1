-- How often an instruction was made.
use Rattle.std.proofs.Common.{ℕ, ◌≤◌, ◌/◌}
use Rattle.std.proofs.Math.Nat.{div-le_self}

-- a part of a number is no more
pub part_of : (n k : ℕ) → n / k ≤ n
part_of n k = div-le_self n k
