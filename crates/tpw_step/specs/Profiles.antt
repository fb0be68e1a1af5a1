-- Where the steps of runs go, by the address of the instruction.
use Rattle.std.specs.Prelude.{◌≡◌, ℕ, ◌+◌, List, [], ◌∷◌}
use Rattle.std.specs.List.{sum_by}
use Rattle.tpw_step.specs.declared.profile.Profile.{Profile}

-- the counts of the addresses add up to the steps made
abbrev pub AddsUp : Profile → Type 0
AddsUp profile = sum_by (λ (count : ℕ). count) profile.counts.items ≡ profile.steps

-- the sums of numbers at the same places
abbrev pub sums : List ℕ → List ℕ → List ℕ
sums (x ∷ xs) (y ∷ ys) = (x + y) ∷ sums xs ys
sums xs ys = []
