-- The loops that contain an address.
use Rattle.std.specs.Prelude.{ℕ, List, [], ◌∷◌, if◌then◌else◌, IsTrue}
use Rattle.std.specs.List.{AllByRecursion}
use Rattle.tp_flow.specs.declared.range.LoopRange.{LoopRange}
use Rattle.tp_flow.specs.NestRanges.{contains, lies_within}

-- loops that are listed from the outermost, with one more at its place
abbrev pub with_loop : LoopRange → List LoopRange → List LoopRange
with_loop range [] = range ∷ []
with_loop range (other ∷ others) =
    if lies_within other range then range ∷ other ∷ others else other ∷ with_loop range others

-- the loops that contain an address, outermost first
abbrev pub loops_around : List LoopRange → ℕ → List LoopRange
loops_around [] at = []
loops_around (range ∷ nest) at =
    if contains range at then with_loop range (loops_around nest at) else loops_around nest at

-- each lies within all before it
abbrev pub IsOutermostFirst : List LoopRange → Type 0
IsOutermostFirst [] = Unit {0}
IsOutermostFirst (range ∷ others) =
    AllByRecursion (λ other. IsTrue (lies_within other range)) others × IsOutermostFirst others
