-- Codes without loops.
use Rattle.std.proofs.Common.{◌≡◌, ℕ, List, [], ◌∷◌, slice_get, Option, Some, None, refl}
use Rattle.std.specs.Option.{option_and_then}
use Rattle.tp_flow.specs.declared.range.LoopRange.{LoopRange}
use Rattle.tp_flow.specs.LoopsAround.{entered_by}

pub none_entered : (nest : List LoopRange) (at : ℕ) (to : Option ℕ) → slice_get nest 0 ≡ None → option_and_then (entered_by nest at) to ≡ None
none_entered [] at None none = refl
none_entered [] at (Some to) none = refl
none_entered (range ∷ nest) at to none = absurd cc
