-- The edges of instructions and what instructions do.
use Rattle.std.specs.Prelude.{◌≡◌, ℕ, pos, ◌-ℤ◌, List, Some}
use Rattle.std.specs.Option.{option_map}
use Rattle.tp_words.specs.Words.{signed}
use Rattle.tp_decode.specs.declared.instr.Instr.{Instr}
use Rattle.tp_decode.specs.declared.instr.Instr.TheVariants.{Lend}
use Rattle.tp_flow.specs.declared.edge.Edge.{Edge}
use Rattle.tp_flow.specs.declared.edge.Edge.TheVariants.{Back}
use Rattle.tp_flow.specs.declared.range.LoopRange.{LoopRange}
use Rattle.tp_flow.specs.Edges.{target}
use Rattle.tp_step.specs.State.{State}

-- at a lend, Areg is the distance from the next address back to the head of the loop that ends here; at any other
-- instruction it may be anything
abbrev pub KnowsItsHead : List LoopRange → ℕ → ℕ → Instr → State → Type 0
KnowsItsHead nest at next Lend s =
    option_map signed s.areg ≡ option_map (λ head. pos next -ℤ pos head) (target nest at next Lend Back)
KnowsItsHead nest at next instr s = Unit {0}

-- Iptr is the target of one of the edges of the instruction at an address, where next follows it
pub record IsAlongAnEdge (nest : List LoopRange) (at next : ℕ) (instr : Instr) (s : State) : Type 0 where
  pub edge : Edge
  pub to : ℕ
  pub goes : target nest at next instr edge ≡ Some to
  pub stands : s.iptr ≡ pos to
