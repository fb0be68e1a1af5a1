-- What the states of a table are.
use Rattle.std.specs.Prelude.{◌≡◌, ℕ, List, slice_get, Some}
use Rattle.tp_flow.specs.NestRanges.{ranges}
use Rattle.tp_flow.specs.LoopsAround.{is_around}
use Rattle.tp_image.specs.Image.{ImageValue}
use Rattle.tp_state.specs.declared.state.State.{State}
use Rattle.tp_state.specs.Sound.{IsSound}
use Rattle.tp_state.specs.Live.{LiveWordsAre}

-- A state before an instruction is sound: it is one of the image's worker, and the ranges of its registers are in
-- order. Its live control words are those of the loops around the instruction.
pub record IsStateAt (image : ImageValue) (at : ℕ) (s : State) : Type 0 where
  pub sound : IsSound image s
  pub live : LiveWordsAre image.loops (is_around (ranges image.loops) at) s.cells

-- so are states, each with its address
abbrev pub AreStatesThere : ImageValue → List (ℕ × State) → Type 0
AreStatesThere image states = (i : ℕ) (a : ℕ × State) → slice_get states i ≡ Some a → IsStateAt image a.0 a.1
