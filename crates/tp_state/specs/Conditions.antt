-- What is asked of a state before a rule is applied to it.
use Rattle.std.specs.Prelude.{◌≡◌, ◌<◌, ◌≤◌, length, All}
use Rattle.tp_image.specs.Image.{ImageValue}
use Rattle.tp_flow.specs.NestKept.{IsGood}
use Rattle.tp_state.specs.declared.state.State.{State}

-- the loops' numbers are good: their blocks lie in the workspace, and their indices are words
abbrev pub HasGoodLoops : ImageValue → Type 0
HasGoodLoops image = All (IsGood image.workspace) image.loops

-- a state of an image's worker: Wptr has five words below it, and each word of the workspace has its cell
pub record IsPlaced (image : ImageValue) (t : State) : Type 0 where
  pub roomy : 5 ≤ t.wptr
  pub inside : t.wptr < image.workspace
  pub sized : length t.cells ≡ image.workspace

-- Wptr and the number of words stay
pub record KeepsPlace (old new : State) : Type 0 where
  pub wptr : new.wptr ≡ old.wptr
  pub sized : length new.cells ≡ length old.cells
