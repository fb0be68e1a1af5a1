-- What becomes of a machine whose state fits what is known before an instruction that is not refused.
use Rattle.std.specs.Prelude.{◌≡◌, ℕ, ◌+◌, ◌-◌, ◌==◌, ◌⊎◌, nat_lt, true, ◌&&◌, if◌then◌else◌, List, All, Contains}
use Rattle.std.specs.Prelude.{IsTrue, IsOk, length, Some, Ok, unwrap_or}
use Rattle.tp_decode.specs.Cutting.{Cut}
use Rattle.tp_decode.specs.declared.instr.Instr.{Instr}
use Rattle.tp_decode.specs.declared.instr.Instr.TheVariants.{Lend, Stopp}
use Rattle.tp_image.specs.declared.image.LoopRow.{LoopRow}
use Rattle.tp_image.specs.Image.{ImageValue}
use Rattle.tp_flow.specs.declared.edge.Edge.{Edge}
use Rattle.tp_flow.specs.declared.edge.Edge.TheVariants.{Back, Out}
use Rattle.tp_flow.specs.NestRanges.{range_of, ranges, contains}
use Rattle.tp_flow.specs.Edges.{is_edge, target}
use Rattle.tp_step.specs.Memory.{Memory, word_at}
use Rattle.tp_step.specs.State.{State as Machine}
use Rattle.tp_step.specs.Steps.{steps}
use Rattle.tp_step.specs.Runs.{has_ended}
use Rattle.tp_state.specs.declared.state.State.{State}
use Rattle.tp_state.specs.After.{after, asked}
use Rattle.tp_state.specs.Fits.{Fits, word_address}

-- nothing is refused on the edges on which an instruction's rule is asked
abbrev pub IsAccepted : ImageValue → (at next : ℕ) → Instr → State → Type 0
IsAccepted image at next instr t = All (λ edge. IsOk (after image at next instr edge t)) (asked instr)

-- ---- the turns of loops

-- the turns that a loop still has to make, the present one counted: the second word of its block
abbrev pub turns_in : Memory → LoopRow → ℕ
turns_in m row = unwrap_or (word_at m (word_address (row.control + 1))) 0

-- the turns of a loop around the target of an edge: a loop that is entered has all its turns, and a way back takes one
abbrev pub turns_after : ℕ → Edge → LoopRow → ℕ → ℕ
turns_after at edge row turns =
    if contains (range_of row) at
    then (if is_edge edge Back && (row.lend == at) then turns - 1 else turns)
    else row.count

-- the turns of the loops around an edge's target, from those before it
abbrev pub AreTurnsAfter : List LoopRow → (at : ℕ) → Edge → (to : ℕ) → Memory → Memory → Type 0
AreTurnsAfter rows at edge to m later =
    (row : LoopRow) → Contains rows row → IsTrue (contains (range_of row) to)
    → turns_in later row ≡ turns_after at edge row (turns_in m row)

-- the loop that ends at an address goes back where it has more turns to make, and else it is left
abbrev pub FollowsTurns : List LoopRow → (at : ℕ) → Memory → Edge → Type 0
FollowsTurns rows at m edge =
    (row : LoopRow) → Contains rows row → row.lend ≡ at → edge ≡ (if nat_lt 1 (turns_in m row) then Back else Out)

-- ---- where it goes

-- an edge of the instruction leads to where the machine stands, and its state fits what is known there
pub record GoesAlong (image : ImageValue) (at next : ℕ) (instr : Instr) (t : State) (s end : Machine) : Type 0 where
  pub edge : Edge
  pub to : ℕ
  pub leads : target (ranges image.loops) at next instr edge ≡ Some to
  pub outcome : State
  pub known : after image at next instr edge t ≡ Ok outcome
  pub fits : Fits image to outcome end
  pub turns : AreTurnsAfter image.loops at edge to s.memory end.memory
  pub follows : instr ≡ Lend → FollowsTurns image.loops at s.memory edge

-- by stopp the worker has stopped after its result
abbrev pub HasStopped : Instr → Machine → Type 0
HasStopped instr end = (instr ≡ Stopp) × (has_ended end ≡ true)

-- the machine runs through the instruction's bytes, and then it has stopped or stands at the target of an edge
pub record GoesOn (image : ImageValue) (at : ℕ) (cut : Cut) (t : State) (s : Machine) : Type 0 where
  pub end : Machine
  pub runs : steps image (length cut.bytes) s ≡ Some end
  pub goes : HasStopped cut.instr end ⊎ GoesAlong image at (at + length cut.bytes) cut.instr t s end
