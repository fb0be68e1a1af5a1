-- How control flows in code: jumps go forward, and loops are a nest to which they keep.
use Rattle.std.specs.Prelude.{◌≡◌, ℕ, ◌+◌, ◌<◌, ◌≤◌, ◌⊎◌, Bool, true, false, ◌&&◌, List, [], ◌∷◌}
use Rattle.std.specs.Prelude.{slice_get, Some, IsTrue, All, count_by, nat_le, nat_lt}
use Rattle.tp_decode.specs.declared.instr.Instr.{Instr}
use Rattle.tp_decode.specs.declared.instr.Instr.TheVariants.{Jump, Cj, Lend, Stopp}
use Rattle.tpw_occam_symbolic.specs.declared.code.Step.{Step}
use Rattle.tpw_occam_symbolic.specs.declared.code.Step.TheVariants.{Plain, JumpTo, CjTo}
use Rattle.tpw_occam_symbolic.specs.declared.code.CodeLine.{CodeLine}
use Rattle.tpw_occam_symbolic.specs.declared.code.Turns.{Turns}
use Rattle.tpw_occam_symbolic.specs.Code.{Lines, place_behind, followed_by, line_of}

-- neither a jump nor the end of a turn
abbrev pub is_straight_instr : Instr → Bool
is_straight_instr (Jump n) = false
is_straight_instr (Cj n) = false
is_straight_instr Lend = false
is_straight_instr instr = true

abbrev pub is_straight : Step → Bool
is_straight (Plain instr) = is_straight_instr instr
is_straight (JumpTo to) = false
is_straight (CjTo to) = false
is_straight step = true

-- A jump from one place to another keeps to a loop: from within it does not go beyond the lend, and from before it
-- does not go behind the head.
pub record KeepsTo (turns : Turns) (from to : ℕ) : Type 0 where
  pub stays : turns.head ≤ from → from ≤ turns.lend → to ≤ turns.lend
  pub enters : from < turns.head → (to ≤ turns.head) ⊎ (turns.lend < to)

-- a jump goes forward, at most to the place behind the code, and keeps to each loop
pub record IsJump (code : Lines) (from to : ℕ) : Type 0 where
  pub forward : from < to
  pub within : to ≤ place_behind code
  pub keeps : (i : ℕ) (turns : Turns) → slice_get code.loops i ≡ Some turns → KeepsTo turns from to

-- a loop has its lend at a place
pub record EndsAt (code : Lines) (place : ℕ) : Type 0 where
  pub number : ℕ
  pub turns : Turns
  pub there : slice_get code.loops number ≡ Some turns
  pub ends : turns.lend ≡ place

abbrev pub GoesWell : Lines → ℕ → Step → Type 0
GoesWell code place (JumpTo to) = IsJump code place to
GoesWell code place (CjTo to) = IsJump code place to
GoesWell code place (Plain Lend) = EndsAt code place
GoesWell code place step = IsTrue (is_straight step)

-- a loop lies in code, and begins at a place or behind it
pub record LiesBehind (first : ℕ) (code : Lines) (turns : Turns) : Type 0 where
  pub later : first ≤ turns.head
  pub body : turns.head < turns.lend
  pub within : turns.lend < place_behind code
  pub lend : (line : CodeLine) (i : ℕ) → code.base + i ≡ turns.lend → slice_get code.lines i ≡ Some line
      → line.step ≡ Plain Lend

-- one loop lies before another, or within it
abbrev pub IsBeforeOrWithin : Turns → Turns → Type 0
IsBeforeOrWithin one other =
    (one.lend < other.head) ⊎ ((other.head < one.head) × (one.lend < other.lend))

-- Control flows in code: each step goes well, and loops, none of which begins before a place, are a nest.
pub record Flows (first : ℕ) (code : Lines) : Type 0 where
  pub steps : (i : ℕ) (line : CodeLine) → slice_get code.lines i ≡ Some line → GoesWell code (code.base + i) line.step
  pub loops : (i : ℕ) (turns : Turns) → slice_get code.loops i ≡ Some turns → LiesBehind first code turns
  pub nested : (i k : ℕ) (one other : Turns) → i < k → slice_get code.loops i ≡ Some one
      → slice_get code.loops k ≡ Some other → IsBeforeOrWithin one other

-- .. and no loop begins with the first line
abbrev pub FlowsOn : Lines → Type 0
FlowsOn code = Flows (code.base + 1) code

-- control flows in code whose last line stops
pub record Ends (code : Lines) : Type 0 where
  pub before : Lines
  pub source : ℕ
  pub flows : FlowsOn before
  pub is : code ≡ followed_by before (line_of source (Plain Stopp) ∷ [])

-- ---- how many loops

-- a loop lies within another
abbrev pub is_around : (inner outer : Turns) → Bool
is_around inner outer = nat_le outer.head inner.head && nat_lt inner.lend outer.lend

-- no loop lies within more than three others
abbrev pub AreFewAround : List Turns → Type 0
AreFewAround loops = All (λ inner. count_by (is_around inner) loops ≤ 3) loops
