-- What is asked of addresses that one edge alone reaches, and of the states that may stand at an address.
use Rattle.std.specs.Prelude.{◌≡◌, ◌≢◌, ℕ, Bool, false, List, [], ◌∷◌, Some, Ok}
use Rattle.tp_decode.specs.declared.placed.Placed.{Placed}
use Rattle.tp_flow.specs.declared.edge.Edge.{Edge}
use Rattle.tp_image.specs.Image.{ImageValue}
use Rattle.tp_state.specs.declared.state.State.{State}
use Rattle.tp_state.specs.Sound.{IsSound}
use Rattle.tp_state.specs.Order.{MayMeet, join}
use Rattle.tp_check.specs.Carried.{target_of, outcome_of}
pub use Rattle.tp_check.specs.Carried.{IsAmong, IsLone}
pub use Rattle.tp_check.specs.StatesThere.{IsStateAt}

-- What is asked of the states that may stand at an address: those of one address may meet where Wptr and the phase are
-- the same, and they are kept along edges and by joins.
pub record AreStates (image : ImageValue) (IsEdge : Placed × Edge → Type 0) (MayOccur : ℕ → State → Type 0) : Type 0 where
  pub sound : (at : ℕ) (s : State) → MayOccur at s → IsSound image s
  pub meet : (at : ℕ) (s t : State) → MayOccur at s → MayOccur at t → s.wptr ≡ t.wptr → s.phase ≡ t.phase → MayMeet s t
  pub join : (at : ℕ) (s t : State) → MayOccur at s → MayOccur at t → s.wptr ≡ t.wptr → s.phase ≡ t.phase → MayOccur at (join s t)
  pub after : (e : Placed × Edge) (s t : State) (to : ℕ) → IsEdge e → MayOccur e.0.at s → target_of image e ≡ Some to → outcome_of image e s ≡ Ok t → MayOccur to t

-- no edge leads back, or to its own instruction, but to where edges join
abbrev pub LeadsOn : ImageValue → (ℕ → Bool) → List (Placed × Edge) → Type 0
LeadsOn image is_join [] = Unit {0}
LeadsOn image is_join (f ∷ more) =
    ((e : Placed × Edge) → IsAmong (f ∷ more) e → is_join f.0.at ≡ false → target_of image e ≢ Some f.0.at) × LeadsOn image is_join more
