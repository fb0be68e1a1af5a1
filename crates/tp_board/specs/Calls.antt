-- What each call of a board is: its events of the farm core with their replies, and its answer. Of a
-- seat's view before, the answer, and the seat's view after.
use Rattle.std.specs.Prelude.{◌≡◌, ℕ, ◌<◌, ◌≤◌, ◌⊎◌, List, [], ◌∷◌}
use Rattle.tp_board.specs.declared.event.Event.{Event}
use Rattle.tp_board.specs.declared.event.Event.TheVariants as event
use Rattle.tp_board.specs.declared.event.Shown.{Shown}
use Rattle.tp_board.specs.declared.event.Shown.TheVariants as shown
use Rattle.tp_board.specs.declared.event.Reply.{Reply}
use Rattle.tp_board.specs.declared.event.Reply.TheVariants as reply
use Rattle.tp_board.specs.declared.view.View.{View}
use Rattle.tp_board.specs.declared.answer.BoardFault.{BoardFault}
use Rattle.tp_board.specs.declared.answer.BoardFault.TheVariants.{EmptyHand}
use Rattle.tp_board.specs.declared.answer.Claim.{Claim}
use Rattle.tp_board.specs.declared.answer.Claim.TheVariants as claim
use Rattle.tp_board.specs.Freshness.{IsFresh}
use Rattle.tp_board.specs.Steps.{row_of, MayStep}
use Rattle.tp_board.specs.Boards.{SeatView}

-- a step as a call made it: its event, what its word was, and the event's reply
pub record MadeStep : Type 0 where
  pub event : Event
  pub found : ℕ
  pub reply : Reply

abbrev pub made : Event → ℕ → Reply → MadeStep
made event found reply = record { event = event; found = found; reply = reply }

-- the seat makes these steps, one after another, and no others: each is one that it may make, finds
-- its word fresh, and has the reply and the effect on the view that its row says
abbrev pub Makes : View → List MadeStep → View → Type 0
Makes v [] w = w ≡ v
Makes v (s ∷ ss) w =
    MayStep s.event v
    × IsFresh v (row_of s.event).word s.found
    × ((row_of s.event).reply v s.found ≡ s.reply)
    × Makes ((row_of s.event).view v s.found) ss w

-- ---- a claim
-- a load of `stop`, which was 0
abbrev pub sees_no_stop : MadeStep
sees_no_stop = made (event.Look shown.Stop) 0 (reply.Value 0)

-- a load of `stop`, which was 1
abbrev pub sees_stop : MadeStep
sees_stop = made (event.Look shown.Stop) 1 (reply.Value 1)

-- Busy, and NoMore and Stopped where the seat knows it already, come without a step
abbrev pub ClaimSays : View → Claim → View → Type 0
ClaimSays v (claim.Busy n) w = (v.hand ≡ n ∷ []) × Makes v [] w
ClaimSays v (claim.Packet n) w =
    (v.hand ≡ [])
    × (v.ended ≡ 0)
    × (n < v.packets)
    × Makes v (sees_no_stop ∷ made event.Claim n (reply.Number n) ∷ []) w
ClaimSays v claim.NoMore w =
    (v.hand ≡ [])
    × (((v.ended ≡ 1) × Makes v [] w)
    ⊎ ((v.ended ≡ 0) × ((n : ℕ) × (v.packets ≤ n) × Makes v (sees_no_stop ∷ made event.Claim n reply.NoMore ∷ []) w)))
ClaimSays v claim.Stopped w =
    (v.hand ≡ [])
    × (v.ended ≡ 0)
    × (((v.seen.stop ≡ 1) × Makes v [] w) ⊎ ((v.seen.stop ≡ 0) × Makes v (sees_stop ∷ []) w))

-- ---- the calls of one step
-- the number n was in hand, and is finished
abbrev pub FinishSays : View → ℕ → View → Type 0
FinishSays v n w = (v.hand ≡ n ∷ []) × ((found : ℕ) × Makes v (made event.Finish found (reply.Number n) ∷ []) w)

-- the number n was in hand, and is abandoned
abbrev pub AbandonSays : View → ℕ → View → Type 0
AbandonSays v n w = (v.hand ≡ n ∷ []) × ((found : ℕ) × Makes v (made event.Abandon found (reply.Number n) ∷ []) w)

-- nothing was in hand, and no step was made
abbrev pub IsEmptyHanded : SeatView → BoardFault → SeatView → Type 0
IsEmptyHanded s fault t = (fault ≡ EmptyHand) × (s.view.hand ≡ []) × (t ≡ s)

abbrev pub StopSays : View → View → Type 0
StopSays v w = (found : ℕ) × Makes v (made event.Stop found reply.Made ∷ []) w

-- the answer is the reply's value
abbrev pub LookSays : View → Shown → ℕ → View → Type 0
LookSays v what r w = (found : ℕ) × Makes v (made (event.Look what) found (reply.Value r) ∷ []) w
