-- The farm core: its state, and what each event of a member makes of it.
use Rattle.std.specs.Prelude.{ℕ, ◌+◌, ltb, Bool, true, false, List, [], ◌∷◌, ◌++◌, length, Option, Some, None, IsSome}
use Rattle.std.specs.Prelude.{slice_index_or, slice_set, replicate, if◌then◌else◌}
use Rattle.tp_board.specs.declared.event.Shown.{Shown}
use Rattle.tp_board.specs.declared.event.Shown.TheVariants as shown
use Rattle.tp_board.specs.declared.event.Event.{Event}
use Rattle.tp_board.specs.declared.event.Event.TheVariants.{Claim, Finish, Abandon, Stop, Look}
use Rattle.tp_board.specs.declared.event.Reply.{Reply}
use Rattle.tp_board.specs.declared.event.Reply.TheVariants.{Number, NoMore, Busy, Empty, Made, Value}

-- of the numbers below `packets` those below `drawn` were drawn; `hands` has what each member has
-- in hand; `done` and `lost` have the numbers done and lost, oldest first; `stop` is the stop mark
pub record CoreState : Type 0 where
  pub packets : ℕ
  pub drawn : ℕ
  pub hands : List (Option ℕ)
  pub done : List ℕ
  pub lost : List ℕ
  pub stop : Bool

abbrev pub core_state : ℕ → ℕ → List (Option ℕ) → List ℕ → List ℕ → Bool → CoreState
core_state packets drawn hands done lost stop =
    record { packets = packets; drawn = drawn; hands = hands; done = done; lost = lost; stop = stop }

-- nothing is drawn, done or lost, no hand has anything, and the mark is clear
abbrev pub opening_core : ℕ → ℕ → CoreState
opening_core packets members = core_state packets 0 (replicate members None) [] [] false

-- what the member has in hand
abbrev pub hand_of : CoreState → ℕ → Option ℕ
hand_of s member = slice_index_or s.hands member None

-- the hands, with this in the member's
abbrev pub hands_with : CoreState → ℕ → Option ℕ → List (Option ℕ)
hands_with s member hand = slice_set s.hands member hand

abbrev pub value_shown : CoreState → Shown → ℕ
value_shown s shown.Claimed = s.drawn
value_shown s shown.Done = length s.done
value_shown s shown.Lost = length s.lost
value_shown s shown.Stop = if s.stop then 1 else 0

-- a step: what is answered, and the core after it
abbrev pub Step : Type 0
Step = Reply × CoreState

-- a claim of the member that has this in hand: the least number that was not yet drawn
abbrev pub claim_step : CoreState → ℕ → Option ℕ → Step
claim_step s member (Some n) = (Busy n, s)
claim_step s member None =
    if ltb s.drawn s.packets
    then (Number s.drawn, core_state s.packets (s.drawn + 1) (hands_with s member (Some s.drawn)) s.done s.lost s.stop)
    else (NoMore, s)

abbrev pub finish_step : CoreState → ℕ → Option ℕ → Step
finish_step s member None = (Empty, s)
finish_step s member (Some n) =
    (Number n, core_state s.packets s.drawn (hands_with s member None) (s.done ++ n ∷ []) s.lost s.stop)

abbrev pub abandon_step : CoreState → ℕ → Option ℕ → Step
abandon_step s member None = (Empty, s)
abandon_step s member (Some n) =
    (Number n, core_state s.packets s.drawn (hands_with s member None) s.done (s.lost ++ n ∷ []) s.stop)

-- one event of one member
abbrev pub step : CoreState → ℕ → Event → Step
step s member Claim = claim_step s member (hand_of s member)
step s member Finish = finish_step s member (hand_of s member)
step s member Abandon = abandon_step s member (hand_of s member)
step s member Stop = (Made, core_state s.packets s.drawn s.hands s.done s.lost true)
step s member (Look what) = (Value (value_shown s what), s)

-- the events that may take memory
abbrev pub TakesMemory : CoreState → ℕ → Event → Type 0
TakesMemory s member Finish = IsSome (hand_of s member)
TakesMemory s member Abandon = IsSome (hand_of s member)
TakesMemory s member e = ⊥
