-- Every list of steps at a stream's queue and words, each by the feeder or by a member.
use Rattle.std.specs.Prelude.{◌≡◌, ℕ, ◌+◌, List, [], ◌∷◌, ◌++◌, map, replicate, slice_index_or, slice_set}
use Rattle.tp_board.specs.declared.event.Event.{Event}
use Rattle.tp_board.specs.declared.event.Event.TheVariants.{Claim}
use Rattle.tp_board.specs.declared.event.Reply.{Reply}
use Rattle.tp_stream.specs.declared.queue.Item.{Item}
use Rattle.tp_board.specs.CoreState.{CoreState, opening_core}
use Rattle.tp_board.specs.CoreOf.{core_of, IsSame}
use Rattle.tp_stream.specs.Queues.{MayPut, item_of, feeder, hand, nobody}
use Rattle.tp_board.specs.Openings.{InRange}
use Rattle.tp_board.specs.Runs.{core_after, replies, DrawsInOrder}
use Rattle.tp_stream.specs.Stages.{HandState, hand_seen, KeepsStream, pops, after_pop, after_push, pop_reply}
use Rattle.tp_stream.specs.Stages.{IsAtWords, tally_found, words_with, after_event}
use Rattle.tp_board.specs.Steps.{row_of, MayStep}
use Rattle.tp_board.specs.Views.{newcomer, spent_view}
use Rattle.tp_board.specs.Words.{size}

-- a step: a push of the next item, a pop of what is first in the queue, or an event at one of the
-- three words: an addition to `done` or `lost`, a stop, or a load. A try that finds the queue full or
-- empty changes nothing, and is none
pub data StreamStep : Type 0 where
  push : StreamStep
  pop : StreamStep
  at_words : Event → StreamStep

-- what the queue holds, the three words, and what each that steps here knows
pub record Stage : Type 0 where
  pub items : List Item
  pub words : List ℕ
  pub stands : List HandState

abbrev pub stage : List Item → List ℕ → List HandState → Stage
stage items words stands = record { items = items; words = words; stands = stands }

abbrev pub KeepsStage : ℕ → ℕ → Stage → Type 0
KeepsStage packets members g = KeepsStream packets members g.items g.words g.stands

-- the farm of the board that the stage stands for, of which the feeder has a seat
abbrev pub core_at : ℕ → ℕ → Stage → CoreState
core_at packets members g = core_of (size packets (members + 1)) (pops g.stands ∷ g.words) (map hand_seen g.stands)

-- one that is nobody's
abbrev pub no_hand_state : HandState
no_hand_state = record { turn = nobody; place = spent_view; numbers = [] }

abbrev pub hand_state_at : Stage → ℕ → HandState
hand_state_at g id = slice_index_or g.stands id no_hand_state

abbrev pub hand_states_with : Stage → ℕ → HandState → List HandState
hand_states_with g id s = slice_set g.stands id s

-- ---- one step
-- something is in the queue, and this one may draw
abbrev pub MayPop : List Item → HandState → Type 0
MayPop [] s = ⊥
MayPop (x ∷ items) s = MayStep Claim (hand_seen s)

-- the step is made by one that has a stand, which may make it
abbrev pub MayMake : Stage → ℕ × StreamStep → Type 0
MayMake g (id, push) = ((hand_state_at g id).turn.parts ≡ 1) × MayPut (hand_state_at g id).turn
MayMake g (id, pop) = ((hand_state_at g id).turn.parts ≡ 1) × MayPop g.items (hand_state_at g id)
MayMake g (id, at_words event) =
    ((hand_state_at g id).turn.parts ≡ 1) × IsAtWords event × MayStep event (hand_seen (hand_state_at g id))

abbrev pub stage_after_pop : Stage → ℕ → List Item → Stage
stage_after_pop g id [] = g
stage_after_pop g id (x ∷ items) = stage items g.words (hand_states_with g id (after_pop (hand_state_at g id) x))

abbrev pub stage_after : Stage → ℕ × StreamStep → Stage
stage_after g (id, push) =
    let x = item_of (hand_state_at g id).turn in
    stage (g.items ++ x ∷ []) g.words (hand_states_with g id (after_push (hand_state_at g id) x))
stage_after g (id, pop) = stage_after_pop g id g.items
stage_after g (id, at_words event) =
    stage g.items (words_with event g.words)
    (hand_states_with g id (after_event (hand_state_at g id) event (tally_found event g.words)))

-- the event of the core that it is; a push is none
abbrev pub event_of : ℕ × StreamStep → List (ℕ × Event)
event_of (id, push) = []
event_of (id, pop) = (id, Claim) ∷ []
event_of (id, at_words event) = (id, event) ∷ []

abbrev pub pop_replies : List Item → List Reply
pop_replies [] = []
pop_replies (x ∷ items) = pop_reply x ∷ []

-- the reply on which the call's answer rests
abbrev pub reply_to : Stage → ℕ × StreamStep → List Reply
reply_to g (id, push) = []
reply_to g (id, pop) = pop_replies g.items
reply_to g (id, at_words event) = (row_of event).reply (hand_seen (hand_state_at g id)) (tally_found event g.words) ∷ []

-- ---- many steps
-- each may be made when its turn comes
abbrev pub IsStreamSchedule : Stage → List (ℕ × StreamStep) → Type 0
IsStreamSchedule g [] = Unit {0}
IsStreamSchedule g (e ∷ es) = MayMake g e × IsStreamSchedule (stage_after g e) es

abbrev pub stage_at_end : Stage → List (ℕ × StreamStep) → Stage
stage_at_end g [] = g
stage_at_end g (e ∷ es) = stage_at_end (stage_after g e) es

abbrev pub events_of : List (ℕ × StreamStep) → List (ℕ × Event)
events_of [] = []
events_of (e ∷ es) = event_of e ++ events_of es

abbrev pub stream_replies : Stage → List (ℕ × StreamStep) → List Reply
stream_replies g [] = []
stream_replies g (e ∷ es) = reply_to g e ++ stream_replies (stage_after g e) es

-- the steps keep both rules; the farm of the board that they leave is what their events make of the
-- farm before, with their replies; and the numbers popped are those from the count drawn before on,
-- in order
pub record IsStreamRun (packets members : ℕ) (g : Stage) (steps : List (ℕ × StreamStep)) (h : Stage) : Type 0 where
  pub rule : KeepsStage packets members h
  pub core_state : IsSame (core_at packets members h) (core_after (core_at packets members g) (events_of steps))
  pub answered : stream_replies g steps ≡ replies (core_at packets members g) (events_of steps)
  pub in_order : DrawsInOrder (core_at packets members g) (events_of steps) (stream_replies g steps)
      (core_at packets members h)

-- whatever queue and words their rules allow, every list of steps is a run of the core
abbrev pub StreamScheduleLaw : Type 0
StreamScheduleLaw =
    (packets members : ℕ) (g : Stage) (steps : List (ℕ × StreamStep))
    → KeepsStage packets members g
    → IsStreamSchedule g steps
    → IsStreamRun packets members g steps (stage_at_end g steps)

-- ---- the start
-- the feeder, and then the members
abbrev pub opening_hand_states : ℕ → ℕ → List HandState
opening_hand_states packets members =
    record { turn = feeder packets members 1; place = newcomer packets 1; numbers = [] }
    ∷ replicate members (record { turn = hand packets members; place = newcomer packets 1; numbers = [] })

-- the queue is empty, and the words are 0
abbrev pub opening_stage : ℕ → ℕ → Stage
opening_stage packets members = stage [] (0 ∷ 0 ∷ 0 ∷ []) (opening_hand_states packets members)

-- a new stream keeps both rules, and stands for the opening farm
abbrev pub StreamOpeningLaw : Type 0
StreamOpeningLaw =
    (packets members : ℕ)
    → InRange packets members
    → KeepsStage packets members (opening_stage packets members)
    × (core_at packets members (opening_stage packets members) ≡ opening_core packets (members + 1))
