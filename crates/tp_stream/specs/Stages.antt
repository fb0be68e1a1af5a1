-- A stream's queue and words together, and the board that they stand for.
use Rattle.std.specs.Prelude.{◌≡◌, ℕ, ◌+◌, ◌<◌, List, [], ◌∷◌, ◌++◌, length, map, slice_index, slice_set}
use mathlib.Core.Option.{some}
use lib.ListN.{get_elem?}
use Rattle.tp_board.specs.declared.event.Event.{Event}
use Rattle.tp_board.specs.declared.event.Event.TheVariants.{Claim, Finish, Abandon, Stop, Look}
use Rattle.tp_board.specs.declared.event.Shown.TheVariants.{Claimed}
use Rattle.tp_board.specs.declared.event.Reply.{Reply}
use Rattle.tp_board.specs.declared.event.Reply.TheVariants as reply
use Rattle.tp_stream.specs.declared.queue.Item.{Item}
use Rattle.tp_stream.specs.declared.queue.Item.TheVariants.{Number, End}
use Rattle.tp_stream.specs.declared.queue.PassView.{PassView}
use Rattle.tp_board.specs.declared.view.View.{View}
use Rattle.tp_board.specs.Counting.{AreBelow}
use Rattle.tp_stream.specs.Tallies.{KeepsTally, with_numbers, tally_place_of}
use Rattle.tp_board.specs.Freshness.{IsFresh}
use Rattle.tp_board.specs.Laws.{IsEvent}
use Rattle.tp_stream.specs.Queues.{Streamed, MayPut, item_of, put, after_take}
use Rattle.tp_board.specs.Openings.{InRange}
use Rattle.tp_board.specs.Rule.{total, KeepsRule}
use Rattle.tp_board.specs.Steps.{row_of, MayStep}
use Rattle.tp_stream.specs.Streams.{seen_of, Agrees}
use Rattle.tp_board.specs.Views.{all_drawn}
use Rattle.tp_board.specs.Words.{size, place_of}

-- what one member, or the feeder, knows of queue and words, with the numbers in hand
pub record HandState : Type 0 where
  pub turn : PassView
  pub place : View
  pub numbers : List ℕ

abbrev pub hand_seen : HandState → View
hand_seen s = seen_of s.turn s.place s.numbers

pub record IsHandState (packets : ℕ) (s : HandState) : Type 0 where
  pub packets_is : s.turn.packets ≡ packets
  pub one_pass : s.turn.parts ≡ 1
  pub one_seat : s.place.parts ≡ 1
  pub agrees : Agrees (hand_seen s)

-- the queue and the words keep their rules, and each stand joins the two
pub record KeepsStream (packets members : ℕ) (items : List Item) (words : List ℕ)
    (stands : List HandState) : Type 0 where
  pub in_range : InRange packets members
  pub queue : Streamed items (map (λ s. s.turn) stands)
  pub tally : KeepsTally (size packets (members + 1)) words (map (λ s. s.place) stands)
  pub each : (id : ℕ) (s : HandState) → get_elem? stands id ≡ some s → IsHandState packets s

-- how many pops there were
abbrev pub pops : List HandState → ℕ
pops stands = total (λ s. length s.turn.popped + s.turn.ended) stands

-- queue and words stand for a board, of which the feeder has a seat: its count of claims is the count
-- of pops, of packets and of marks
abbrev pub StreamIsBoardLaw : Type 0
StreamIsBoardLaw =
    (packets members : ℕ) (items : List Item) (words : List ℕ) (stands : List HandState)
    → KeepsStream packets members items words stands
    → KeepsRule (size packets (members + 1)) (pops stands ∷ words) (map hand_seen stands)

-- the number that an item is, if it is one
abbrev pub numbers_in : Item → List ℕ
numbers_in (Number n) = n ∷ []
numbers_in End = []

-- those that the queue holds, in order
abbrev pub numbers_held : List Item → List ℕ
numbers_held [] = []
numbers_held (x ∷ items) = numbers_in x ++ numbers_held items

-- how many numbers were pushed
abbrev pub pushes : List HandState → ℕ
pushes stands = total (λ s. s.turn.pushed) stands

-- at each moment the numbers that were popped and those that the queue holds are the numbers below `pushed`, each once
abbrev pub QueueLaw : Type 0
QueueLaw =
    (packets members : ℕ) (items : List Item) (words : List ℕ) (stands : List HandState)
    → KeepsStream packets members items words stands
    → AreBelow (all_drawn (map hand_seen stands) ++ numbers_held items) (pushes stands)

-- ---- steps
-- what each step makes of the one that takes it

abbrev pub after_pop : HandState → Item → HandState
after_pop s x = record s { turn = after_take s.turn x; numbers = s.numbers ++ numbers_in x }

abbrev pub after_push : HandState → Item → HandState
after_push s x = record s { turn = put s.turn x }

-- the stream that a step leaves keeps its rules, and the board that it stands for is what this event
-- makes of the board before, with this reply
pub record IsStreamEvent (packets members : ℕ) (words : List ℕ) (stands : List HandState)
    (items' : List Item) (words' : List ℕ) (stands' : List HandState) (id : ℕ) (event : Event)
    (reply : Reply) : Type 0 where
  pub rule : KeepsStream packets members items' words' stands'
  pub made : IsEvent (size packets (members + 1)) (pops stands ∷ words) (map hand_seen stands)
      (pops stands' ∷ words') (map hand_seen stands') id event reply

-- a pop of a packet is Claim answered with its number, and a pop of an end mark Claim answered NoMore,
-- by one who has nothing in hand and has not learnt the end, and who finds the count of pops fresh
abbrev pub pop_reply : Item → Reply
pop_reply (Number n) = reply.Number n
pop_reply End = reply.NoMore

abbrev pub PopLaw : Type 0
PopLaw =
    (packets members : ℕ) (x : Item) (items : List Item) (words : List ℕ) (stands : List HandState) (id : ℕ)
    (s : HandState)
    → KeepsStream packets members (x ∷ items) words stands
    → get_elem? stands id ≡ some s
    → MayStep Claim (hand_seen s)
    → IsFresh (hand_seen s) Claimed (pops stands)
    × IsStreamEvent packets members words stands items words (slice_set stands id (after_pop s x)) id Claim
    (pop_reply x)

-- a push of the next item leaves the board as it was
abbrev pub PushLaw : Type 0
PushLaw =
    (packets members : ℕ) (items : List Item) (words : List ℕ) (stands : List HandState) (id : ℕ) (s : HandState)
    → KeepsStream packets members items words stands
    → get_elem? stands id ≡ some s
    → MayPut s.turn
    → let stands' = slice_set stands id (after_push s (item_of s.turn)) in
    KeepsStream packets members (items ++ item_of s.turn ∷ []) words stands'
    × (pops stands' ≡ pops stands)
    × (map hand_seen stands' ≡ map hand_seen stands)

-- ---- steps at the words
-- the event's word is one of the three that a stream keeps
abbrev pub IsAtWords : Event → Type 0
IsAtWords event = 0 < place_of (row_of event).word

-- what its word is
abbrev pub tally_found : Event → List ℕ → ℕ
tally_found event words = slice_index words (tally_place_of (row_of event).word)

-- the three words after it
abbrev pub words_with : Event → List ℕ → List ℕ
words_with event words =
    slice_set words (tally_place_of (row_of event).word) ((row_of event).change (tally_found event words))

-- what the seat at the words takes the step with: a report is of the number in hand, which the seat
-- does not know
abbrev pub place_for : Event → HandState → View
place_for Finish s = with_numbers s.place s.numbers
place_for Abandon s = with_numbers s.place s.numbers
place_for Claim s = s.place
place_for Stop s = s.place
place_for (Look what) s = s.place

-- the step's word was n
abbrev pub after_event : HandState → Event → ℕ → HandState
after_event s event n = record s {
  place = (row_of event).view (place_for event s) n;
  numbers = ((row_of event).view (hand_seen s) n).hand;
}

-- a step at the words by one who may make it finds its word fresh, and is this event of the board,
-- with the reply that the board's row gives
abbrev pub WordLaw : Event → Type 0
WordLaw event =
    (packets members : ℕ) (items : List Item) (words : List ℕ) (stands : List HandState) (id : ℕ) (s : HandState)
    → KeepsStream packets members items words stands
    → get_elem? stands id ≡ some s
    → MayStep event (hand_seen s)
    → let n = tally_found event words in
    let row = row_of event in
    IsFresh (hand_seen s) row.word n
    × IsStreamEvent packets members words stands items (words_with event words)
    (slice_set stands id (after_event s event n)) id event (row.reply (hand_seen s) n)
