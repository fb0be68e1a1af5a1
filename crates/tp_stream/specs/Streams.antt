-- What a stream, its hands and its feeder are to a contract, and what its calls say.
use Rattle.std.specs.Prelude.{◌≡◌, ℕ, ◌+◌, ◌<◌, ◌≤◌, ◌⊎◌, Bool, List, [], ◌∷◌, ◌++◌, length, map, replicate, Option}
use Rattle.std.specs.Prelude.{None, if◌then◌else◌}
use Rattle.atomic_table.specs.Seated.{TableId}
use Rattle.crossbeam_queue.specs.Fifo.{Held}
use Rattle.crossbeam_queue.specs.Passes.{Pass, view}
use Rattle.tp_board.specs.declared.answer.Claim.{Claim}
use Rattle.tp_board.specs.declared.answer.Claim.TheVariants as claim
use Rattle.tp_board.specs.declared.event.Event.TheVariants as event
use Rattle.tp_board.specs.declared.event.Reply.TheVariants as reply
use Rattle.tp_stream.specs.declared.queue.Item.{Item}
use Rattle.tp_stream.specs.declared.queue.PassView.{PassView}
use Rattle.tp_board.specs.declared.rule.Size.{Size}
use Rattle.tp_stream.specs.declared.hand.Fed.{Fed}
use Rattle.tp_stream.specs.declared.hand.Fed.TheVariants as fed
use Rattle.tp_board.specs.declared.view.View.{View}
use Rattle.tp_board.specs.Calls.{MadeStep, made, Makes, sees_no_stop, sees_stop}
use Rattle.tp_board.specs.Counting.{times, hand_list, AreBelow}
use Rattle.tp_board.specs.Limits.{most_packets, most_members}
use Rattle.tp_stream.specs.Queues.{hand, feeder, item_of, put, MayPut, Waits}
use Rattle.tp_board.specs.Openings.{InRange}
use Rattle.tp_board.specs.Sources.{Progress, progress_of}
use Rattle.tp_board.specs.Views.{newcomer, all_drawn}
use Rattle.tp_board.specs.Words.{size}

-- what a pass at the queue knows
abbrev pub turn_of : Pass Item PassView → PassView
turn_of p = view p

-- what a pass at the queue, a seat at the three words and what is in hand are together: a view as the
-- board's seats have. A pop is a draw, or the learning of the end
abbrev pub seen_of : PassView → View → List ℕ → View
seen_of t p numbers = record p {
  packets = t.packets;
  steps = length t.popped + t.ended + p.steps;
  drawn = t.popped;
  hand = numbers;
  ended = t.ended;
}

-- a stream, by its queue, the table of its words, its packets' bytes and how many members it has
pub record StreamView : Type 0 where
  pub queue : TableId
  pub tally : TableId
  pub packets : List (List ℕ)
  pub members : ℕ

-- a member's hand: what its pass and its seat know, and the number in hand
pub record HandView : Type 0 where
  pub queue : TableId
  pub tally : TableId
  pub turn : PassView
  pub place : View
  pub number : Option ℕ

pub record FeederView : Type 0 where
  pub queue : TableId
  pub tally : TableId
  pub turn : PassView
  pub place : View

abbrev pub stream_of : TableId → TableId → List (List ℕ) → ℕ → StreamView
stream_of queue tally packets members = record { queue = queue; tally = tally; packets = packets; members = members }

abbrev pub hand_of_parts : TableId → TableId → PassView → View → Option ℕ → HandView
hand_of_parts queue tally turn place number =
    record { queue = queue; tally = tally; turn = turn; place = place; number = number }

abbrev pub feeder_of_parts : TableId → TableId → PassView → View → FeederView
feeder_of_parts queue tally turn place = record { queue = queue; tally = tally; turn = turn; place = place }

abbrev pub hand_seen : HandView → View
hand_seen h = seen_of h.turn h.place (hand_list h.number)

-- what a hand has done at its stream
abbrev pub hand_progress : HandView → Progress
hand_progress h = progress_of (hand_seen h)

abbrev pub feeder_seen : FeederView → View
feeder_seen f = seen_of f.turn f.place []

-- those of the hands, and then the feeder's
abbrev pub all_seen : List HandView → FeederView → List View
all_seen hands f = map hand_seen hands ++ feeder_seen f ∷ []

-- a hand and the feeder that have made no step
abbrev pub fresh_hand : TableId → TableId → ℕ → ℕ → HandView
fresh_hand queue tally packets members = hand_of_parts queue tally (hand packets members) (newcomer packets 1) None

abbrev pub new_hand_of : StreamView → HandView
new_hand_of q = fresh_hand q.queue q.tally (length q.packets) q.members

abbrev pub new_feeder_of : StreamView → FeederView
new_feeder_of q =
    feeder_of_parts q.queue q.tally (feeder (length q.packets) q.members 1) (newcomer (length q.packets) 1)

abbrev pub IsHandOf : StreamView → HandView → Type 0
IsHandOf q h =
    (h.queue ≡ q.queue) × (h.tally ≡ q.tally) × (h.turn.packets ≡ length q.packets) × (h.turn.members ≡ q.members)

abbrev pub IsFeederOf : StreamView → FeederView → Type 0
IsFeederOf q f =
    (f.queue ≡ q.queue) × (f.tally ≡ q.tally) × (f.turn.packets ≡ length q.packets) × (f.turn.members ≡ q.members)

-- ---- what the types keep
-- of a stream: its table has three words and got the number of seats, and its queue has
-- room for 32 items
pub record IsStream (tally : TableId) (key : Size) (capacity packets members : ℕ) : Type 0 where
  pub words : tally.words ≡ 3
  pub slots : tally.slots ≡ 0
  pub told : key ≡ size packets (members + 1)
  pub room : capacity ≡ 32
  pub in_range : InRange packets members

-- of a view: the numbers drawn are those finished, those abandoned and those in hand, each once
pub record Agrees (v : View) : Type 0 where
  pub ended : v.ended ≤ v.parts
  pub in_hand : length v.hand ≤ v.parts
  pub each_once : (x : ℕ) → times x v.drawn ≡ times x v.finished + times x v.abandoned + times x v.hand
  pub counted : length v.drawn ≡ length v.finished + length v.abandoned + length v.hand

-- of a hand: the numbers that its pass popped are, each once, those that its seat finished and
-- abandoned and the one in hand
pub record IsHand (t : PassView) (p : View) (number : Option ℕ) (ended stop_seen : Bool) : Type 0 where
  pub one_pass : t.parts ≡ 1
  pub one_seat : p.parts ≡ 1
  pub feeds : t.feeds ≡ 0
  pub pushed : t.pushed ≡ 0
  pub marks : t.marks ≡ 0
  pub few_packets : t.packets ≤ most_packets
  pub few_popped : length t.popped ≤ t.packets
  pub no_claim : p.seen.claimed ≡ 0
  pub agrees : Agrees (seen_of t p (hand_list number))
  pub ended_is : t.ended ≡ (if ended then 1 else 0)
  pub stop_seen_is : p.seen.stop ≡ (if stop_seen then 1 else 0)

-- of the feeder: what it keeps beside its pass is what that pushed, and it has popped nothing
pub record IsFeeder (t : PassView) (p : View) (pushed marks : ℕ) : Type 0 where
  pub one_pass : t.parts ≡ 1
  pub one_seat : p.parts ≡ 1
  pub feeds : t.feeds ≡ 1
  pub pushed_is : t.pushed ≡ pushed
  pub marks_is : t.marks ≡ marks
  pub few_packets : t.packets ≤ most_packets
  pub few_members : t.members ≤ most_members
  pub within : pushed ≤ t.packets
  pub marked : marks ≤ t.members
  pub marks_last : pushed < t.packets → marks ≡ 0
  pub no_number : t.popped ≡ []
  pub no_end : t.ended ≡ 0
  pub agrees : Agrees (seen_of t p [])

-- ---- the calls
-- what is claimed after these steps: of a hand's view before, the claim, and the view after.
-- NoMore and Stopped come without a step where the hand knows them already
abbrev pub NextAfter : List MadeStep → View → Claim → View → Type 0
NextAfter before v (claim.Busy n) w = ⊥
NextAfter before v (claim.Packet n) w =
    (v.ended ≡ 0)
    × (v.seen.stop ≡ 0)
    × (n < v.packets)
    × ((y : ℕ) → 0 < times y v.drawn → y < n)
    × Makes v (before ++ sees_no_stop ∷ made event.Claim n (reply.Number n) ∷ []) w
NextAfter before v claim.NoMore w =
    ((v.ended ≡ 1) × Makes v [] w)
    ⊎ ((v.ended ≡ 0) × (v.seen.stop ≡ 0)
    × ((n : ℕ) × (v.packets ≤ n) × Makes v (before ++ sees_no_stop ∷ made event.Claim n reply.NoMore ∷ []) w))
NextAfter before v claim.Stopped w =
    (v.ended ≡ 0)
    × (((v.seen.stop ≡ 1) × Makes v [] w) ⊎ ((v.seen.stop ≡ 0) × Makes v (before ++ sees_stop ∷ []) w))

-- it may have found the queue empty, this many times, and looked at the stop mark each time
abbrev pub NextMakes : View → Claim → View → Type 0
NextMakes v claimed w = (tries : ℕ) × NextAfter (replicate tries sees_no_stop) v claimed w

-- all packets are pushed, and all end marks
abbrev pub IsAllPushed : PassView → Type 0
IsAllPushed t = (t.pushed ≡ t.packets) × (t.marks ≡ t.members)

-- a load of the stop mark, which was 0, and nothing at the queue
abbrev pub LooksOnly : FeederView → FeederView → Type 0
LooksOnly f g = Makes (feeder_seen f) (sees_no_stop ∷ []) (feeder_seen g) × (g.turn ≡ f.turn)

-- Pushed: the next item is pushed, and no other. Full: at one moment of the call the queue held 32
-- items that were pushed and not popped. Over: all packets and marks are pushed
abbrev pub FeedSays : FeederView → Fed → FeederView → Type 0
FeedSays f fed.Pushed g =
    Makes (feeder_seen f) (sees_no_stop ∷ []) (feeder_seen g)
    × MayPut f.turn
    × (g.turn ≡ put f.turn (item_of f.turn))
FeedSays f fed.Full g = LooksOnly f g × MayPut f.turn × Held 32 (Waits f.turn)
FeedSays f fed.Stopped g = Makes (feeder_seen f) (sees_stop ∷ []) (feeder_seen g) × (g.turn ≡ f.turn)
FeedSays f fed.Over g = LooksOnly f g × IsAllPushed f.turn

-- ---- the close
-- the close took these numbers out of the queue; with those that the hands drew they are the numbers below `pushed`,
-- each once
abbrev pub IsLeft : List View → (pushed : ℕ) → Type 0
IsLeft views pushed = (left : List ℕ) × AreBelow (all_drawn views ++ left) pushed
