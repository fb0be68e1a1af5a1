-- The rule of a stream's queue: it holds the numbers from the first that is not popped to the last
-- pushed, and then the end marks; what was popped are the numbers below, each once.
use Rattle.std.specs.Prelude.{◌≡◌, ℕ, ◌+◌, ◌-◌, ◌%◌, ◌<◌, ◌≤◌, ltb, nat_eq, Bool, true, List, [], ◌∷◌, ◌++◌, length}
use Rattle.std.specs.Prelude.{map, replicate, if◌then◌else◌}
use mathlib.Core.Option.{some}
use lib.ListN.{get_elem?}
use Rattle.tp_stream.specs.declared.queue.Item.{Item}
use Rattle.tp_stream.specs.declared.queue.Item.TheVariants.{Number, End}
use Rattle.tp_stream.specs.declared.queue.PassView.{PassView}
use Rattle.tp_board.specs.Counting.{times, once_below, AreBelow}
use Rattle.tp_board.specs.Rule.{total}
use Rattle.tp_board.specs.Runs.{numbers_from}

abbrev pub turn : ℕ → ℕ → ℕ → ℕ → ℕ → ℕ → List ℕ → ℕ → PassView
turn packets members parts feeds pushed marks popped ended = record {
  packets = packets;
  members = members;
  parts = parts;
  feeds = feeds;
  pushed = pushed;
  marks = marks;
  popped = popped;
  ended = ended;
}

-- ---- passes that have made no step
-- the first pass, before it knows the sizes
abbrev pub first : PassView
first = turn 0 0 1 1 0 0 [] 0

-- the one that feeds, with the parts of hands that are still to come
abbrev pub feeder : ℕ → ℕ → ℕ → PassView
feeder packets members parts = turn packets members parts 1 0 0 [] 0

abbrev pub hand : ℕ → ℕ → PassView
hand packets members = turn packets members 1 0 0 0 [] 0

-- what a joining leaves of the pass that was taken in
abbrev pub nobody : PassView
nobody = turn 0 0 0 0 0 0 [] 0

abbrev pub without_one : PassView → PassView
without_one v = record v { parts = v.parts - 1 }

abbrev pub join_of_passes : PassView → PassView → PassView
join_of_passes v w =
    turn v.packets v.members (v.parts + w.parts) (v.feeds + w.feeds) (v.pushed + w.pushed) (v.marks + w.marks)
    (v.popped ++ w.popped) (v.ended + w.ended)

-- ---- pushes and pops
-- what is pushed next: the packets in order of number, and then the marks
abbrev pub item_of : PassView → Item
item_of v = if ltb v.pushed v.packets then Number v.pushed else End

-- the pass feeds, and not all is pushed
abbrev pub MayPut : PassView → Type 0
MayPut v =
    (0 < v.parts) × (v.feeds ≡ 1) × (v.pushed ≤ v.packets)
    × (v.pushed < v.packets → v.marks ≡ 0) × (v.packets ≤ v.pushed → v.marks < v.members)

abbrev pub put : PassView → Item → PassView
put v (Number n) = record v { pushed = v.pushed + 1 }
put v End = record v { marks = v.marks + 1 }

abbrev pub after_take : PassView → Item → PassView
after_take v (Number n) = record v { popped = v.popped ++ n ∷ [] }
after_take v End = record v { ended = v.ended + 1 }

-- a number that is popped is one of the packets', no less than how many this pass popped before, and
-- above each of these
abbrev pub IsNext : PassView → Item → Type 0
IsNext v (Number n) = (n < v.packets) × (length v.popped ≤ n) × ((y : ℕ) → 0 < times y v.popped → y < n)
IsNext v End = Unit {0}

abbrev pub Took : PassView → Item → PassView → Type 0
Took v x w = (w ≡ after_take v x) × IsNext v x

-- this many numbers, from `from` on, and then this many marks
abbrev pub queue : ℕ → ℕ → ℕ → List Item
queue from count marks = map (λ n. Number n) (numbers_from from count) ++ replicate marks End

-- the last of each sixteen numbers wakes the other side of the queue, and so does each end mark
abbrev pub wakes_other : Item → Bool
wakes_other (Number n) = nat_eq ((n + 1) % 16) 0
wakes_other End = true

-- ---- the rule
pub record FitsQueue (packets members : ℕ) (v : PassView) : Type 0 where
  pub sizes : 0 < v.parts → (v.packets ≡ packets) × (v.members ≡ members)
  pub fed : v.feeds ≡ 0 → (v.pushed ≡ 0) × (v.marks ≡ 0)
  pub idle : v.parts ≡ 0 → (v.feeds ≡ 0) × (v.popped ≡ []) × (v.ended ≡ 0)

-- of what the queue holds, oldest first, and of all passes: the numbers below `drawn` are popped,
-- each once, those from there to `pushed` are in the queue, and the marks behind them; one pass
-- feeds
pub record Streamed (items : List Item) (views : List PassView) : Type 0 where
  pub packets : ℕ
  pub members : ℕ
  pub drawn : ℕ
  pub pushed : ℕ
  pub marks : ℕ
  pub ended : ℕ
  pub pushed_is : total (λ v. v.pushed) views ≡ pushed
  pub marks_is : total (λ v. v.marks) views ≡ marks
  pub ended_is : total (λ v. v.ended) views ≡ ended
  pub parts : total (λ v. v.parts) views ≡ members + 1
  pub feeds : total (λ v. v.feeds) views ≡ 1
  pub in_line : items ≡ queue drawn (pushed - drawn) (marks - ended)
  pub behind : drawn ≤ pushed
  pub within : pushed ≤ packets
  pub marked : marks ≤ members
  pub taken : ended ≤ marks
  pub marks_last : 0 < marks → pushed ≡ packets
  pub ends_last : 0 < ended → drawn ≡ pushed
  pub each_once : (x : ℕ) → total (λ v. times x v.popped) views ≡ once_below x drawn
  pub counted : total (λ v. length v.popped) views ≡ drawn
  pub fits : (id : ℕ) (v : PassView) → get_elem? views id ≡ some v → FitsQueue packets members v

-- ---- what a pass knows of the queue
-- the one that feeds: what it pushed and nobody has popped
abbrev pub Waits : PassView → List Item → Type 0
Waits v items =
    (drawn : ℕ) × (ended : ℕ) × (items ≡ queue drawn (v.pushed - drawn) (v.marks - ended))
    × (drawn ≤ v.pushed) × (ended ≤ v.marks)

-- the pass with every part: it popped the numbers below some `drawn`, each once, and the queue holds
-- the rest of what it pushed
abbrev pub Left : PassView → List Item → Type 0
Left v items =
    (drawn : ℕ)
    × (items ≡ queue drawn (v.pushed - drawn) (v.marks - v.ended))
    × (drawn ≤ v.pushed)
    × AreBelow v.popped drawn
    × (length v.popped ≡ drawn)
    × (v.pushed ≤ v.packets)
    × (0 < v.ended → drawn ≡ v.packets)

-- what stays true of it where it drains the queue: the numbers popped are those below n
pub record LeftAt (v : PassView) (n : ℕ) : Type 0 where
  pub behind : n ≤ v.pushed
  pub each_once : AreBelow v.popped n
  pub counted : length v.popped ≡ n
  pub within : v.pushed ≤ v.packets
  pub ended : 0 < v.ended → n ≡ v.packets

-- it took these numbers out of the queue; with what it had popped before they are the numbers that it pushed, each once
abbrev pub TookRest : PassView → PassView → Type 0
TookRest v w = (left : List ℕ) × (w.popped ≡ v.popped ++ left) × AreBelow w.popped v.pushed
