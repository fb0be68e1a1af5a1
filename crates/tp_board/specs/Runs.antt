-- What every list of events makes of the farm core.
use Rattle.std.specs.Prelude.{◌≡◌, ℕ, zero, suc, ◌+◌, ◌-◌, ◌<◌, ◌≤◌, true, List, [], ◌∷◌, ◌++◌, length}
use Rattle.tp_board.specs.declared.event.Event.{Event}
use Rattle.tp_board.specs.declared.event.Event.TheVariants.{Claim}
use Rattle.tp_board.specs.declared.event.Reply.{Reply}
use Rattle.tp_board.specs.declared.event.Reply.TheVariants.{Number}
use Rattle.tp_board.specs.Counting.{times, once_below, times_in_hands}
use Rattle.tp_board.specs.CoreState.{CoreState, step}

-- the core after the events, each with its member
abbrev pub core_after : CoreState → List (ℕ × Event) → CoreState
core_after s [] = s
core_after s (e ∷ es) = core_after (step s e.0 e.1).1 es

-- the replies to the events, in order
abbrev pub replies : CoreState → List (ℕ × Event) → List Reply
replies s [] = []
replies s (e ∷ es) = (step s e.0 e.1).0 ∷ replies (step s e.0 e.1).1 es

-- each event's member is one of this many
abbrev pub AllMembers : ℕ → List (ℕ × Event) → Type 0
AllMembers members [] = Unit {0}
AllMembers members (e ∷ es) = (e.0 < members) × AllMembers members es

-- no more numbers are drawn than there are, and each number drawn so far is once in a hand, in
-- done or in lost
pub record Accounts (s : CoreState) : Type 0 where
  pub within : s.drawn ≤ s.packets
  pub each_once : (x : ℕ) → times_in_hands x s.hands + times x s.done + times x s.lost ≡ once_below x s.drawn

-- the number that an event with this reply drew
abbrev pub number_drawn : Event → Reply → List ℕ
number_drawn Claim (Number n) = n ∷ []
number_drawn e r = []

-- the numbers that the events drew, in order
abbrev pub numbers_drawn : List (ℕ × Event) → List Reply → List ℕ
numbers_drawn [] rs = []
numbers_drawn (e ∷ es) [] = []
numbers_drawn (e ∷ es) (r ∷ rs) = number_drawn e.1 r ++ numbers_drawn es rs

-- this many numbers, from `first` on
abbrev pub numbers_from : ℕ → ℕ → List ℕ
numbers_from first zero = []
numbers_from first (suc n) = first ∷ numbers_from (first + 1) n

-- the numbers that a run from s to t draws are those from the count drawn at its entry on, in order
abbrev pub DrawsInOrder : CoreState → List (ℕ × Event) → List Reply → CoreState → Type 0
DrawsInOrder s events rs t = numbers_drawn events rs ≡ numbers_from s.drawn (t.drawn - s.drawn)

-- what is drawn, done, lost and stopped stays so; the numbers of packets and of members stay
pub record IsKept (s t : CoreState) : Type 0 where
  pub packets : t.packets ≡ s.packets
  pub members : length t.hands ≡ length s.hands
  pub drawn : s.drawn ≤ t.drawn
  pub done : (more : List ℕ) × (t.done ≡ s.done ++ more)
  pub lost : (more : List ℕ) × (t.lost ≡ s.lost ++ more)
  pub stop : s.stop ≡ true → t.stop ≡ true

-- from any core whose accounts are in order, every list of events keeps them so, takes nothing
-- back, and draws the numbers from the count drawn at its entry on, in order
abbrev pub RunLaw : Type 0
RunLaw = (s : CoreState) (events : List (ℕ × Event)) → Accounts s → AllMembers (length s.hands) events
    → let t = core_after s events in Accounts t × IsKept s t × DrawsInOrder s events (replies s events) t
