-- What the close of a source says of the hands that were at it, all together.
use Rattle.std.specs.Prelude.{◌≡◌, ℕ, ◌+◌, ◌≤◌, true, false, List, [], ◌∷◌, ◌++◌, length, None, All}
use Rattle.tp_board.specs.declared.answer.Ledger.{Ledger}
use Rattle.tp_board.specs.Counting.{times, once_below}
use Rattle.tp_board.specs.Sources.{Progress}

-- the numbers that the hands finished, and those that they abandoned, one hand after another
abbrev pub all_finished : List Progress → List ℕ
all_finished [] = []
all_finished (p ∷ ps) = p.finished ++ all_finished ps

abbrev pub all_abandoned : List Progress → List ℕ
all_abandoned [] = []
all_abandoned (p ∷ ps) = p.abandoned ++ all_abandoned ps

-- how often the hands have put a number down
abbrev pub times_put_down : ℕ → List Progress → ℕ
times_put_down x hands = times x (all_finished hands) + times x (all_abandoned hands)

-- what a hand has learnt is so: it took no more packets than were drawn, where it learnt the end all are drawn, and
-- where it saw the stop there was one
pub record IsBorneOut (packets : ℕ) (l : Ledger) (p : Progress) : Type 0 where
  pub taken : length p.taken ≤ l.drawn
  pub ended : p.ended ≡ true → l.drawn ≡ packets
  pub stop_seen : p.stop_seen ≡ true → l.stopped ≡ true

-- a number below `drawn` was put down once at most, and once where no hand has anything left in it; no other number was
pub record AddsUp (packets : ℕ) (hands : List Progress) (l : Ledger) : Type 0 where
  pub within : l.drawn ≤ packets
  pub few : (x : ℕ) → times_put_down x hands ≤ once_below x l.drawn
  pub all : All (λ p. p.in_hand ≡ None) hands → (x : ℕ) → times_put_down x hands ≡ once_below x l.drawn
  pub learnt : All (IsBorneOut packets l) hands
  -- where it was stopped, some hand stopped it
  pub stopped : l.stopped ≡ true → All (λ p. p.stop_called ≡ false) hands → ⊥
