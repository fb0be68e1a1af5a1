-- What the close of a board says of the seats as they are handed in.
use Rattle.std.specs.Prelude.{◌≡◌, ℕ, ◌+◌, ◌<◌, ◌≤◌, ◌↔◌, true, List, [], ◌∷◌, ◌++◌, length}
use mathlib.Core.Option.{some}
use lib.ListN.{get_elem?}
use Rattle.tp_board.specs.declared.view.View.{View}
use Rattle.tp_board.specs.declared.answer.Ledger.{Ledger}
use Rattle.tp_board.specs.Counting.{AreBelow}
use Rattle.tp_board.specs.Views.{all_drawn, all_finished, all_abandoned, all_in_hand, join_of}
use Rattle.tp_board.specs.Rule.{total}

-- the ledger of a board of this many packets accounts for these views, which are all of its seats'
pub record Balances (packets : ℕ) (views : List View) (l : Ledger) : Type 0 where
  -- the numbers that the seats drew are the numbers below `drawn`, each once
  pub drew : AreBelow (all_drawn views) l.drawn
  -- and so are, together, those that they finished, those that they abandoned and those in hand
  pub went : AreBelow (all_finished views ++ all_abandoned views ++ all_in_hand views) l.drawn
  pub drawn : l.drawn ≡ length (all_drawn views)
  pub done : l.done ≡ length (all_finished views)
  pub lost : l.lost ≡ length (all_abandoned views)
  pub in_hand : l.in_hand ≡ length (all_in_hand views)
  pub all : l.drawn ≡ l.done + l.lost + l.in_hand
  pub within : l.drawn ≤ packets
  -- some seat called stop
  pub stopped : (l.stopped ≡ true) ↔ (0 < total (λ v. v.stop_callers) views)
  -- a seat was answered NoMore
  pub ended : 0 < total (λ v. v.ended) views → l.drawn ≡ packets
  -- a seat has seen the stop mark
  pub stop_seen : (id : ℕ) (v : View) → get_elem? views id ≡ some v → 0 < v.seen.stop → l.stopped ≡ true

-- the views of us, from the last to the first, joined to v
abbrev pub join_of_all : View → List View → View
join_of_all v [] = v
join_of_all v (u ∷ us) = join_of (join_of_all v us) u
