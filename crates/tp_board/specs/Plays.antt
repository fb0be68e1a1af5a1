-- What the one that makes a step learns from it.
use Rattle.std.specs.Prelude.{◌≡◌, ℕ}
use Rattle.atomic_table.specs.Table.{State, Me, Step}
use Rattle.tp_board.specs.declared.event.Event.{Event}
use Rattle.tp_board.specs.declared.view.View.{View}
use Rattle.tp_board.specs.declared.rule.Size.{Size}
use Rattle.tp_board.specs.Freshness.{IsFresh}
use Rattle.tp_board.specs.Steps.{row_of, MayStep}
use Rattle.tp_board.specs.Rule.{KeepsRule}

module _ {S : Type 0} where
  abbrev pub Holds : Size → State S View → Type 0
  Holds k s = KeepsRule k s.words s.views

  -- the seat might make the step, its word was n, which is fresh, and its view is changed as by it
  abbrev pub HasStepped : Event → Step S → Me S View → ℕ → Me S View → Type 0
  HasStepped event st m n m' =
      (m' ≡ ((row_of event).view m.0 n, m.1))
      × MayStep event m.0
      × IsFresh m.0 (row_of event).word n
