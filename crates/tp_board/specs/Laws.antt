-- The law that each kind of step of the board is one event of the core that its words and views
-- stand for, and the law that this core's accounts are in order.
use Rattle.std.specs.Prelude.{◌≡◌, ℕ, ◌≤◌, List, length, All, slice_set}
use mathlib.Core.Option.{some}
use lib.ListN.{get_elem?}
use Rattle.tp_board.specs.declared.event.Event.{Event}
use Rattle.tp_board.specs.declared.event.Reply.{Reply}
use Rattle.tp_board.specs.declared.view.View.{View}
use Rattle.tp_board.specs.declared.rule.Size.{Size}
use Rattle.tp_board.specs.CoreState.{step}
use Rattle.tp_board.specs.CoreOf.{core_of, IsSame}
use Rattle.tp_board.specs.Freshness.{IsFresh}
use Rattle.tp_board.specs.Runs.{Accounts}
use Rattle.tp_board.specs.Rule.{KeepsRule}
use Rattle.tp_board.specs.Steps.{row_of, MayStep, word_found, words_after}

-- the words and views that a step of the seat `id` leaves keep the rule; the core that they stand
-- for is what that member's event makes of the core before, and this is the event's reply
pub record IsEvent (k : Size) (words : List ℕ) (views : List View) (words' : List ℕ) (views' : List View)
    (id : ℕ) (event : Event) (reply : Reply) : Type 0 where
  pub rule : KeepsRule k words' views'
  pub core_state : IsSame (core_of k words' views') (step (core_of k words views) id event).1
  pub answered : (step (core_of k words views) id event).0 ≡ reply

-- under the rule the view of the seat `id` is v
abbrev pub IsSeatAt : Size → List ℕ → List View → ℕ → View → Type 0
IsSeatAt k words views id v = KeepsRule k words views × (get_elem? views id ≡ some v) × (v.parts ≡ 1)

-- whatever words and views the rule allows, the step of a seat that may make it finds its word
-- fresh, and is this event of the core, with this reply
abbrev pub StepLaw : Event → Type 0
StepLaw event =
    (k : Size) (words : List ℕ) (views : List View) (id : ℕ) (v : View)
    → IsSeatAt k words views id v
    → MayStep event v
    → let n = word_found event words in
    let row = row_of event in
    IsFresh v row.word n
    × IsEvent k words views (words_after event words) (slice_set views id (row.view v n)) id event (row.reply v n)

-- whatever words and views of seats the rule allows, the core that they stand for has each number
-- drawn so far once, in a hand, in done or in lost
abbrev pub AccountsLaw : Type 0
AccountsLaw =
    (k : Size) (words : List ℕ) (views : List View)
    → KeepsRule k words views
    → All (λ v. length v.hand ≤ 1) views
    → Accounts (core_of k words views)
