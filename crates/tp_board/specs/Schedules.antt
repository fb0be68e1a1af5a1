-- Every schedule of the seats' steps: a list of seats, each with the event that its step is.
use Rattle.std.specs.Prelude.{◌≡◌, ℕ, List, [], ◌∷◌, slice_index_or, slice_set}
use Rattle.tp_board.specs.declared.event.Event.{Event}
use Rattle.tp_board.specs.declared.event.Reply.{Reply}
use Rattle.tp_board.specs.declared.view.View.{View}
use Rattle.tp_board.specs.declared.rule.Size.{Size}
use Rattle.tp_board.specs.Runs.{core_after, replies, DrawsInOrder}
use Rattle.tp_board.specs.Views.{spent_view}
use Rattle.tp_board.specs.Rule.{KeepsRule}
use Rattle.tp_board.specs.CoreOf.{core_of, IsSame}
use Rattle.tp_board.specs.Steps.{row_of, MayStep, word_found, words_after}

abbrev pub view_at : List View → ℕ → View
view_at views id = slice_index_or views id spent_view

-- the views after a step of the seat
abbrev pub views_after : List ℕ → List View → ℕ × Event → List View
views_after words views e = slice_set views e.0 ((row_of e.1).view (view_at views e.0) (word_found e.1 words))

-- each step is made by a seat, which may make it when its turn comes
abbrev pub IsSchedule : List ℕ → List View → List (ℕ × Event) → Type 0
IsSchedule words views [] = Unit {0}
IsSchedule words views (e ∷ es) =
    ((view_at views e.0).parts ≡ 1)
    × MayStep e.1 (view_at views e.0)
    × IsSchedule (words_after e.1 words) (views_after words views e) es

-- the words and the views after all steps
abbrev pub board_after : List ℕ → List View → List (ℕ × Event) → List ℕ × List View
board_after words views [] = (words, views)
board_after words views (e ∷ es) = board_after (words_after e.1 words) (views_after words views e) es

-- the replies on which the calls' answers rest, in order
abbrev pub board_replies : List ℕ → List View → List (ℕ × Event) → List Reply
board_replies words views [] = []
board_replies words views (e ∷ es) =
    (row_of e.1).reply (view_at views e.0) (word_found e.1 words)
    ∷ board_replies (words_after e.1 words) (views_after words views e) es

-- a schedule keeps the rule; the core that it leaves is what its events make of the core before,
-- with their replies; and the numbers that it draws are those from the count drawn before it on, in
-- order
pub record IsRun (k : Size) (words : List ℕ) (views : List View) (events : List (ℕ × Event))
    (words' : List ℕ) (views' : List View) : Type 0 where
  pub rule : KeepsRule k words' views'
  pub core_state : IsSame (core_of k words' views') (core_after (core_of k words views) events)
  pub answered : board_replies words views events ≡ replies (core_of k words views) events
  pub in_order : DrawsInOrder (core_of k words views) events (board_replies words views events)
      (core_of k words' views')

-- whatever words and views the rule allows, every schedule of the seats' steps is a run of the farm
abbrev pub ScheduleLaw : Type 0
ScheduleLaw =
    (k : Size) (words : List ℕ) (views : List View) (events : List (ℕ × Event))
    → KeepsRule k words views
    → IsSchedule words views events
    → let board = board_after words views events in IsRun k words views events board.0 board.1
