-- The rule of a stream's three words: what is done, what is lost, and the stop mark.
use Rattle.std.specs.Prelude.{◌≡◌, ℕ, ◌+◌, ◌-◌, ◌*◌, ◌<◌, ◌≤◌, min, List, [], ◌∷◌, length}
use mathlib.Core.Option.{some}
use lib.ListN.{get_elem?}
use Rattle.atomic_table.specs.Table.{State, Me, Step}
use Rattle.tp_board.specs.declared.event.Event.{Event}
use Rattle.tp_board.specs.declared.event.Shown.{Shown}
use Rattle.tp_board.specs.declared.view.Counters.{Counters}
use Rattle.tp_board.specs.declared.view.View.{View}
use Rattle.tp_board.specs.declared.rule.Size.{Size}
use Rattle.tp_board.specs.Limits.{most_packets, most_members}
use Rattle.tp_board.specs.Words.{place_of}
use Rattle.tp_board.specs.Rule.{total, AtMost}
use Rattle.tp_board.specs.Freshness.{IsFresh}
use Rattle.tp_board.specs.Steps.{row_of, MayStep}
use Rattle.tp_board.specs.Plays.{HasStepped}

-- the words, in their places: the board's without the first, since a stream's numbers come from its queue
abbrev pub tally_words_of : Counters → List ℕ
tally_words_of w = w.done ∷ w.lost ∷ w.stop ∷ []

abbrev pub tally_place_of : Shown → ℕ
tally_place_of what = place_of what - 1

-- of one view: it reports no more numbers than there are; one that is no seat, as a joining leaves
-- it, has made no step
pub record FitsTally (k : Size) (w : Counters) (v : View) : Type 0 where
  pub few : length v.finished + length v.abandoned ≤ most_packets * v.parts
  pub seen : AtMost v.seen w
  pub idle : v.parts ≡ 0 → (v.finished ≡ []) × (v.abandoned ≡ []) × (v.stop_callers ≡ 0)

-- of the words and all views, of the most members at most and a feeder: `done` and `lost` count the numbers
-- finished and abandoned; `stop` is 1 where some view called stop, and else 0
pub record TallyRule (k : Size) (w : Counters) (views : List View) : Type 0 where
  pub few_seats : k.members ≤ most_members + 1
  pub no_claim : w.claimed ≡ 0
  pub parts : total (λ v. v.parts) views ≡ k.members
  pub done : w.done ≡ total (λ v. length v.finished) views
  pub lost : w.lost ≡ total (λ v. length v.abandoned) views
  pub stop : w.stop ≡ min 1 (total (λ v. v.stop_callers) views)
  pub fits : (id : ℕ) (v : View) → get_elem? views id ≡ some v → FitsTally k w v

-- the words are three, and they and the views keep the rule
abbrev pub KeepsTally : Size → List ℕ → List View → Type 0
KeepsTally k words views = (w : Counters) × (words ≡ tally_words_of w) × TallyRule k w views

-- the view, with these numbers in its hand
abbrev pub with_numbers : View → List ℕ → View
with_numbers v numbers = record v { hand = numbers }

-- one seat alone, which may report one more number
abbrev pub MayReport : View → Type 0
MayReport v = (v.parts ≡ 1) × (length v.finished + length v.abandoned < most_packets)

-- a step of a seat with this view, which might make it, where its word was n, which is fresh
abbrev pub Takes : Event → View → ℕ → View → Type 0
Takes event v n w = (w ≡ (row_of event).view v n) × MayStep event v × IsFresh v (row_of event).word n

module _ {S : Type 0} where
  abbrev pub TallyHolds : Size → State S View → Type 0
  TallyHolds k s = KeepsTally k s.words s.views

  -- the step of a seat that has this number in its hand
  abbrev pub Reports : Event → ℕ → Step S → Me S View → ℕ → Me S View → Type 0
  Reports event number st m = HasStepped event st (with_numbers m.0 (number ∷ []), m.1)
