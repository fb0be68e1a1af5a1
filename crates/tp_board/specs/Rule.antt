-- The rule of a board: what its four words and the views of its seats have to do with each other.
use Rattle.std.specs.Prelude.{◌≡◌, ℕ, ◌+◌, ◌-◌, ◌<◌, ◌≤◌, min, List, [], ◌∷◌, length}
use mathlib.Core.Option.{some}
use lib.ListN.{get_elem?}
use Rattle.tp_board.specs.declared.view.Counters.{Counters}
use Rattle.tp_board.specs.declared.view.View.{View}
use Rattle.tp_board.specs.declared.rule.Size.{Size}
use Rattle.tp_board.specs.Counting.{times, once_below}
use Rattle.tp_board.specs.Limits.{most_packets, most_members}
use Rattle.tp_board.specs.Words.{words_of}

-- f of each element, added up
abbrev pub total : {V : Type 0} → (V → ℕ) → List V → ℕ
total f [] = 0
total f (v ∷ vs) = f v + total f vs

-- no value that was seen is above its word
pub record AtMost (seen w : Counters) : Type 0 where
  pub claimed : seen.claimed ≤ w.claimed
  pub done : seen.done ≤ w.done
  pub lost : seen.lost ≤ w.lost
  pub stop : seen.stop ≤ w.stop

-- of one view: the numbers that it drew are those that it finished, those that it abandoned and the
-- one in hand, each once; one that is no seat, as a joining leaves it, has made no step
pub record Fits (k : Size) (w : Counters) (v : View) : Type 0 where
  pub packets : 0 < v.parts → v.packets ≡ k.packets
  pub ended : v.ended ≤ v.parts
  pub in_hand : length v.hand ≤ v.parts
  pub each_once : (x : ℕ) → times x v.drawn ≡ times x v.finished + times x v.abandoned + times x v.hand
  pub counted : length v.drawn ≡ length v.finished + length v.abandoned + length v.hand
  pub seen : AtMost v.seen w
  pub idle : v.parts ≡ 0 → (v.drawn ≡ []) × (v.stop_callers ≡ 0)

-- of the words and all views, of the most members at most and a feeder: all drawn numbers are those below the lesser of
-- `claimed` and packets, each once; `claimed` also counts the views that learnt the end, which exist only where it is
-- above packets; `done` and `lost` count the numbers finished and abandoned; `stop` is 1 where some view called stop,
-- and else 0
pub record Rule (k : Size) (w : Counters) (views : List View) : Type 0 where
  pub few_packets : k.packets ≤ most_packets
  pub few_members : k.members ≤ most_members + 1
  pub parts : total (λ v. v.parts) views ≡ k.members
  pub each_once : (x : ℕ) → total (λ v. times x v.drawn) views ≡ once_below x (min w.claimed k.packets)
  pub drawn : total (λ v. length v.drawn) views ≡ min w.claimed k.packets
  pub ended : total (λ v. v.ended) views ≡ w.claimed - k.packets
  pub done : w.done ≡ total (λ v. length v.finished) views
  pub lost : w.lost ≡ total (λ v. length v.abandoned) views
  pub stop : w.stop ≡ min 1 (total (λ v. v.stop_callers) views)
  pub fits : (id : ℕ) (v : View) → get_elem? views id ≡ some v → Fits k w v

-- the words are four, and they and the views keep the rule
abbrev pub KeepsRule : Size → List ℕ → List View → Type 0
KeepsRule k words views = (w : Counters) × (words ≡ words_of w) × Rule k w views
