-- The five kinds of atomic step of a board, each by the event of the farm core that it is.
use Rattle.std.specs.Prelude.{◌≡◌, ℕ, ◌+◌, ltb, min, bit_or, List, [], ◌∷◌, ◌++◌, slice_set, if◌then◌else◌}
use Rattle.tp_board.specs.declared.event.Event.{Event}
use Rattle.tp_board.specs.declared.event.Event.TheVariants.{Claim, Finish, Abandon, Stop, Look}
use Rattle.tp_board.specs.declared.event.Shown.{Shown}
use Rattle.tp_board.specs.declared.event.Shown.TheVariants as shown
use Rattle.tp_board.specs.declared.event.Reply.{Reply}
use Rattle.tp_board.specs.declared.event.Reply.TheVariants.{Number, NoMore, Empty, Made, Value}
use Rattle.tp_board.specs.declared.view.Counters.{Counters}
use Rattle.tp_board.specs.declared.view.View.{View}
use Rattle.tp_board.specs.Words.{counters, place_of, word_of, one_more}

-- a kind of step, for a seat of this view, where its word was n
pub record Row : Type 0 where
  -- on which word it is
  pub word : Shown
  -- what the word becomes
  pub change : ℕ → ℕ
  -- what the seat's view becomes
  pub view : View → ℕ → View
  -- the reply of the event, on which the call's answer rests
  pub reply : View → ℕ → Reply

-- ---- what becomes of a view
-- the number n is drawn, and in hand
abbrev pub with_number : View → ℕ → View
with_number v n = record v { steps = v.steps + 1; drawn = v.drawn ++ n ∷ []; hand = v.hand ++ n ∷ [] }

-- it has learnt that all numbers are drawn
abbrev pub with_end : View → View
with_end v = record v { steps = v.steps + 1; ended = v.ended + 1 }

-- one was added to `claimed`, which was n
abbrev pub after_draw : View → ℕ → View
after_draw v n = if ltb n v.packets then with_number v n else with_end v

-- one was added to `done`
abbrev pub after_finish : View → View
after_finish v = record v { steps = v.steps + 1; finished = v.finished ++ v.hand; hand = [] }

-- one was added to `lost`
abbrev pub after_abandon : View → View
after_abandon v = record v { steps = v.steps + 1; abandoned = v.abandoned ++ v.hand; hand = [] }

-- the lowest bit of `stop` was set
abbrev pub after_stop : View → View
after_stop v = record v { steps = v.steps + 1; stop_callers = 1 }

-- a word was loaded, after which these are the values seen
abbrev pub with_seen : View → Counters → View
with_seen v seen = record v { steps = v.steps + 1; seen = seen }

-- the word that `what` names was loaded, and was n
abbrev pub after_look : View → Shown → ℕ → View
after_look v shown.Claimed n = with_seen v (counters n v.seen.done v.seen.lost v.seen.stop)
after_look v shown.Done n = with_seen v (counters v.seen.claimed n v.seen.lost v.seen.stop)
after_look v shown.Lost n = with_seen v (counters v.seen.claimed v.seen.done n v.seen.stop)
after_look v shown.Stop n = with_seen v (counters v.seen.claimed v.seen.done v.seen.lost n)

-- ---- the replies
abbrev pub claim_reply : ℕ → ℕ → Reply
claim_reply packets n = if ltb n packets then Number n else NoMore

abbrev pub hand_reply : List ℕ → Reply
hand_reply [] = Empty
hand_reply (n ∷ ns) = Number n

-- what a look answers for a word that was n: of the claims, the count of numbers drawn
abbrev pub answer_for : Shown → ℕ → ℕ → ℕ
answer_for shown.Claimed packets n = min n packets
answer_for shown.Done packets n = n
answer_for shown.Lost packets n = n
answer_for shown.Stop packets n = n

-- ---- the table
abbrev pub row : Shown → (ℕ → ℕ) → (View → ℕ → View) → (View → ℕ → Reply) → Row
row word change view reply = record { word = word; change = change; view = view; reply = reply }

abbrev pub row_of : Event → Row
row_of Claim = row shown.Claimed one_more after_draw (λ v n. claim_reply v.packets n)
row_of Finish = row shown.Done one_more (λ v n. after_finish v) (λ v n. hand_reply v.hand)
row_of Abandon = row shown.Lost one_more (λ v n. after_abandon v) (λ v n. hand_reply v.hand)
row_of Stop = row shown.Stop (λ n. bit_or n 1) (λ v n. after_stop v) (λ v n. Made)
row_of (Look what) = row what (λ n. n) (λ v n. after_look v what n) (λ v n. Value (answer_for what v.packets n))

-- when a seat with this view may make the step
abbrev pub MayStep : Event → View → Type 0
MayStep Claim v = (v.hand ≡ []) × (v.ended ≡ 0)
MayStep Finish v = (n : ℕ) × (v.hand ≡ n ∷ [])
MayStep Abandon v = (n : ℕ) × (v.hand ≡ n ∷ [])
MayStep Stop v = Unit {0}
MayStep (Look what) v = Unit {0}

-- ---- a step among the words
-- what its word is
abbrev pub word_found : Event → List ℕ → ℕ
word_found event words = word_of (row_of event).word words

-- all words after it
abbrev pub words_after : Event → List ℕ → List ℕ
words_after event words =
    slice_set words (place_of (row_of event).word) ((row_of event).change (word_found event words))
