-- What a seat knows of its board, its view; several views in one; and what all seats have together.
use Rattle.std.specs.Prelude.{ℕ, ◌+◌, max, List, [], ◌∷◌, ◌++◌, Option, Some, None}
use Rattle.tp_board.specs.declared.view.Counters.{Counters}
use Rattle.tp_board.specs.declared.view.View.{View}
use Rattle.tp_board.specs.Words.{counters}

abbrev pub nothing_seen : Counters
nothing_seen = counters 0 0 0 0

-- one that has made no step: a seat, or several that are still in one
abbrev pub newcomer : ℕ → ℕ → View
newcomer packets parts = record {
  packets = packets;
  parts = parts;
  steps = 0;
  drawn = [];
  finished = [];
  abandoned = [];
  hand = [];
  ended = 0;
  stop_callers = 0;
  seen = nothing_seen;
}

-- the number in a seat's hand
abbrev pub first_of : List ℕ → Option ℕ
first_of [] = None
first_of (n ∷ ns) = Some n

-- ---- of all seats together
-- what each view has of a kind, one after another
abbrev pub concat_of : (View → List ℕ) → List View → List ℕ
concat_of f [] = []
concat_of f (v ∷ vs) = f v ++ concat_of f vs

abbrev pub all_drawn : List View → List ℕ
all_drawn = concat_of (λ v. v.drawn)

abbrev pub all_finished : List View → List ℕ
all_finished = concat_of (λ v. v.finished)

abbrev pub all_abandoned : List View → List ℕ
all_abandoned = concat_of (λ v. v.abandoned)

abbrev pub all_in_hand : List View → List ℕ
all_in_hand = concat_of (λ v. v.hand)

-- ---- several seats in one, for the close
abbrev pub greater_counters : Counters → Counters → Counters
greater_counters s t = counters (max s.claimed t.claimed) (max s.done t.done) (max s.lost t.lost) (max s.stop t.stop)

abbrev pub join_of : View → View → View
join_of v w = record {
  packets = v.packets;
  parts = v.parts + w.parts;
  steps = v.steps + w.steps;
  drawn = v.drawn ++ w.drawn;
  finished = v.finished ++ w.finished;
  abandoned = v.abandoned ++ w.abandoned;
  hand = v.hand ++ w.hand;
  ended = v.ended + w.ended;
  stop_callers = v.stop_callers + w.stop_callers;
  seen = greater_counters v.seen w.seen;
}

-- what a joining leaves of the seat that was taken in
abbrev pub spent_view : View
spent_view = newcomer 0 0
