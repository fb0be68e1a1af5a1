-- What a seat is shown of a word is never older than what it knows.
use Rattle.std.specs.Prelude.{ℕ, ◌+◌, ◌<◌, ◌≤◌, min, length}
use Rattle.tp_board.specs.declared.event.Shown.{Shown}
use Rattle.tp_board.specs.declared.event.Shown.TheVariants as shown
use Rattle.tp_board.specs.declared.view.View.{View}

-- n is no less than what the view has seen of the word that `what` names, and than what the view's
-- own steps have made of that word
abbrev pub IsFresh : View → Shown → ℕ → Type 0
IsFresh v shown.Claimed n =
    (v.seen.claimed ≤ n)
    × (length v.drawn + v.ended ≤ n)
    × (length v.drawn ≤ min n v.packets)
    × (0 < v.ended → v.packets < n)
IsFresh v shown.Done n = (v.seen.done ≤ n) × (length v.finished ≤ n)
IsFresh v shown.Lost n = (v.seen.lost ≤ n) × (length v.abandoned ≤ n)
IsFresh v shown.Stop n = (v.seen.stop ≤ n) × (min 1 v.stop_callers ≤ n) × (n ≤ 1)
