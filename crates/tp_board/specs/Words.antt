-- The four words of a board, by their names and by their places.
use Rattle.std.specs.Prelude.{ℕ, ◌+◌, ◌%◌, ◌^◌, List, [], ◌∷◌, slice_index}
use Rattle.tp_board.specs.declared.event.Shown.{Shown}
use Rattle.tp_board.specs.declared.event.Shown.TheVariants as shown
use Rattle.tp_board.specs.declared.rule.Size.{Size}
use Rattle.tp_board.specs.declared.view.Counters.{Counters}

-- the sizes of a board
abbrev pub size : ℕ → ℕ → Size
size packets members = record { packets = packets; members = members }

abbrev pub counters : ℕ → ℕ → ℕ → ℕ → Counters
counters claimed done lost stop = record { claimed = claimed; done = done; lost = lost; stop = stop }

-- the words, in their places
abbrev pub words_of : Counters → List ℕ
words_of w = w.claimed ∷ w.done ∷ w.lost ∷ w.stop ∷ []

-- the place of each word
abbrev pub place_of : Shown → ℕ
place_of shown.Claimed = 0
place_of shown.Done = 1
place_of shown.Lost = 2
place_of shown.Stop = 3

abbrev pub word_of : Shown → List ℕ → ℕ
word_of what words = slice_index words (place_of what)

-- a word to which one is added, in 64 bits
abbrev pub one_more : ℕ → ℕ
one_more n = (n + 1) % 2 ^ 64
