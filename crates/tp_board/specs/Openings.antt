-- A board on which no step was made.
use Rattle.std.specs.Prelude.{◌≡◌, ℕ, ◌<◌, ◌≤◌, List, replicate}
use Rattle.tp_board.specs.declared.view.View.{View}
use Rattle.tp_board.specs.CoreState.{opening_core}
use Rattle.tp_board.specs.CoreOf.{core_of}
use Rattle.tp_board.specs.Limits.{most_packets, most_members}
use Rattle.tp_board.specs.Rule.{KeepsRule}
use Rattle.tp_board.specs.Views.{newcomer, nothing_seen}
use Rattle.tp_board.specs.Words.{size, words_of}

-- the sizes that a board can have
abbrev pub InRange : ℕ → ℕ → Type 0
InRange packets members = (0 < members) × (members ≤ most_members) × (packets ≤ most_packets)

-- its words are 0
abbrev pub opening_words : List ℕ
opening_words = words_of nothing_seen

-- the views of its seats
abbrev pub opening_views : ℕ → ℕ → List View
opening_views packets members = replicate members (newcomer packets 1)

-- with these views the opening words keep the rule, and no other words do; and they stand for the
-- opening farm
pub record Opens (packets members : ℕ) (views : List View) : Type 0 where
  pub rule : KeepsRule (size packets members) opening_words views
  pub only : (words : List ℕ) → KeepsRule (size packets members) words views → words ≡ opening_words
  pub core_state : core_of (size packets members) opening_words views ≡ opening_core packets members

-- a board of any sizes in range opens so
abbrev pub OpeningLaw : Type 0
OpeningLaw = (packets members : ℕ) → InRange packets members → Opens packets members (opening_views packets members)
