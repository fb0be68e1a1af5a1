-- The core that the words and the views of a board stand for.
use Rattle.std.specs.Prelude.{◌≡◌, ℕ, min, nat_eq, List, map}
use Rattle.tp_board.specs.declared.event.Shown.TheVariants as shown
use Rattle.tp_board.specs.declared.view.View.{View}
use Rattle.tp_board.specs.declared.rule.Size.{Size}
use Rattle.tp_board.specs.Counting.{times}
use Rattle.tp_board.specs.CoreState.{CoreState}
use Rattle.tp_board.specs.Views.{first_of, all_finished, all_abandoned}
use Rattle.tp_board.specs.Words.{word_of}

abbrev pub core_of : Size → List ℕ → List View → CoreState
core_of k words views = record {
  packets = k.packets;
  drawn = min (word_of shown.Claimed words) k.packets;
  hands = map (λ v. first_of v.hand) views;
  done = all_finished views;
  lost = all_abandoned views;
  stop = nat_eq (word_of shown.Stop words) 1;
}

-- one core, but for the order of the numbers done, and of those lost
pub record IsSame (s t : CoreState) : Type 0 where
  pub packets : s.packets ≡ t.packets
  pub drawn : s.drawn ≡ t.drawn
  pub hands : s.hands ≡ t.hands
  pub done : (x : ℕ) → times x s.done ≡ times x t.done
  pub lost : (x : ℕ) → times x s.lost ≡ times x t.lost
  pub stop : s.stop ≡ t.stop
