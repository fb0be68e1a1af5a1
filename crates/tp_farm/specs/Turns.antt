-- A member between two packets.
use Rattle.std.specs.Prelude.{◌≡◌, ◌+◌, false, [], length, None}
use Rattle.tp_board.specs.Sources.{Progress}

-- a hand that has done nothing
abbrev pub no_progress : Progress
no_progress = record {
  taken = [];
  finished = [];
  abandoned = [];
  in_hand = None;
  ended = false;
  stop_seen = false;
  stop_called = false;
}

-- a member takes packets while it has none in hand and has not stopped its source
pub record MayTake (p : Progress) : Type 0 where
  pub in_hand : p.in_hand ≡ None
  pub stop_called : p.stop_called ≡ false

-- it has taken one packet more
pub record HasTaken (p q : Progress) : Type 0 where
  pub may : MayTake q
  pub one : length q.taken ≡ length p.taken + 1

-- it has put down what it had in hand
pub record HasPutDown (p q : Progress) : Type 0 where
  pub in_hand : q.in_hand ≡ None
  pub stop_called : q.stop_called ≡ p.stop_called
  pub taken : q.taken ≡ p.taken
