-- What lasts along steps.
use Rattle.std.specs.Prelude.{◌≡◌, ℕ, ◌≤◌, true, List, ◌++◌}
use Rattle.tp_step.specs.State.{State}

-- these bytes come first, with others behind them or none
pub record Begins (first all : List ℕ) : Type 0 where
  pub rest : List ℕ
  pub is : all ≡ first ++ rest

-- these bytes come last, with others before them or none
pub record Ends (last all : List ℕ) : Type 0 where
  pub taken : List ℕ
  pub is : all ≡ taken ++ last

-- Nothing is taken back: the error flag stays set once it is set; what was sent on either link stays, and more comes
-- behind it; bytes are taken from the front of those to come alone; and the worker goes from phase to phase.
pub record TakesNothingBack (before after : State) : Type 0 where
  pub flag : before.error ≡ true → after.error ≡ true
  pub sent : Begins before.sent after.sent
  pub traced : Begins before.traced after.traced
  pub to_come : Ends after.to_come before.to_come
  pub phase : before.phase ≤ after.phase
