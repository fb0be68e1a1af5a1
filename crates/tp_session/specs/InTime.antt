-- What is promised of each result that is written.
use Rattle.std.specs.Prelude.{ℕ, ◌≤◌, List, Option, IfSome}
use Rattle.tp_image.specs.Image.{ImageValue}
use Rattle.tp_accept.specs.Ending.{IsPacket, EndsWithin}
use Rattle.tp_answers.specs.Results.{RunResult}
use Rattle.tp_answers.specs.Answers.{Accepts}
use Rattle.tp_answers.specs.Rules.{IsVerdict, IsOutcome}

-- YES states this budget for the text of the image
abbrev pub IsBudgetOf : ImageValue → ℕ → Type 0
IsBudgetOf image budget = (text : List ℕ) × IsVerdict text (Accepts image budget)

-- the outcome of a packet, which is one of its image: its run alone ends within the budget that YES stated for its image, and no state on its way
-- is stuck
pub record IsOutcomeInTime (image : ImageValue) (packet : List ℕ) (outcome : Option RunResult) : Type 0 where
  pub is : IsOutcome image packet outcome
  pub whole : IsPacket image packet
  pub budget : ℕ
  pub is_stated : IsBudgetOf image budget
  pub ends : EndsWithin image budget packet
  pub steps : IfSome outcome (λ run. run.steps ≤ budget)
