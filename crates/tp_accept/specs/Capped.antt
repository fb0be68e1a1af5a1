-- Costs as they are counted: no further than a number of 64 bits goes.
use Rattle.std.specs.Prelude.{◌≡◌, ℕ, ◌-◌, ◌^◌, ◌≤◌, min, List, length, get_or, All}
use Rattle.tp_image.specs.declared.image.LoopRow.{LoopRow}
use Rattle.tp_decode.specs.Cutting.{Cut, code_of}
use Rattle.tp_accept.specs.declared.counting.Counted.{Counted}
use Rattle.tp_accept.specs.Bound.{Cost, Costs, costs_of}

-- the greatest number of 64 bits
abbrev pub cap : ℕ
cap = 2 ^ 64 - 1

abbrev pub capped : ℕ → ℕ
capped n = min n cap

abbrev pub counted : Cost → Counted
counted cost = record { left = capped cost.left; whole = capped cost.whole }

abbrev pub uncounted : Counted
uncounted = record { left = 0; whole = 0 }

-- a list that has what was counted for the addresses from 0 on
abbrev pub counted_at : List Counted → ℕ → Counted
counted_at items to = get_or items to uncounted

abbrev pub table : List Counted → Costs
table items = λ to. record { left = (counted_at items to).left; whole = (counted_at items to).whole }

pub record IsCapped (cost : Counted) : Type 0 where
  pub left : cost.left ≤ cap
  pub whole : cost.whole ≤ cap

abbrev pub AreCapped : List Counted → Type 0
AreCapped items = All IsCapped items

-- what was counted for each byte of a code: the cost of the instruction that begins there, or nothing
pub record AreCounted (rows : List LoopRow) (code : List Cut) (items : List Counted) : Type 0 where
  pub long : length items ≡ length (code_of code)
  pub each : (at : ℕ) → counted_at items at ≡ counted (costs_of rows code at)
