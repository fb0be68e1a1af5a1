-- Where the bytes of an image that may be run go: the budget, the cost of each loop, and costs by
-- address.
use Rattle.std.specs.Prelude.{◌≡◌, ℕ, ◌<◌, List, length, map, get_or, slice_get, Option, Some, None}
use Rattle.std.specs.Option.{option_map}
use Rattle.tp_image.specs.Image.{ImageValue}
use Rattle.tp_image.specs.declared.image.LoopRow.{LoopRow}
use Rattle.tp_decode.specs.Cutting.{Cut, cut_at, IsCutting}
use Rattle.tp_accept.specs.Bound.{bound, costs_of}
use Rattle.tp_accept.specs.Capped.{capped, counted}
use Rattle.tp_accept.specs.declared.counting.Counted.{Counted}
use Rattle.tpw_why.specs.declared.costs.LoopCost.{LoopCost}
use Rattle.tpw_why.specs.declared.costs.Costs.{Costs}

-- the cost of the instruction that begins at an address; none where none does
abbrev pub cost_at : List LoopRow → List Cut → ℕ → Option Counted
cost_at rows code at = option_map (λ cut. counted (costs_of rows code at)) (cut_at code at)

-- for each byte of a code
pub record AreByAddress (rows : List LoopRow) (code : List Cut) (bytes : ℕ)
    (items : List (Option Counted)) : Type 0 where
  pub long : length items ≡ bytes
  pub each : (at : ℕ) → at < bytes → get_or items at None ≡ cost_at rows code at

-- a turn of a loop is what is left at its head
abbrev pub loop_cost : List LoopRow → List Cut → LoopRow → LoopCost
loop_cost rows code row =
    record { head = row.head; lend = row.lend; turns = row.count; turn = capped (costs_of rows code row.head).left }

-- the costs of an image
pub record AreCostsOf (image : ImageValue) (costs : Costs) : Type 0 where
  pub cuts : List Cut
  pub cutting : IsCutting image.code cuts
  pub budget : costs.budget ≡ bound image.loops cuts
  pub loops : costs.loops.items ≡ map (loop_cost image.loops cuts) image.loops
  pub by_address : AreByAddress image.loops cuts (length image.code) costs.by_address.items

-- the budget is what can be executed from the first instruction on
pub record BeginsWithBudget (costs : Costs) : Type 0 where
  pub first : Counted
  pub begins : slice_get costs.by_address.items 0 ≡ Some (Some first)
  pub whole : first.whole ≡ costs.budget
