-- Images that may be run.
use Rattle.std.specs.Prelude.{◌≡◌, ℕ, ◌≤◌, List}
use Rattle.tp_image.specs.Image.{ImageValue, InRange}
use Rattle.tp_decode.specs.Cutting.{Cut, IsCutting}
use Rattle.tp_flow.specs.NestKept.{KeepsNest}
use Rattle.tp_check.specs.Tables.{Table}
use Rattle.tp_check.specs.EdgesRespect.{EveryEdgeRespects}
use Rattle.tp_accept.specs.Limits.{most_budget}
use Rattle.tp_accept.specs.Bound.{bound}

-- An image is acceptable, with a budget: its code is cut into instructions, no rule of flow is broken, every edge
-- respects some table, and the budget is the bound and within the limit.
pub record IsAcceptable (image : ImageValue) (budget : ℕ) : Type 0 where
  pub in_range : InRange image
  pub cuts : List Cut
  pub cutting : IsCutting image.code cuts
  pub kept : KeepsNest image.loops image.workspace cuts
  pub table : Table
  pub respected : EveryEdgeRespects image cuts table
  pub bounded : budget ≡ bound image.loops cuts
  pub within : budget ≤ most_budget
