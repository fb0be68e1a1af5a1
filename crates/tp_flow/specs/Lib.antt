-- What a reader must believe: clauses of public calls cite it.
pub mod Limits
pub mod NestRanges
pub mod Edges
pub mod RowRules
pub mod JumpRules
pub mod FlowFaults
pub mod NestKept
pub mod FlowCodes
pub mod NestAround
pub mod LoopsAround
pub mod AroundKept
pub use Rattle.tp_decode.specs.Cutting
pub use Rattle.tp_image.specs.Image
-- What only private steps cite.
pub mod Stretches
