-- What a reader must believe: clauses of public calls cite it.
pub mod EdgesTaken
pub mod Answer
pub mod Kinds
pub mod CellRules
pub mod Planes
pub mod Conditions
pub mod Sound
pub mod Rules
pub mod After
pub mod Live
pub mod Fits
pub mod GoesOn
pub mod Order
pub mod Entry
pub mod StateCodes
pub use Rattle.tp_flow.specs.Edges
pub use Rattle.tp_flow.specs.AroundKept
pub use Rattle.tp_step.specs.State
pub use Rattle.tp_step.specs.Effects
-- What only private steps cite.
pub mod PlaneJoins
