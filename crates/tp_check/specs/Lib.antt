-- What a reader must believe: clauses of public calls cite it.
pub mod Tables
pub mod EdgesRespect
pub mod Passes
pub mod Arrivals
pub mod Carried
pub mod StatesThere
pub use Rattle.tp_state.specs.After
pub use Rattle.tp_state.specs.Order
pub use Rattle.tp_state.specs.Entry
pub use Rattle.tp_flow.specs.NestKept
-- What only private steps cite.
pub mod UnderWay
pub mod Steps
pub mod Rising
pub mod Joining
