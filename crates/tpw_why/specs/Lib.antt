-- What a reader must believe: clauses of public calls cite it.
pub mod FirstRefusals
pub mod ByAddress
pub mod Verdicts
pub use Rattle.tp_check.specs.Passes
pub use Rattle.tp_state.specs.After
pub use Rattle.tp_check.specs.Tables
