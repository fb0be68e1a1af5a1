-- What a reader must believe: the clauses of `compile` cite it.
pub use Rattle.tpw_occam_symbolic.specs.Program
-- Clauses of calls within the crate cite these.
pub mod Executing
pub mod Moving
pub mod Sending
pub mod Assigning
pub mod Starting
pub mod Ordering
pub mod Registers
