-- What a reader must believe: clauses of public calls cite it.
pub mod Places
pub mod Profiles
pub mod Stepping
pub use Rattle.tpw_machine.specs.Meaning
pub use Rattle.tp_step.specs.State
pub use Rattle.tp_step.specs.Steps
pub use Rattle.tp_step.specs.Runs
