-- What a reader must believe: clauses of public calls cite it.
pub mod DoneValue
pub mod View
pub mod Faults
pub mod Collected
pub mod Collecting
pub use Rattle.tp_step.specs.Runs
pub use Rattle.tp_image.specs.Image
