-- What a reader must believe: clauses of public calls cite it.
pub mod Answers
pub mod Phases
pub mod Meaning
pub mod Resuming
pub use Rattle.tp_step.specs.State
pub use Rattle.tp_step.specs.Steps
pub use Rattle.tp_step.specs.Runs
pub use Rattle.tp_image.specs.Image
pub use Rattle.tp_link.specs.Device
pub use Rattle.tp_outcome.specs.Devices
