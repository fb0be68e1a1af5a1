-- What a reader must believe: clauses of public calls cite it.
pub mod Devices
pub mod Answers
pub use Rattle.tp_step.specs.State
pub use Rattle.tp_step.specs.Steps
pub use Rattle.tp_step.specs.Runs
pub use Rattle.tp_image.specs.Image
pub use Rattle.tp_link.specs.Device
-- What only private steps cite.
pub mod Quiet
