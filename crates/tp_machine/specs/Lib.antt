-- What a reader must believe: clauses of public calls cite it.
pub mod Promise
pub mod Representation
pub use Rattle.tp_step.specs.State
pub use Rattle.tp_step.specs.Steps
pub use Rattle.tp_step.specs.Runs
pub use Rattle.tp_image.specs.Image
pub use Rattle.tp_link.specs.Device
pub use Rattle.tp_outcome.specs.Devices
pub use Rattle.tp_outcome.specs.Answers
pub use Rattle.tp_accept.specs.Ending
-- What only private steps cite.
pub mod Running
pub mod Bytes
pub mod Turning
