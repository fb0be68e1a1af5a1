-- What a reader must believe: clauses of public calls cite it.
pub mod Settings
pub mod Losses
pub mod Jobs
pub mod BatchWork
pub mod Refused
pub mod Batches
pub mod Promised
pub use Rattle.tp_outcome.specs.Devices
pub use Rattle.tp_board.specs.Limits
pub use Rattle.tp_collect.specs.Collected
-- What only private steps cite.
pub mod Working
pub mod Stages
pub mod Handled
pub mod Turns
pub mod Members
pub mod Gathering
pub mod Closing
pub mod Feeding
pub mod MemberResults
pub mod Reserved
