-- What a reader must believe: clauses of public calls cite it.
pub mod Limits
pub mod Counting
pub mod CoreState
pub mod Runs
pub mod Words
pub mod Views
pub mod Rule
pub mod Freshness
pub mod Steps
pub mod CoreOf
pub mod Openings
pub mod Laws
pub mod Schedules
pub mod Faults
pub mod Boards
pub mod Calls
pub mod Ledgers
pub mod Sources
pub use Rattle.atomic_table.specs.Seated
-- What only private steps cite.
pub mod Plays
