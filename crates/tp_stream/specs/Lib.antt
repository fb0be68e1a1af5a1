-- What a reader must believe: clauses of public calls cite it.
pub mod Queues
pub mod Tallies
pub mod Streams
pub mod Stages
pub mod StreamRuns
pub use Rattle.tp_board.specs.Limits
pub use Rattle.tp_board.specs.Counting
pub use Rattle.tp_board.specs.Views
pub use Rattle.tp_board.specs.Freshness
pub use Rattle.tp_board.specs.Steps
pub use Rattle.tp_board.specs.Boards
pub use Rattle.tp_board.specs.Openings
pub use Rattle.tp_board.specs.Calls
pub use Rattle.tp_board.specs.Ledgers
pub use Rattle.tp_board.specs.Sources
pub use Rattle.atomic_table.specs.Seated
