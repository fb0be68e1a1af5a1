-- What a reader must believe: clauses of public calls cite it.
pub mod Protocol
pub mod InTime
pub mod Served
pub mod Fitness
pub mod Faults
pub use Rattle.tp_board.specs.Limits
pub use Rattle.tp_answers.specs.Sessions
pub use Rattle.tp_answers.specs.Texts
pub use Rattle.tp_answers.specs.Answers
pub use Rattle.tp_answers.specs.Rules
-- What only private steps cite.
pub mod Services
pub mod Points
