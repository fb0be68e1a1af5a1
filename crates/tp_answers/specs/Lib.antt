-- What a reader must believe: clauses of public calls cite it.
pub mod Sessions
pub mod Results
pub mod Answers
pub mod Texts
pub mod Rules
pub mod Outcomes
pub mod OpenSessions
pub mod Lending
pub use Rattle.tp_requests.specs.Lines
pub use Rattle.tp_requests.specs.Fields
pub use Rattle.tp_requests.specs.Requests
pub use Rattle.tp_decode.specs.Cutting
pub use Rattle.tp_decode.specs.Lines as ListingLines
pub use Rattle.tp_step.specs.Runs
pub use Rattle.tp_accept.specs.Verdict
