-- What a reader must believe: clauses of public calls cite it.
pub mod Checks
pub use Rattle.tpw_runs.specs.Results
