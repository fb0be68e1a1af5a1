-- What a reader must believe: clauses of public calls cite it.
pub mod Programs
pub use Rattle.tpw_files.specs.Failures
pub use Rattle.tpw_files.specs.Unread
