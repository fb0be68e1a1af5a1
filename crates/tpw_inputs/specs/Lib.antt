-- What a reader must believe: clauses of public calls cite it.
pub mod Meanings
pub mod Refusals
pub use Rattle.tpw_assembly.specs.Programs
pub use Rattle.tpw_files.specs.Failures
pub use Rattle.tpw_files.specs.Unread
