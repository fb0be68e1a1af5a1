-- What a reader must believe: clauses of public calls cite it.
pub mod Endings
pub mod Asked
pub use Rattle.tpw_files.specs.Names
pub use Rattle.tpw_runs.specs.Packets
