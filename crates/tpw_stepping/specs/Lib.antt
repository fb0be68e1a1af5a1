-- What a reader must believe: clauses of public calls cite it.
pub mod Places
pub mod Runs
pub use Rattle.tp_image.specs.Text
pub use Rattle.tpw_step.specs.Profiles
