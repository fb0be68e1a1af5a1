-- What a reader must believe: clauses of public calls cite it.
pub mod Table
pub mod Cutting
pub mod Lines
pub mod Front
pub mod Listings
pub mod Codes
pub use Rattle.tp_words.specs.Words
pub use Rattle.tp_prefix.specs.Spelling
pub use Rattle.tp_prefix.specs.Canonical
