-- What a reader must believe: clauses of public calls cite it.
pub mod Spelling
pub mod Canonical
pub use Rattle.tp_words.specs.Words
-- What only private steps cite.
pub mod Reading
