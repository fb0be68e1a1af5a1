-- What a reader must believe: clauses of public calls cite it.
pub mod Names
pub mod Faults
pub mod Numbers
pub mod Words
pub mod Limits
pub mod Drafts
pub mod Fields
pub mod Statements
pub mod Keywords
pub mod Grammar
pub mod Meaning
pub mod Programs
pub mod Apart
pub mod Texts
pub mod Written
pub use Rattle.tp_decode.specs.Table
