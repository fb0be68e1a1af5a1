-- What a reader must believe: clauses of public calls cite it.
pub mod Lines
pub mod Parts
pub mod Fields
pub mod Spelling
pub mod Requests
pub mod Protocol
-- What only private steps cite.
pub mod Reading
