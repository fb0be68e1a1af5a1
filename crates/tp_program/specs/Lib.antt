-- What a reader must believe: clauses of public calls cite it.
pub mod CommandLine
pub mod Program
pub mod Endings
-- What only private steps cite.
pub mod Media
pub mod Asked
