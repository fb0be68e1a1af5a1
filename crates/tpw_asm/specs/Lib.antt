-- What a reader must believe: clauses of public calls cite it.
pub mod Layout
pub mod Faults
pub mod Outcome
pub mod Assembly
pub mod CodeLines
pub mod Labelling
