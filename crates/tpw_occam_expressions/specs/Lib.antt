-- Clauses of calls cite these.
pub mod Ranges
pub mod Values
pub mod Agreement
pub mod Computing
