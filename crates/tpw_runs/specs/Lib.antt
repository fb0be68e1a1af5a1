-- What a reader must believe: clauses of public calls cite it.
pub mod Packets
pub mod Lines
pub mod Tallies
pub mod Shown
pub mod Reports
pub mod Results
