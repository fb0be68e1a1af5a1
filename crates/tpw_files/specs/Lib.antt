-- What a reader must believe: clauses of public calls cite it.
pub mod Positions
pub mod Texts
pub mod Failures
pub mod Unread
pub mod Names
pub mod Outcomes
