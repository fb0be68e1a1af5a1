-- What a reader must believe: clauses of public calls cite it.
pub mod Code
pub mod Program
pub mod Blocks
pub mod Symbolic
pub mod Leading
pub mod Flowing
pub mod MatchStates
pub mod Placing
