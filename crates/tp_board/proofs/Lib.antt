pub mod Counting
pub mod Runs
pub mod Totals
pub mod Reports
pub mod Steps
pub mod Moves
mod Allowed
mod Hands
pub mod Closing
pub mod Events
pub mod Opening
pub mod Same
pub mod Schedule
