pub mod Samples
pub mod Trials
pub mod Rows
pub mod Table
