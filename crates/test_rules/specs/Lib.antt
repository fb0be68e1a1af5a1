pub mod Samples
pub mod Unsound
