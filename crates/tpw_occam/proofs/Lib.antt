mod Compiled
pub mod Doing
