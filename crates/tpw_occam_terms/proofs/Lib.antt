pub mod OrderLemmas
pub mod PlaceLemmas
mod Spelled
