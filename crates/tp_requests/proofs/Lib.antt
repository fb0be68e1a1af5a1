pub mod Parting
pub mod SpellingLemmas
pub mod ProtocolLemmas
pub mod LineLemmas
