pub mod SpellingLemmas
pub mod CanonicalLemmas
pub mod Reach
pub mod ReadingLemmas
