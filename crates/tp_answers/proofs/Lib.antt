pub mod Texts
pub mod SessionLemmas
pub mod AnswerLemmas
pub mod OutcomeLemmas
