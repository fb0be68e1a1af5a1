pub mod CutLemmas
pub mod TableLemmas
pub mod CuttingLemmas
pub mod Verdicts
pub mod DecodingLemmas
pub mod LineLemmas
pub mod NumberLemmas
