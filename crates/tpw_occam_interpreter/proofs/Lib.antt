pub mod ArrayRows
pub mod Growing
