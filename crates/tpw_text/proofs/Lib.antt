pub mod Tokens
pub mod Digits
pub mod Folds
pub mod Programs
mod Apart
mod Additions
mod Finished
mod Trimmed
pub mod Written
