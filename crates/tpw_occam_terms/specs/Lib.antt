pub mod Places
pub mod Spelling
