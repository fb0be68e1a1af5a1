pub mod Bytes
pub mod Keywords
pub mod Lexemes
pub mod Lines
pub mod Reading
pub mod Symbols
