pub mod Finding
pub mod Rows
