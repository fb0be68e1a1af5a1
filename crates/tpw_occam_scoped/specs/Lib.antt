-- What a reader must believe: what a scoped core means.
pub mod Made
pub mod Meaning
