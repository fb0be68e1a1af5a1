-- What a reader must believe: which state a memory holds.
pub mod Memories
pub mod Workers
