-- What a reader must believe: the meaning of a worker.
pub mod Arithmetic
pub mod Arrays
pub mod Environment
pub mod Meaning
pub mod Sound
