-- What a reader must believe: what is promised of a text that is compiled, and of one that is not; the laws cite the rest.
pub mod Compilation
pub mod Meanings
pub mod Refusing
pub mod Serving
