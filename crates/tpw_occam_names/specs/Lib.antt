-- What a reader must believe: which names a scope stands for.
pub mod Scopes
