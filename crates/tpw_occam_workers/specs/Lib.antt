-- What a reader must believe: what stands behind declarations.
pub mod Behind
