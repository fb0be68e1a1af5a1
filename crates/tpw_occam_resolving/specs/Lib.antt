-- What a reader must believe: how parameters begin, which place one is another name for, and what stands behind
-- declarations.
pub mod Behind
pub mod Cases
pub mod Passing
