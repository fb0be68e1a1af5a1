-- What a reader must believe: where cells and arrays lie, and that a worker does what a scoped core does.
pub mod Placing
pub mod Working
