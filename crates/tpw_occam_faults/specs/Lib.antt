-- What a reader must believe: the order of faults and notes.
pub mod Order
