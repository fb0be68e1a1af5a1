-- What a reader must believe: what is promised of faults and notes.
pub mod Checked
