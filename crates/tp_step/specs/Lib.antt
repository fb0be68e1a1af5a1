-- What a reader must believe: clauses of public calls cite it.
pub mod Maybe
pub mod Memory
pub mod State
pub mod Effects
pub mod Steps
pub mod Runs
pub mod Lasting
pub mod Writes
pub use Rattle.tp_words.specs.Words
pub use Rattle.tp_words.specs.Numbers
pub use Rattle.tp_decode.specs.Spelling
pub use Rattle.tp_decode.specs.Table
pub use Rattle.tp_image.specs.Image
