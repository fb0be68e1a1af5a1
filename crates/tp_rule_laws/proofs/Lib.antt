-- What all rules share: answers that follow others, ranges, registers, words, states.
pub mod Follows
pub mod Ranges
pub mod Asked
pub mod Cells
pub mod States
pub mod Ordered
pub mod SoundStates
-- The rules by groups: of each instruction, that its rule keeps the order and that it keeps states sound.
pub mod Constants
pub mod ArithmeticOrder
pub mod ArithmeticSound
pub mod Arithmetic
pub mod Pointers
pub mod Control
pub mod Loops
pub mod Moves
-- All rules, entering and joins.
pub mod Rules
pub mod SoundJoins
