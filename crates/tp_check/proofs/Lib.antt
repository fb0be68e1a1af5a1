pub mod PassLemmas
pub mod Heights
pub mod TableSteps
pub mod Places
mod Loading
mod Entering
mod Taking
mod Moving
pub mod Passing
pub mod Ending
pub mod Least
mod Lone
mod Trails
mod Carrying
pub mod Nests
mod CarriedPasses
mod Staying
pub mod Respected
mod Settling
mod Waiting
mod Again
mod Stepping
mod Turning
mod HandedOn
mod Two
mod Verdict
mod Counting
mod Keeping
