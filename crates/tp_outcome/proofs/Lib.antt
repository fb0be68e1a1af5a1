pub mod DeviceLemmas
pub mod StartLemmas
pub mod Receiving
pub mod Alone
