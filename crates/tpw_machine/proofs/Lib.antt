pub mod BytesLemmas
pub mod MessageLemmas
pub mod ExchangeLemmas
pub mod TurnLemmas
pub mod StartLemmas
pub mod RunLemmas
