pub mod Targets
pub mod Exchanges
pub mod Parts
pub mod Joins
pub mod Pairings
