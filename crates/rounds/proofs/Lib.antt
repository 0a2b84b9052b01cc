pub mod Belows
pub mod Taking
pub mod Levels
pub mod Ranks
pub mod Right
pub mod Counted
pub mod Rules
