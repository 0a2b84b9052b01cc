pub mod Exchange
pub mod Join
