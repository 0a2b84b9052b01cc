pub mod Below
pub mod Rounds
pub mod Ruled
