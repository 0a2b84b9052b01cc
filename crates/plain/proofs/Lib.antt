mod Runs
mod Turns
pub mod Plays
