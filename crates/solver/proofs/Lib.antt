pub mod Scans
pub mod Stages
pub mod Choosing
pub mod Colouring
