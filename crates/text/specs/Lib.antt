pub mod Classes
pub mod Refusals
pub mod Tokens
pub mod Forms
pub mod Lines
pub mod Reading
