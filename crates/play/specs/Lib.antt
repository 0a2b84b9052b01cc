pub mod Told
pub mod CallLists
pub mod Promise
