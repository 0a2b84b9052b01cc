pub mod Faults
pub mod Lists
pub mod Numbers
pub mod Sides
pub mod Tally
