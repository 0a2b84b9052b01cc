pub mod Seating
pub mod RowReads
