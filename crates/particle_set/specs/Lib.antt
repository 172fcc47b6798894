pub mod Lent
pub mod Motions
pub mod Rows
pub mod Stored
