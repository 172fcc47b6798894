pub mod Drawing
pub mod Joins
pub mod Sets
pub mod Writes
