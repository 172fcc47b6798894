pub mod ExpansionFile
pub mod Columns
