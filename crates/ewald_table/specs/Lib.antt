pub mod TableFile
pub mod Mixed
pub mod Turns
