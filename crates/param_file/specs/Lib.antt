pub mod Checks
pub mod Known
pub mod Reading
pub mod Rows
pub mod Setting
pub mod Settings
pub mod Writing
