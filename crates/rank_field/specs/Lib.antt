pub mod Machines
pub mod Fields
