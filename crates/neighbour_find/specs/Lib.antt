pub mod Around
pub mod Near
pub mod Numbered
