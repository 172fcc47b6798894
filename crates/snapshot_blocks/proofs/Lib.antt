pub mod Existence
pub mod Framing
pub mod Pushes
pub mod ReadBack
