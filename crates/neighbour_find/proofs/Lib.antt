pub mod Gaps
pub mod Nears
pub mod Places
pub mod Sizes
pub mod Sorts
pub mod Walks
