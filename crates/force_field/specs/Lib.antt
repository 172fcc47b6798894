pub mod Around
pub mod Levels
pub mod Pairs
pub mod Grouped
pub mod Shared
pub mod Lists
