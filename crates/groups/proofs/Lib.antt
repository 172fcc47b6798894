pub mod Chained
pub mod Classes
pub mod Good
pub mod Lists
pub mod Members
pub mod Nears
pub mod Steps
pub mod Unique
