pub mod Best
pub mod Main
pub mod Often
pub mod Owned
pub mod Unique
