pub mod Columns
pub mod Exact
pub mod Kinds
pub mod Snapshots
pub mod Stored
pub mod Texts
