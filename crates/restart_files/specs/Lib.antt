pub mod Differences
pub mod Exact
pub mod RestartFile
pub mod Stored
pub mod Texts
