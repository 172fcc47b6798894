pub mod Calls
pub mod Kept
pub mod Laws
pub mod Reading
pub mod Rewinding
pub mod Undoing
