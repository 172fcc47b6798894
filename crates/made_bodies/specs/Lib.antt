pub mod Draws
pub mod Drawn
pub mod Settings
pub mod Made
