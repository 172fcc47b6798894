pub mod Lists
pub mod Pushes
pub mod Making
pub mod Opened
pub mod Given
mod Masses
mod Small
mod Values
pub mod Judged
pub mod Growth
pub mod Steps
pub mod Unasked
pub mod Few
pub mod Afterwards
pub mod Begins
pub mod Replies
pub mod Sends
pub mod Carried
pub mod Divided
pub mod Work
pub mod Replaced
pub mod Hears
