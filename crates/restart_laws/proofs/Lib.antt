pub mod Bodies
pub mod Resting
pub mod Sessions
pub mod Laws
