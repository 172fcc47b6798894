pub mod Laws
pub mod Links
pub mod Owners
pub mod Ties
