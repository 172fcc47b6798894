pub mod Trees
pub mod Slots
pub mod Order
pub mod Sums
pub mod Laws
