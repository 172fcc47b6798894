pub mod Sums
pub mod Joined
pub mod Computed
pub mod Conditions
pub mod Shifted
