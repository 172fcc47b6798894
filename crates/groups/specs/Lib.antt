pub mod Chains
pub mod Groups
pub mod Laws
pub mod Spreading
