pub mod Cut
pub mod Written
pub mod Sizes
pub mod Shared
pub mod Sum
pub mod Alone
