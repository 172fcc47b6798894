pub mod Leasts
pub mod Ranked
pub mod Counted
pub mod Lowered
