pub mod MotionLemmas
pub mod RowLemmas
pub mod Least
pub mod Refusals
pub mod OneSet
pub mod StoredRows
