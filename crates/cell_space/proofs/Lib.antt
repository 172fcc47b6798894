pub mod Cells
pub mod Orders
pub mod Nested
pub mod Parts
pub mod Halves
