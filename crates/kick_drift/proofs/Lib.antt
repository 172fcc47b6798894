pub mod Axes
pub mod Chosen
pub mod FirstOut
pub mod Moves
pub mod Rising
