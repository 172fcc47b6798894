pub mod OwnBodies
pub mod OwnTree
pub mod Given
pub mod Read
