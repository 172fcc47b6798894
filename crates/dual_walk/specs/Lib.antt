pub mod Places
pub mod Courses
pub mod Steps
pub mod Verdicts
pub mod Gravities
