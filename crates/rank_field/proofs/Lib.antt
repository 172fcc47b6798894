mod Divided
mod Forced
mod Gathered
mod Picking
pub mod Passed
pub mod Travelling
pub mod Handing
pub mod Beginning
pub mod Held
pub mod Next
pub mod Coming
pub mod Readiness
