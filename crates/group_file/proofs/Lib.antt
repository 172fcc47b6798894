pub mod Faults
pub mod Lists
pub mod RoundTrip
pub mod Sound
pub mod Steps
pub mod Twice
