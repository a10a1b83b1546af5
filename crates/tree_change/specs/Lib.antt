pub mod Room
pub mod Refreshed
pub mod Ways
pub mod Growths
pub mod Looks
