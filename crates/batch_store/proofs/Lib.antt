pub mod Taking
pub mod Heard
pub mod Sums
pub mod Rounds
pub mod Opened
