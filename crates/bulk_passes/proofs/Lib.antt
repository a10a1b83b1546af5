pub mod Filtered
mod Halves
pub mod Planted
