pub mod Sums
pub mod Parts
mod Nodes
mod Beside
mod Owned
mod Changed
