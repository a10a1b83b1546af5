pub mod Batches
pub mod Wipes
pub mod Parted
pub mod Changed
pub mod Merges
