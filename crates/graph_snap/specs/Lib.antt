pub mod Edges
pub mod Walks
pub mod Merging
pub mod Batches
pub mod Listing
