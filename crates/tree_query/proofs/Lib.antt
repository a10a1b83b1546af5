pub mod Blocks
pub mod Costs
pub mod Images
pub mod Nodes
pub mod Ranges
pub mod Sides
pub mod Walks
mod Near
