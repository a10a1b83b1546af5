pub mod Bounds
pub mod Combinations
pub mod Levels
pub mod NodeSides
pub mod OneEntry
