pub mod Cuts
pub mod LeafLists
pub mod Shape
pub mod Top
pub mod Look
pub mod Clamped
pub mod Lawful
