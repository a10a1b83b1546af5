pub mod Changed
pub mod Halves
pub mod MergeSteps
pub mod Slices
