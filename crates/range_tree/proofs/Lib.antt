mod Counts
mod Few
mod Sums
mod Kept
mod Inside
mod Listed
pub mod Crosses
