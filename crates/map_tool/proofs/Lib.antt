pub mod Counting
pub mod Greatest
pub mod Kept
pub mod Overlaps
pub mod Rows
