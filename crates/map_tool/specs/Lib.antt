pub mod Registers
pub mod Values
pub mod Effects
pub mod Bounds
pub mod Counts
pub mod Greatest
pub mod Runs
