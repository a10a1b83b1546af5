pub mod Running
pub mod Weaving
