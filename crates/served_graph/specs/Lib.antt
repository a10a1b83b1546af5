pub mod Steps
pub mod Nets
