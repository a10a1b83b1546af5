pub mod Keeps
pub mod Notes
pub mod Turns
pub mod Claims
pub mod Publishing
pub mod Listening
pub mod Starts
pub mod Copies
