pub mod Lawful
pub mod Commands
