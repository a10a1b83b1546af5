pub mod Combined
mod Counted
pub mod Found
mod Kind
pub mod Laying
mod Summed
