pub mod Seats
pub mod Root
pub mod Steps
pub mod Answers
pub mod Public
