pub mod Telling
pub mod Ordering
