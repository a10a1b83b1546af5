pub mod Passing
pub mod Placing
pub mod Reading
pub mod Turns
pub mod Verdicts
