pub mod Ends
pub mod Passing
pub mod Reversed
pub mod Seats
