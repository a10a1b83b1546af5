pub mod Aheads
pub mod Seats
pub mod Places
pub mod Shares
pub mod Ways
