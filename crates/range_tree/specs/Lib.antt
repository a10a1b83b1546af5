pub mod Places
pub mod Rows
pub mod Points
pub mod Totals
pub mod Listings
pub mod Costs
