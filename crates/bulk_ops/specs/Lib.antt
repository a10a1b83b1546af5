pub mod Combination
pub mod Costs
pub mod Laws
