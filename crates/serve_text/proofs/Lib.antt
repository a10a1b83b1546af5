pub mod Orders
pub mod Growing
pub mod Merging
pub mod Decimals
pub mod Keys
pub mod Determined
pub mod Extending
