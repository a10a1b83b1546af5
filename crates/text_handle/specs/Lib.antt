pub mod Keys
pub mod Folds
pub mod Hows
pub mod Places
pub mod Rows
pub mod Statuses
