pub mod Arrays
pub mod Bytes
pub mod Folds
pub mod Hows
pub mod Keys
