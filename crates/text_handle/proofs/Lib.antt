pub mod Combined
pub mod Fitting
mod Kind
pub mod Rows
