pub mod Components
pub mod Forests
