pub mod InLine
pub mod Inputs
pub mod Numbered
