pub mod Records
pub mod Histories
pub mod Texts
pub mod Determined
