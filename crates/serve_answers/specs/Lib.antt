pub mod GraphAnswering
pub mod GraphInLine
pub mod MapAnswering
pub mod MapInLine
