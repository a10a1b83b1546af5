pub mod Answers
pub mod Examples
pub mod Matched
pub mod Place
pub mod Rows
pub mod SampleFacts
pub mod Sums
pub mod ToolRows
