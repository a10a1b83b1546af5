pub mod WordFacts
pub mod ServedFacts
pub mod ServedInput
