pub mod MapFacts
pub mod RegisterLow
