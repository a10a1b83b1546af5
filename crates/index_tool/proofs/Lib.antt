pub mod TermFacts
pub mod IndexFacts
pub mod Waiting
