pub mod WeighedFacts
mod Waiting
