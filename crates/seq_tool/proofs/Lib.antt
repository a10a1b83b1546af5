pub mod SeqFacts
pub mod Kept
pub mod Runs
