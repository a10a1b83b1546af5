pub mod Journal
pub mod Keeping
pub mod Calling
pub mod Hearing
pub mod Round
