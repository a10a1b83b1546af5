pub mod Joined
pub mod Merged
pub mod Sets
pub mod Ends
pub mod Trees
pub mod Spans
pub mod Labels
pub mod Walks
