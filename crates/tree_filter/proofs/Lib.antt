pub mod Firsts
mod FoldTests
pub mod Walks
