pub mod Ahead
pub mod Apart
pub mod Ends
pub mod InTurn
pub mod Nearest
