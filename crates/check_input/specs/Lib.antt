pub mod RunLine
pub mod Input
