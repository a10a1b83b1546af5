pub mod Determined
pub mod GraphDetermined
pub mod Rows
