pub mod GraphOutput
pub mod Output
