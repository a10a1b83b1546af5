pub mod GraphVerdicts
pub mod Output
