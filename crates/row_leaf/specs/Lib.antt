pub mod Code
pub mod CodeLaws
