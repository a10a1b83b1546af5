pub mod Leb
pub mod LebLaws
pub mod Code
pub mod CodeLaws
pub mod SeekLaws
