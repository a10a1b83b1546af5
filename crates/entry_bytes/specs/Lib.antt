pub mod Adler
pub mod Format
pub mod Faults
pub mod Reads
