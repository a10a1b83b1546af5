pub mod Sums
pub mod Numbers
pub mod Codes
pub mod Begun
pub mod Encodings
pub mod SoFar
