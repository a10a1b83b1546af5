pub mod Uncounted
