pub mod Netted
