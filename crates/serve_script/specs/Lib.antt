pub mod Words
pub mod WordLaws
pub mod Serve
pub mod ServeLaws
pub mod Gserve
pub mod Served
