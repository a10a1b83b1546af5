pub mod Arrays
pub mod Changes
pub mod Slots
pub mod Statuses
