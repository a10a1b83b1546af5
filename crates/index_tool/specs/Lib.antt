pub mod Terms
pub mod IndexRecords
pub mod Effects
