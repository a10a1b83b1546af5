pub mod GraphRecords
pub mod Effects
