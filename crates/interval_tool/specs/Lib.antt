pub mod IntervalRecords
pub mod Effects
