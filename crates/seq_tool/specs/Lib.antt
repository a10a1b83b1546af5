pub mod SeqRecords
pub mod Registers
pub mod Effects
