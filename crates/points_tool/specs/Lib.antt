pub mod Weighed
pub mod PointsRecords
pub mod Effects
