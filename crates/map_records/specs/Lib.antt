pub mod How
pub mod MapRecords
