pub mod Heights
pub mod Intervals
pub mod Ends
pub mod Merged
pub mod Numbers
pub mod IntervalMaps
pub mod RightEnds
