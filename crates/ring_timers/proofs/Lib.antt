pub mod Durations
pub mod Beginnings
pub mod TakenOnce
pub mod NextTimes
