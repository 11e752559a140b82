pub mod Counted
pub mod Counts
