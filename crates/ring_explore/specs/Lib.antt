pub mod Explored
pub mod Tried
