pub mod DriverLimits
pub mod Firsts
pub mod Steps
