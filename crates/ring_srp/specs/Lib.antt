pub mod Given
pub mod Inputs
pub mod Stopping
