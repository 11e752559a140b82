pub mod CodeTransitions
pub mod RunningCores
pub mod Allowing
pub mod Passing
pub mod Learns
pub mod Installs
pub mod Sending
