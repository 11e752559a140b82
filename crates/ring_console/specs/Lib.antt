pub mod OutputLines
pub mod Running
pub mod FrameLines
pub mod Listings
pub mod Worlds
