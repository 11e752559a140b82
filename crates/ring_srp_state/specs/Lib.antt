pub mod Histories
pub mod Users
pub mod Setting
pub mod Copies
pub mod Taking
pub mod Wraps
pub mod Rests
pub mod Packing
