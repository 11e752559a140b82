pub mod Bytes
pub mod StatelessObject
pub mod Operations
pub mod ShortBytes
pub mod Sized
pub mod Snapshots
