pub mod Failures
pub mod WriterSlots
pub mod Texts
pub mod Shares
pub mod Progress
