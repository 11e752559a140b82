pub mod Held
pub mod Bits
pub mod Windows
pub mod Slots
pub mod Messages
pub mod Payloads
pub mod PayloadVariants
