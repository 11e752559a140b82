pub mod Folds
pub mod Shares
pub mod Waits
