pub mod Selections
pub mod WrittenFrames
pub mod NodeViews
pub mod NodeReasons
pub mod Restoring
