pub mod Fewer
pub mod Noted
