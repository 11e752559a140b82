pub mod Callers
pub mod Arguments
