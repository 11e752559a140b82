pub mod Network
pub mod Answers
