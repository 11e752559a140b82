pub mod AnswersTold
pub mod Taken
pub mod Ports
