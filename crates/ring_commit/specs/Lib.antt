pub mod Reports
pub mod Rounds
pub mod Outcomes
pub mod Tokens
