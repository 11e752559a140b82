pub mod RingFacts
pub mod Discipline
pub mod Settled
pub mod EpochEvents
pub mod Examples
pub mod Views
