pub mod Periods
pub mod Timers
pub mod TimerEvents
pub mod TimerExamples
