pub mod Clocks
pub mod StepOutcomes
