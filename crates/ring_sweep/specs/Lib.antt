pub mod Copies
pub mod ScriptPositions
pub mod Legal
pub mod SweepResult
pub mod Variants
pub mod VariantTexts
