pub mod Replications
pub mod InputVariants
pub mod NodeSpec
