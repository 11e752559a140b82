pub mod Replicas
pub mod Marks
pub mod Replications
pub mod Sessions
pub mod NodeSpec
pub mod InputVariants
