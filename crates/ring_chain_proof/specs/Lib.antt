pub mod ChainWords
pub mod ChainFacts
