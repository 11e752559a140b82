-- Consensus: Consensus is of processors that sent exactly the node's sets.
-- JoinCounted: One more counted join.
-- SetMerging: Widening always changes a set.
pub mod Consensus
pub mod JoinCounted
pub mod SetMerging
