-- Definitions of the chain of visits, re-exported for the proof of the one order.
pub use Rattle.ring_chain_proof.specs.ChainFacts.{NameSameMembers, SafeOutputsAreSafe, OutputsAreHeld, MarksAreSafe}
pub use Rattle.ring_chain_proof.specs.ChainWords.{visits_taken_by, IsRingOf, IsGenuine}
