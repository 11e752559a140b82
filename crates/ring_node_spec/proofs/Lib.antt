-- QueuedSends: Payloads handed to a core with no installation due change only its queue.
-- Linear: The events after which an order still explains a history: more calls at its end, an issued call, a right reply.
-- Orders: A run whose steps keep the rules has one order, which only grows and explains the run's history at each moment.
-- FirstMatch: The first element that passes a test, and the elements that a prefix of a list keeps.
-- NodeChanges: If a node commits nothing, the longest list of calls is unchanged; a stopped node is unchanged by another stop.
-- EpochsAfterOutputs: A life after two lists of outputs: the life after the second, applied to the life after the first.
pub mod QueuedSends
pub mod Linear
pub mod Orders
pub mod FirstMatch
pub mod NodeChanges
pub mod EpochsAfterOutputs
