-- SafeMark: The safe mark: what determines it, and that a further visit or raise lowers none.
-- Arus: The effect of one visit on the token's `aru`.
-- Safe: The safe lemma: every front reaches an `aru` that a visit forwarded and a whole round did not lower.
-- VisitNumbers: The three numbers that the code keeps of a member's visits represent all that is computed from them.
-- Merging: The smallest numbers of two lists, of which the first ascends, one after another.
-- Numbered: The new messages of a visit have successive numbers; there are as many as payloads, and each is of the visit's
-- ring.
-- Packing: The messages of a queue, re-exported for the ring core.
pub mod SafeMark
pub mod Arus
pub mod Safe
pub mod VisitNumbers
pub mod Merging
pub mod Numbered
pub mod Packing
