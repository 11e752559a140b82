-- InLists: Membership in a list of facts, and properties of all its items.
-- Agreeing: A join that counts as agreement has exactly the core's sets, and so have all counted joins.
-- Guards: The tests that a transition has passed.
-- Causes: The input that each transition is about.
-- WrapsAndEnd: The payloads of a core in Recovery: the Wrapped of the old ring's messages, ascending, and after the
--   last of them one End.
-- StepsAreMoves: Each step of the definition is a list of moves: the transition is one, a proposal after it another,
--   and an installation the last.
-- KeptByMoves: A property that each move keeps holds for each core after all inputs, and for each core of every
--   world.
-- Lifting: A property of all cores and all frames sent that each move of one core keeps holds in every world after
--   all events.
-- Rises: The numbers of the rings that a core takes part in strictly rise.
-- WithinWindow: After any inputs a safe mark is at most its front, and all that is held lies within the window after
--   its mark.
-- Agrees: Each join that a core has counted has exactly its sets.
-- VisitsByRules: Each visit of a core follows the rules, and its front has only grown since.
-- Fresh: The new messages of each visit: in Operational those made of a queue, in Recovery the Wrapped and the End.
-- Ended: In Recovery, once a core has sent its End, nothing is left to wrap: each message of the old ring that it
--   takes from then on comes as the inner message of a Wrapped.
-- Rounds: The member at its position takes a commit token, in the second round with a report that it would write
--   again.
-- LawsInWorlds: The laws of one core, for each core of every world.
-- OwnRings: A core's rings, its installed rings, and its state.
-- OwnMessages: The messages that a core holds: numbers begin at 1, a number of a ring is held with one message, and
--   what is held stays held.
-- OwnFacts: Each fact of a core is of a ring that it takes part in; it has no fact of a ring above all of these.
-- OwnReports: The entry that a core would report is exact, and its reports stay true.
-- LeftRings: The facts of a ring that a core has left stay as they are, and no fact of the installed ring is added
--   between the report of it and the plan.
-- MembersOfRings: The members of each ring are processors of the group, and a processor outside the group never
--   visits a token.
-- OwnEverywhere: All local facts, of one core after any inputs and of each core of every world: each move keeps them.
-- SetLimits: Sets and joins: a processor is always in its `proc_set` and never in its `fail_set`, so its joins keep
--   the limits.
-- ReportLimits: The entry that a core reports of its last installed ring keeps the limits, by its marks, its window
--   and each message held.
-- CommitLimits: The commit tokens that a core sends keep the limits: a proposal, a token with its own entry added,
--   and a full token.
-- TokenLimits: A token that a visit forwards keeps the limits: its numbers by the tests and the room of the visit,
--   its requests by how they are merged.
-- MessageLimits: The messages that a core sends, repeats and takes keep the limits: each carries a queued payload, or
--   wraps a held message of an older ring.
-- TransitionLimits: Each transition of a core keeps the limits, where the frame that arrived keeps them; so do a
--   proposal, an installation, and a step.
-- RunLimits: Every frame ever sent keeps the limits, and every core does: from both openings, after all events whose
--   payloads keep them.
pub mod InLists
pub mod Agreeing
pub mod Guards
pub mod Causes
pub mod WrapsAndEnd
pub mod StepsAreMoves
pub mod KeptByMoves
pub mod Lifting
pub mod Rises
pub mod WithinWindow
pub mod Agrees
pub mod VisitsByRules
pub mod Fresh
pub mod Ended
pub mod Rounds
pub mod LawsInWorlds
pub mod OwnRings
pub mod OwnMessages
pub mod OwnFacts
pub mod OwnReports
pub mod LeftRings
pub mod MembersOfRings
pub mod OwnEverywhere
pub mod SetLimits
pub mod ReportLimits
pub mod CommitLimits
pub mod TokenLimits
pub mod MessageLimits
pub mod TransitionLimits
pub mod RunLimits
