-- EqualityTests: The tests of equality are exact.
-- Quantified: Tests over lists decide facts about their items.
-- FactsByTests: Each fact of virtual synchrony is decided by its test.
-- Ordered: The rings that a core installed, the last one first: their numbers fall, and none is above the running
--   ring or the one that is entered.
-- Keeps: What a move keeps that installs nothing: messages that are found stay found, a ring that was left stays as
--   it is, fronts and marks only rise.
-- LifeAfterStep: The outputs of a step lead from the life that a core's facts make up to the one that they make up
--   after it.
-- LivesOfWorlds: In every world each processor's life is what its core's facts make up, and each of its outputs
--   belongs to the stage in which it comes.
-- TransitionalMembersReported: The processors that come from an old ring: a member whose report names it is a
--   transitional member.
-- KnownReports: Reports are exact, and the known numbers reach no further than the reports of the transitional
--   members.
-- Planned: The plan by which a core goes from one ring to another is one of the core's plans.
-- Recovering: In every world a core in Recovery has a plan, and after each ring change a core holds all that was
--   reported.
-- UserMessages: Lists of delivered messages of a ring: those up to a number, and those of a plan's rest.
-- GoingOn: The processors that go on by a ring change: the members of the new ring whose report names the old one,
--   and that installed none between the two.
-- ThreeFacts: Lives alternate and each processor is a member of its configurations; processors that go on together
--   deliver the same; and each delivers its own messages.
-- Ascending: Delivered messages ascend.
-- AllOfSynchrony: Virtual synchrony, from one more fact: a processor that holds a user message of a ring within its
--   front has installed the ring.
-- Unwrapped: Each installed ring has every member's End in the front; and in Recovery each inner message of the old
--   ring is held.
-- WrappedIsHeld: In Recovery each inner message of the old ring is held.
-- SendsAfterEnd: After its own End in a ring a core sends user messages alone: it sends no second End, and nothing
--   was left to wrap.
-- Ends: Every user message that a core sends, and each front that it reports of a ring, comes after every member's
--   End.
-- OwnPlanReport: In Recovery a core's plan has its own report of the installed ring: its front there is at least the
--   reported one, and it holds all that it reported.
-- WrapsBeforeEnd: Before its End a core has wrapped all that it reported of the old ring above the least front.
-- Order: The facts that a core knows of the messages that it sent and of the Ends that it holds: each move keeps
--   them.
-- Complete: Where every member's End of the running ring is in the front, the core holds every number that a
--   transitional member reported.
-- InstallReadiness: At the end of each step a ring that is ready is installed: in Recovery the step tries it last,
--   and for the other rings nothing changes.
-- InstallMarks: A step that installs a ring raises no safe mark of the ring that it leaves.
-- Installed: In every run a ring that is ready is installed, and a processor that holds a user message within the
--   front has installed the ring.
-- Chains: Lemmas about the chain of visits in runs, re-exported for the proof of the one order.
pub mod EqualityTests
pub mod Quantified
pub mod FactsByTests
pub mod Ordered
pub mod Keeps
pub mod LifeAfterStep
pub mod LivesOfWorlds
pub mod TransitionalMembersReported
pub mod KnownReports
pub mod Planned
pub mod Recovering
pub mod UserMessages
pub mod GoingOn
pub mod ThreeFacts
pub mod Ascending
pub mod AllOfSynchrony
pub mod Unwrapped
pub mod WrappedIsHeld
pub mod SendsAfterEnd
pub mod Ends
pub mod OwnPlanReport
pub mod WrapsBeforeEnd
pub mod Order
pub mod Complete
pub mod InstallReadiness
pub mod InstallMarks
pub mod Installed
pub mod Chains
