-- Finishing: Two members that come from one old ring make the same plan, and then deliver the same messages.
-- NumbersPassing: Consecutive numbers that pass a test, and bits that say which of them do.
-- Gaps: The gap from the bits of the known numbers: it is the number of the first clear bit, or lies past the last
--   one.
-- Planning: A plan as it is made of a commit token, and what the code keeps of it as messages of the new ring are
--   seen.
-- TransitionalMembersCollected: The transitional members, collected member by member.
-- HandedNext: The next number to wrap, number by number; and what is left of the payloads of a node in Recovery once
--   the first of them is seen.
-- EndsCounted: One more of a new ring's messages is counted: the members whose Ends are seen, the last End, and
--   whether there is a user message.
-- MessagesInFront: The messages of a new ring in the front, as the front rises.
-- AllRings: A node keeps the messages of all rings in one list, a window those of one ring.
-- RecoverySends: The payloads of a node in Recovery: the first wraps the number that `to_wrap` returns, and once that
--   Wrapped is seen, the others are left.
-- Commits: Lemmas about the reports of commit tokens, re-exported for the ring core.
-- Windows: Lemmas about what a window holds, and about its bits, re-exported for the ring core.
pub mod Finishing
pub mod NumbersPassing
pub mod Gaps
pub mod Planning
pub mod TransitionalMembersCollected
pub mod HandedNext
pub mod EndsCounted
pub mod MessagesInFront
pub mod AllRings
pub mod RecoverySends
pub mod Commits
pub mod Windows
