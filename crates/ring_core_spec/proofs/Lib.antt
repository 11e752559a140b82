-- Quiet: A core that receives a payload to send has no outputs in that step, as long as no installation is due; and
--   after a step none is.
-- States: What a core does shows its state: it installs in Recovery, proposes in Gather, and visits tokens of the
--   running ring; and it sends no more new messages than there is room for.
-- InstalledKept: A transition, and the proposal after it, leaves the installed ring as it is; a proposal also leaves
--   each ring's safe mark as it is.
-- Carrying: The frames of two lists of sends; and a delivered frame, which was sent and keeps the limits where each
--   sent frame does.
-- Windows: Lemmas about what a window holds, and about its bits, re-exported for the crates above the ring core.
-- Tokens: Lemmas about a token's visits, re-exported for the crates above the ring core.
-- Recoveries: Lemmas about recovered messages, re-exported for the crates above the ring core.
-- Commits: Lemmas about the reports of commit tokens, re-exported for the crates above the ring core.
-- Joins: Lemmas about the effects of joins, re-exported for the crates above the ring core.
pub mod Quiet
pub mod States
pub mod InstalledKept
pub mod Carrying
pub mod Windows
pub mod Tokens
pub mod Recoveries
pub mod Commits
pub mod Joins
