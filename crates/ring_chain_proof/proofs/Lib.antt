-- GenuineFrames: Facts about every frame ever sent, by the visits of each ring, and how a move adds to the visits.
-- FactsGrow: A move only adds to a core's facts, and facts about all cores stay true as one of them grows.
-- Filed: A core's own reports and plans: one report for each ring, none of a ring above the floor, and in Commit no
--   plan yet of the ring taken part in.
-- Rings: All processors that take part in a ring name the same members.
-- VisitTurns: The member whose turn it is, and the newest token: lemmas about one list of visits.
-- Chain: The visits of a ring are one list: each takes the token as the visit before it forwarded it, by the member
--   whose turn it is.
-- OneText: Each number of a ring has one sender and one payload.
-- Safety: Each member of a ring holds what a safe mark of the ring covers.
-- Sends: Each frame that a move sends is valid: a message is genuine, a token goes to the member whose turn is next,
--   a commit token is the next hop.
-- AllLayers: Facts about all cores and all frames, in every world after all events: each layer is kept by each move.
-- ChainInRuns: Facts about every run, from the opening and from a formed ring.
-- Hops: The commit tokens of a run: each is a hop with the reports of its first members, and two of one ring name the
--   same members.
-- HopsTakenOnce: Each hop of a ring is taken at most once.
-- Plans: All processors that recover in a ring have one plan: the full commit token with which they enter Recovery,
--   with the reports of all members.
-- OtherRings: Facts of one ring and facts of others: what is held, visited or raised in another ring changes no front
--   and no mark of this one.
-- SafeOutputs: What `Safe` covers is safe: a step gives the safe mark as it then is, and a safe number stays safe.
-- Formed: A formed ring runs until a processor stops, and each processor gives the numbers 1, 2, 3 and so on as
--   `Agreed`, up to its front.
-- TakingPart: A processor that takes part in a ring is one of its members, and the representative is the smallest.
-- Spacing: The spacing of visits: in a ring of m members a member's visits are m token numbers apart, from the number
--   that is its position on.
-- Tells: The message of an output, `Agreed` or `Rest`, is the one held under its number.
-- OnlyRing: A formed ring is the only one that its processors take part in.
-- FormedFacts: In a formed ring each processor's local facts hold: they hold at the opening, and each move keeps
--   them.
pub mod GenuineFrames
pub mod FactsGrow
pub mod Filed
pub mod Rings
pub mod VisitTurns
pub mod Chain
pub mod OneText
pub mod Safety
pub mod Sends
pub mod AllLayers
pub mod ChainInRuns
pub mod Hops
pub mod HopsTakenOnce
pub mod Plans
pub mod OtherRings
pub mod SafeOutputs
pub mod Formed
pub mod TakingPart
pub mod Spacing
pub mod Tells
pub mod OnlyRing
pub mod FormedFacts
