-- OneRingOfCore: The window and the visits of one ring say the same of it as the core.
-- KeptByTransitions: A core's invariant is kept by each transition.
-- Receivers: A commit token that a core fills in goes to a member, and comes from one.
-- Learns: Recovery begins: a full commit token fits the part of the old ring, and there are no facts yet of the ring
--   that runs from now on.
-- Installs: The running ring is installed: its part becomes the installed ring's, and the outputs come in several
--   pieces.
-- Proposals: A processor that proposes a ring is one of its members, and the ring is newer than all that it took part
--   in.
-- Starting: A core at its opening in a ring holds nothing, and has visited and raised nothing.
-- UsersOfRing: The user messages that a window keeps of its ring are those of the core.
-- TokenForwarding: A core forwards its token: the parts of its rings are kept.
-- Held: A core's invariant is kept as messages are held: one of the ring in use, and in Recovery its inner message of
--   the old ring.
-- RecoveryVisits: The state of Recovery decides which payloads a visit sends there.
-- Visits: A visit, piece by piece: requested messages are sent again, new messages are sent and held, and the token
--   is forwarded.
-- Told: The outputs other than sends have no frames.
-- Copied: The parts of a core's rings and the state of Recovery also fit the core when they are copied.
pub mod OneRingOfCore
pub mod KeptByTransitions
pub mod Receivers
pub mod Learns
pub mod Installs
pub mod Proposals
pub mod Starting
pub mod UsersOfRing
pub mod TokenForwarding
pub mod Held
pub mod RecoveryVisits
pub mod Visits
pub mod Told
pub mod Copied
