-- Replications: The effect of a message, a safe mark and a new ring on the stored values, by the life that results.
-- IsKnownLogExtended: The known log and a later one without a restore between: the committed places are the same.
-- Messages: The effect of a message on the stored log, its exchange and the due payloads is the one defined by the longer life.
-- KnownLogSound: A life that is sound by its known log was sound before its last message, safe mark or installation, and its log
--   isn't too long.
-- ReplicationSteps: The stored values agree with the life after a message, a safe mark, a new ring, payloads handed over and
--   places dropped.
-- InstallDueSends: Due at the installation of a ring: the Head of the log before it, if the ring is primary.
-- LogChanges: The committed places of a log that changes, and the pending calls that are due.
-- DueSendsInOrder: Due payloads are handed over one by one, in the end all of them.
-- Known: The known log stays well formed; re-exported to the replica.
-- QueuedSends: The core after payloads are handed to it without outputs; re-exported to the replica.
pub mod Replications
pub mod IsKnownLogExtended
pub mod Messages
pub mod KnownLogSound
pub mod ReplicationSteps
pub mod InstallDueSends
pub mod LogChanges
pub mod DueSendsInOrder
pub mod Known
pub mod QueuedSends
