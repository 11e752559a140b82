-- Entries: Inserting, overwriting or removing one entry of a list with ascending keys.
-- OneEffectLaws: Each client's call has one effect and one reply.
-- TableWrites: The table after the code's writes.
-- TableLaws: The table after a list of calls holds each client's last effect with its reply, and gives the answers of the list.
-- Adding: One more call: the session table decides whether it takes effect.
-- TicketPlaces: The places of tickets as one more call is done.
-- AnswersGrow: Answers of a node: they grow at the end, a new ticket has none yet, and the last of them are kept.
-- TicketEffects: The number of calls that take effect, by the session table; it is at most the number of calls.
-- Pendings: All tickets, answers and calls done determine what is kept, and a step gives the answers of the definition.
-- BucketPlaces: A ticket's call can equal a call only at the positions of the call's bucket; those between give no answer.
-- Clients: Clients that are read and inserted one after the other, as in a loop.
-- Parts: A snapshot split and built, as in the code.
-- SnapshotTables: The table after calls within the limits has a snapshot that restores it.
pub mod Entries
pub mod OneEffectLaws
pub mod TableWrites
pub mod TableLaws
pub mod Adding
pub mod TicketPlaces
pub mod AnswersGrow
pub mod TicketEffects
pub mod Pendings
pub mod BucketPlaces
pub mod Clients
pub mod Parts
pub mod SnapshotTables
