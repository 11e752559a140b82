-- ChosenHead: The chosen Head is one of the Heads, and none is greater; no committed length is below the least.
-- CompleteExchanges: A complete exchange is the same after more messages, so a ring's log only grows.
-- Epochs: The epochs of one life: their order, and the life before each.
-- HonestExchanges: The contents of an exchange of honest senders: every member's Head, of which the chosen one's places are
--   wanted, and the first of these places.
-- Heads: What a ring's text says of its senders' logs: a Head states its sender's life before the ring, and Parts are places of
--   the log that it had then.
-- NewestRings: A life's last primary and log are of the newest adopted ring.
-- SafeLogs: What is safe stays: a log of a primary ring that every member received is a prefix of the base of every later primary
--   ring.
-- Settled: Of two settled lists one is a prefix of the other; a base begins with all that was settled in earlier rings.
-- Committed: What a node committed is settled, and is a prefix of its log.
-- AdoptedBases: The base that a node builds from an exchange and its own log is the ring's base.
-- SettledGrows: As lives go on, what is settled stays settled, and what is committed grows.
-- WorkedFacts: The facts of the worked lives, processor by processor.
-- RefutedExamples: The fact or rule that each wrong life breaks.
-- Moment: One moment: the claims about all lives, whatever the numbers of their rings.
-- Issued: Each call of a log was handed over by some node in a Call, not only in a Part: a property of all calls handed over
--   holds of all calls of logs.
-- RunEpochs: Each event of a life extends it and keeps the discipline; only committed places are dropped.
-- LogsInRuns: Along a run, what each node committed grows; all nodes' committed places are prefixes of one list, and only issued
--   calls are committed.
-- CommittedGrows: What is committed in a sound life is a prefix of its log, and only grows as the life goes on.
-- KnownLogSuffixes: The known log is the rest of the whole log after the snapshot that was restored last.
-- SoundEpochs: A sound life was sound before its last message, safe mark or installation, and its log isn't too long.
-- CallPrefixes: The test that one list of calls begins another, and prefixes.
-- Views: The known log is the rest of the whole log after the snapshot that was restored last: one more epoch, and a Head.
-- KnownGrows: The committed length of a node's known log never falls as its newest epoch is extended.
-- KnownLogs: The known log of a life is well formed: only committed places are dropped, and only places of the log are committed.
-- Prefixes: Lives filled with the places that snapshots stand for: each snapshot stands for the first places of its sender's log,
--   by lives that are filled as well.
-- FilledEpochs: Lives filled with the places that snapshots stand for have the facts of the nodes' own lives, keep the same
--   rules, and go on as these do.
pub mod ChosenHead
pub mod CompleteExchanges
pub mod Epochs
pub mod HonestExchanges
pub mod Heads
pub mod NewestRings
pub mod SafeLogs
pub mod Settled
pub mod Committed
pub mod AdoptedBases
pub mod SettledGrows
pub mod WorkedFacts
pub mod RefutedExamples
pub mod Moment
pub mod Issued
pub mod RunEpochs
pub mod LogsInRuns
pub mod CommittedGrows
pub mod KnownLogSuffixes
pub mod SoundEpochs
pub mod CallPrefixes
pub mod Views
pub mod KnownGrows
pub mod KnownLogs
pub mod Prefixes
pub mod FilledEpochs
