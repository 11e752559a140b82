-- ProjectedSends: Payloads handed to a core one after another, as events of a world of ring cores: only that core changes.
-- ProjectedSteps: An event of a world of nodes, as events of a world of ring cores: the core's own step and the payloads handed
--   over after it, or the core's stop.
-- ProjectedEvents: Each event of a world of nodes, and so each list of them, is events of a world of ring cores.
-- SynchronousRuns: The ring part of every run of nodes is virtually synchronous.
-- DisciplinedDueSends: The payloads due at a core's outputs are pieces of a snapshot, Parts of the log that the node had before
--   the ring, and calls.
-- DisciplinedOutputs: A life by its core's outputs: what is agreed and safe in a ring changes only the newest epoch, by events
--   that may happen to a life; and what is due.
-- DisciplinedSteps: A node's step: its core's outputs change its life by events that may happen, and what it hands over keeps the
--   discipline.
-- DisciplinedNodes: Each step of a node and each submit keeps the discipline, and drops only committed places.
-- DisciplinedWorlds: Each event of a world of nodes, and so every list of them, keeps the discipline of each node, and extends
--   its life.
-- SendOrders: What a core sent in a ring is a prefix of what was handed to it there.
-- Numbering: A ring's text has the numbers 1, 2, 3 and so on.
-- RunTexts: In every run of ring cores each ring has one text: all that was numbered in the visits of its token.
-- SendOrdersOfNodes: For each node of every world: what its core sent in a ring is a prefix of what the node handed to it during
--   its epoch there.
-- EpochsOfCores: The life of each node, without what was handed over, consists of its core's facts about each ring that it
--   installed.
-- RingsOfRuns: The facts about a ring in every run of ring cores: its members, what each received up to its front, and who
--   received what one of them knows as safe.
-- RunFacts: The facts of every run of nodes, one by one: each node's life consists of its core's facts about the rings that it
--   installed, and what a core sent was handed to it.
-- Between: The facts and the discipline also hold between a step of a node's core and what the node then hands over.
-- HonestPieces: The snapshot bytes in an exchange of honest senders: the first bytes of the wanted snapshot, and all of them once
--   the exchange is complete.
-- PiecesDue: The Snaps due at a core's step are pieces of the snapshot that the node kept as it entered its newest ring.
-- SentPieces: In every run, the snapshot pieces that a node hands to its core are of the snapshot that it kept as it entered the
--   ring.
-- DroppedInSteps: A core's outputs let its node drop places only by restoring a snapshot of more than it had committed.
-- KnownWhole: The tables and the snapshot of the known log are those of the whole log's first places.
-- CommittingSteps: A step of a node commits calls of the one list: those after what it had committed, or after what it restored.
-- FollowedByNodes: A node whose known log agrees with the whole log follows its committed places, and the order, of which they,
--   with repeats removed, are a prefix.
-- RestoredTables: In all lives at one moment, each restored snapshot is that of the session table after the places that it stands
--   for.
-- ReportedReplies: Each reply that a step adds to the history is the session table's, at a place of the node's committed calls
--   that has the call.
-- SentTickets: Each call that a node hands over is one of its tickets', and each ticket's call was issued.
-- IssuedInWorlds: In every run each ticket's call was issued, and so was each call handed over; each node has the world's group.
-- IssuedLimits: In every run whose issued calls keep the limits, so does each call that a node hands over.
-- KnownByNodes: In every run whose issued calls keep the limits, each node's known log agrees with the whole log.
-- ConsistentRuns: The lives of every run of at most 16 nodes are consistent: they have the facts of ring cores, and the nodes
--   keep their discipline; and they are extended.
-- OrderSteps: Each event of a run is a step by the rules of the one order, if the lives before and after it are consistent and
--   each node knows the whole log.
-- OrderedRuns: In every run of at most 16 nodes the order grows, and what each node committed is a prefix of it.
-- Bases: No base lacks committed places.
-- BytesRestored: In no run whose issued calls keep the limits does a node find that the bytes that it restores are no snapshot.
-- OpenExchanges: After a step that leaves the exchange of a node's newest ring open, no more places are due to be dropped than
--   before.
-- TrimsWhenDue: In every run whose issued calls keep the limits, no node has places left that are due to be dropped, and the test
--   for an open exchange never decides.
-- StepSends: The frames sent in a core's step, each to somebody.
-- SendCounts: The number of frames that one step sends: a visit's repeated messages, new messages and token, or one frame, and
--   perhaps a proposal.
-- AnswerCounts: The number of answers as calls are done: each ticket has at most one, and none if it had one before.
-- KeptByNodes: A property that each node has at the opening, and keeps in each step, submit and stop, holds of each node in every
--   run.
-- PendingTickets: In every run a node has at most 64 unanswered tickets: a submit is refused at 64, and the calls done only grow.
-- DoneCalls: In every run whose issued calls keep the limits, a node has done exactly the calls that it has committed, except
--   those that it has from a snapshot.
-- LogLimits: What was received keeps the limits, and so do each call of the known log, the Head and the Parts of this log, and
--   the pieces of a snapshot.
-- OutputLimits: The outputs of a core's step keep the limits, and what is safe in a ring never falls.
-- DueLimits: What a node hands to its core keeps the limits: its Head, the pieces of its snapshot, the Parts of its log, and the
--   calls of its tickets.
-- NodeLimits: A node keeps the limits after each step and each submit, if inputs and issued calls do; so does each frame that a
--   step sends.
-- WorldLimits: Every frame ever sent keeps the limits, and every node does, after all events whose calls keep them.
-- EventGrowth: The size of what one event adds to a world: at most the frames, items and reports of one step.
-- RestoredPlaces: The places that a known log has dropped were dropped by the node's steps, or are those of a restored snapshot.
-- LongestCommitted: The longest of the nodes' committed logs, as their steps gave it: each node's committed places are a prefix
--   of it, and it is some node's.
-- TrimmedRuns: After each event of a run no node has committed places that are due to be dropped, and no known log has more
--   places than a log may have.
-- EffectCounts: The number of places that a node has committed, and of the calls of these that took effect: the sum of the last
--   numbers in its table.
-- ReportedLogs: Of the logs of a life, its own log is the newest, and what it committed is the longest safe one.
-- LogsOfRuns: In every run of nodes: a node's log and its committed places, from its core's facts about the texts of its rings.
pub mod ProjectedSends
pub mod ProjectedSteps
pub mod ProjectedEvents
pub mod SynchronousRuns
pub mod DisciplinedDueSends
pub mod DisciplinedOutputs
pub mod DisciplinedSteps
pub mod DisciplinedNodes
pub mod DisciplinedWorlds
pub mod SendOrders
pub mod Numbering
pub mod RunTexts
pub mod SendOrdersOfNodes
pub mod EpochsOfCores
pub mod RingsOfRuns
pub mod RunFacts
pub mod Between
pub mod HonestPieces
pub mod PiecesDue
pub mod SentPieces
pub mod DroppedInSteps
pub mod KnownWhole
pub mod CommittingSteps
pub mod FollowedByNodes
pub mod RestoredTables
pub mod ReportedReplies
pub mod SentTickets
pub mod IssuedInWorlds
pub mod IssuedLimits
pub mod KnownByNodes
pub mod ConsistentRuns
pub mod OrderSteps
pub mod OrderedRuns
pub mod Bases
pub mod BytesRestored
pub mod OpenExchanges
pub mod TrimsWhenDue
pub mod StepSends
pub mod SendCounts
pub mod AnswerCounts
pub mod KeptByNodes
pub mod PendingTickets
pub mod DoneCalls
pub mod LogLimits
pub mod OutputLimits
pub mod DueLimits
pub mod NodeLimits
pub mod WorldLimits
pub mod EventGrowth
pub mod RestoredPlaces
pub mod LongestCommitted
pub mod TrimmedRuns
pub mod EffectCounts
pub mod ReportedLogs
pub mod LogsOfRuns
