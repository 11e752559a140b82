-- Storing: One more frame is stored, and the frame of a number is found.
-- Tellings: Answers are recorded one after another, each with the remaining copy of its call.
-- Spared: Each ticket that a step answers has its second copy, and the waiting tickets keep theirs.
-- StoppedNode: The step of a stopped node has no outputs and changes nothing, where no committed places wait to be
-- dropped.
-- AnsweredCopies: Each ticket that a step answers has its copy, and the waiting tickets keep theirs.
-- Events: Recorded events report only answers, and refusals that don't depend on memory.
-- NodePlaces: The place of a node in the lists of a world's code, and the lists with another node in that place.
-- WorldOfNodes: The fields of the code go on representing the world, event by event.
-- SubmitRefused: A refusal that doesn't depend on memory is not `Memory`, and room for many is room for fewer.
-- FrameHanded: The input of a step: the frame that was sent to its node, or a timeout.
-- Copying: The fields of a copied world represent the same world.
-- Playing: A run continues event by event, and only adds to the view.
-- OutputsGrow: The outputs of the cores in a run are a prefix of those in a longer run.
-- WorldsGoOn: The laws of every run, for a world after further events.
-- EventLimits: Calls of events within the limits of snapshots are within those of frames, and so are copies of events.
-- Segments: The longest committed log, segment by segment.
-- OrderLengths: The length of the order is the greatest number of calls that took effect at one node.
-- Opening: The opening world: its nodes are at their opening, and no ticket waits for an answer.
-- PumpGrowing: Frames are only added: a continued world keeps its frames, and the pump keeps its open copies.
-- PumpOpening: The copies of the next frame, and the first open copy.
-- PumpRunning: What one event does to a pump.
-- MemoryRefused: The stop of a step that was refused memory, in a run of one event.
pub mod Storing
pub mod Tellings
pub mod Spared
pub mod StoppedNode
pub mod AnsweredCopies
pub mod SubmitRefused
pub mod EventLimits
pub mod Events
pub mod NodePlaces
pub mod WorldOfNodes
pub mod FrameHanded
pub mod Copying
pub mod Playing
pub mod OutputsGrow
pub mod WorldsGoOn
pub mod Opening
pub mod Segments
pub mod OrderLengths
pub mod PumpGrowing
pub mod PumpOpening
pub mod PumpRunning
pub mod MemoryRefused
