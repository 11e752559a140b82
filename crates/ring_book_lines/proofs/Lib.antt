-- Leading: Runs of one node, and the steps of each node in the lines.
-- FramesInLines: Frames in the lines, and their numbers among all frames.
-- AnswersByTicket: Answers by ticket, answer by answer and step by step.
-- Shown: Histories, line by line and reply by reply.
-- Given: The answers that a node's step or submit adds to its tickets.
-- Logging: The longest committed log, line by line.
-- Bridge: A book run is the run of its lines' events.
-- Puts: The result of appending the bytes of a frame.
-- StepLifetimes: The parts of a step live as long as its memory.
pub mod Leading
pub mod FramesInLines
pub mod AnswersByTicket
pub mod Shown
pub mod Given
pub mod Logging
pub mod Bridge
pub mod Puts
mod StepLifetimes
