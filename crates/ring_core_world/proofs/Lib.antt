-- FramePlaces: The places of the frames among the outputs, and the frame at each of them.
-- WorldOfCores: The code's fields stay those of the world: after a step, after a stop, and where nothing changes.
-- Openings: The opening, with all processors in Gather.
-- Forming: The opening of a formed ring, whose representative has visited the first token.
-- Acting: Only the events that act change the world; and the outputs of a whole run of them.
pub mod FramePlaces
pub mod WorldOfCores
pub mod Openings
pub mod Forming
pub mod Acting
