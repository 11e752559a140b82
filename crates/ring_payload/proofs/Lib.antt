-- Packing: the messages of a queue: unpacked, they and the rest are the queue; each run is the longest that fits one
-- Pack.
-- CallMade: a call made by `Call::new` keeps the limits of calls.
-- Writes: writing bytes one after another, re-exported for frames.
pub mod Packing
pub mod CallMade
pub mod Writes
