pub mod Gauges
pub mod Clocks
pub mod Seats
pub mod OutboxFrames
pub mod Outboxes
