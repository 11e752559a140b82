-- Definitions of worlds, re-exported for the crates that run scripts.
pub use Rattle.ring_world.specs.WorldView.{WorldView, IsEventOutcome, world_of}
pub use Rattle.ring_world.specs.StoredFramesView.{text_of}
