-- The ghost value.
use Rattle.std.proofs.Common.{[]}
use Rattle.ring_world.proofs.frame_store.no_sent_frames.Given as goal

abbrev pub ghost-ghost_of : goal.ghost-ghost_of
ghost-ghost_of g a = []
