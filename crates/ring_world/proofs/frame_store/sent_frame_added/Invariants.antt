-- The ghost value.
use Rattle.std.proofs.Common.{[], ◌∷◌, ◌++◌}
use Rattle.ring_world.proofs.frame_store.sent_frame_added.Given as goal

abbrev pub ghost-ghost_step : goal.ghost-ghost_step
ghost-ghost_step g a = λ frames f. frames ++ record { from = f.0; to = f.1; frame = f.2.now } ∷ []
