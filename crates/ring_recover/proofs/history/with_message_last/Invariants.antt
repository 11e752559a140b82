use Rattle.std.proofs.Common.{[], ◌∷◌, ◌++◌}
use Rattle.ring_recover.proofs.history.with_message_last.Given as goal

abbrev pub ghost-ghost_of : goal.ghost-ghost_of
ghost-ghost_of g a = a.from.now.0.now.value ++ a.from.now.1.now ∷ []
