-- The messages held: the inner message is newer than the message itself.
use Rattle.std.proofs.Common.{◌∷◌, ◌++◌}
use Rattle.ring_recover.specs.Wrapping.{inner_messages}
use Rattle.ring_srp_transitions.proofs.running_core.RunningCore.take.Given as goal

abbrev pub ghost-ghost_step_of_two : goal.ghost-ghost_step_of_two
ghost-ghost_step_of_two g a = λ held message old. inner_messages old.0 old.1 held message.payload ++ message ∷ held
