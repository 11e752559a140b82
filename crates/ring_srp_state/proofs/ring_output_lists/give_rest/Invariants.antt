-- The outputs of the numbers so far.
use Rattle.std.proofs.Common.{◌≡◌, ◌++◌}
use Rattle.ring_srp_state.specs.Rests.{rest_of}
use Rattle.ring_srp_state.proofs.ring_output_lists.give_rest.Given as goal

abbrev pub invariant-loop-number : goal.invariant-loop-number
invariant-loop-number g l = l.outs.items ≡ l.initial.outs.items ++ rest_of l.window l.yielded
