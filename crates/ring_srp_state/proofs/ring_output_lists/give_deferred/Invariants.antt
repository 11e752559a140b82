-- The messages so far are appended as agreed.
use Rattle.std.proofs.Common.{◌≡◌, ◌++◌}
use Rattle.ring_core_spec.specs.Giving.{all_agreed}
use Rattle.ring_srp_state.proofs.ring_output_lists.give_deferred.Given as goal

abbrev pub invariant-loop-message : goal.invariant-loop-message
invariant-loop-message g l = l.outs.items ≡ l.initial.outs.items ++ all_agreed l.ring l.yielded
