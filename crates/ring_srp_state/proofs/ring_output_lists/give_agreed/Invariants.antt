-- The outputs of the numbers so far are appended.
use Rattle.std.proofs.Common.{◌≡◌, ◌≤◌, ◌++◌, max}
use Rattle.ring_window.specs.Held.{front_of}
use Rattle.ring_srp_state.specs.Users.{agreed_in}
use Rattle.ring_srp_state.proofs.ring_output_lists.give_agreed.Given as goal

abbrev pub invariant-loop-before : goal.invariant-loop-before
invariant-loop-before g l = (l.outs.items ≡ l.fn.outs.items ++ agreed_in l.window l.below l.before) × (l.below ≤ l.before)
    × (l.before ≤ max l.below (front_of l.window.held l.window.ring))
