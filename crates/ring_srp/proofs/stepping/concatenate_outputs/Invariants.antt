-- The frames so far are appended.
use Rattle.std.proofs.Common.{◌≡◌, map}
use Rattle.ring_core_spec.specs.State.{OutgoingFrame}
use Rattle.ring_core_spec.specs.declared.out.Out.TheVariants.{Send}
use Rattle.ring_srp.proofs.stepping.concatenate_outputs.Given as goal

abbrev pub invariant-loop-sent : goal.invariant-loop-sent
invariant-loop-sent g l = l.outs.items ≡ map (λ (s : OutgoingFrame g.row.A.Denot). Send s.to s.frame) l.yielded
