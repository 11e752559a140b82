use Rattle.std.proofs.Common.{◌≡◌, vec_len}
use Rattle.ring_host.proofs.paced_gate.HostOf+C+B+A.paced_gate.Given as goal

abbrev pub invariant-loop : goal.invariant-loop
invariant-loop g l = vec_len l.quiet_counts ≡ l.counter
