use Rattle.std.proofs.Common.{◌≡◌, length, vec_len}
use Rattle.ring_host.proofs.construction.locks.Given as goal

abbrev pub invariant-loop-cell : goal.invariant-loop-cell
invariant-loop-cell g l = vec_len l.cells ≡ length l.yielded
