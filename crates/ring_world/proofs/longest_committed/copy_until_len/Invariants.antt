-- The calls so far are copied, and no more than `many`.
use Rattle.std.proofs.Common.{◌≡◌, ◌-◌, ◌≤◌, ◌++◌, take, length}
use Rattle.ring_world.proofs.longest_committed.copy_until_len.Given as goal

abbrev pub invariant-loop-call : goal.invariant-loop-call
invariant-loop-call g l = (l.copies.items ≡ l.fn.copies.items ++ take l.call-index l.calls) × (l.call-index ≤ l.many - length l.fn.copies.items)
