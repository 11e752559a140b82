use Rattle.std.proofs.Common.{◌≡◌, ◌≤◌, take}
use Rattle.std.specs.VecDeque.{deque_len, deque_capacity}
use Rattle.ring_session.specs.declared.TheConstants.{KEPT_ANSWERS}
use Rattle.ring_session.proofs.recent_answers.copy_with_full_capacity.Given as goal

abbrev pub invariant-loop-place : goal.invariant-loop-place
invariant-loop-place g l = record {
  items : l.copy.items ≡ take l.place l.answers.items;
  len : deque_len l.copy ≡ l.place;
  room : KEPT_ANSWERS ≤ deque_capacity l.copy;
}
