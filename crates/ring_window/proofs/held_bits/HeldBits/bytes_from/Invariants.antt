use Rattle.std.proofs.Common.{◌≡◌, ℕ, ◌+◌, ◌*◌, ◌<◌, length, slice_index}
use Rattle.ring_base.specs.Numbers.{word_from_test}
use Rattle.ring_window.specs.Bits.{is_set}
use Rattle.ring_window.proofs.held_bits.HeldBits.bytes_from.Given as goal

abbrev pub invariant-loop-k : goal.invariant-loop-k
invariant-loop-k l = (length l.bytes ≡ 32) × ((i : ℕ) → i < l.k → slice_index l.bytes i ≡ word_from_test (is_set l.self.words) (l.first + 8 * i) 8)
