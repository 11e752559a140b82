use Rattle.std.proofs.Common.{◌≢◌, ◌∙◌, arith, below_more, length-set, get_or-set_same, get_or-set_other}
use Rattle.ring_window.proofs.held_bits.HeldBits.bytes_from.Goals as goal

pub loop-k-preserved : goal.loop-k-preserved
loop-k-preserved c = (
  length-set c.loop-k.bytes c.loop-k.k c.byte_from_bit.result ∙ c.loop-k.invariant.0,
  below_more _ _
      (λ i l. let other : i ≢ c.loop-k.k = omega arith in get_or-set_other c.loop-k.bytes c.loop-k.k i c.byte_from_bit.result 0 other ∙ c.loop-k.invariant.1 i l)
      (get_or-set_same c.loop-k.bytes c.loop-k.k c.byte_from_bit.result 0 (omega arith) ∙ c.byte_from_bit.ensures),
)
