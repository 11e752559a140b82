-- The mark covers of the rest what it covers of the whole.
use Rattle.std.proofs.Common.{◌≡◌, ◌+◌, length}
use Rattle.ring_replication.specs.Replications.{covered_places, watermarks_above}
use Rattle.ring_replication.proofs.log_watermark.pop_covered.Given as goal

abbrev pub invariant-loop : goal.invariant-loop
invariant-loop g l = record {
  places : covered_places l.mark l.places l.watermarks.items ≡ covered_places l.mark 0 l.fn.watermarks.items;
  left : watermarks_above l.mark l.watermarks.items ≡ watermarks_above l.mark l.fn.watermarks.items;
  many : length l.watermarks.items + l.counter ≡ length l.fn.watermarks.items;
}
