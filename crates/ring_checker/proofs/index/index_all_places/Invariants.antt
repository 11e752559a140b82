use Rattle.ring_checker.proofs.Indexes.{IsIndexed}
use Rattle.ring_checker.proofs.index.index_all_places.Given as goal

abbrev pub invariant-loop-place : goal.invariant-loop-place
invariant-loop-place g l = IsIndexed l.order l.place l.index
