-- No position is marked.
use Rattle.ring_session.proofs.BucketPlaces.{none-marked}
use Rattle.ring_session.proofs.buckets.CommittedFlags.new.Goals as goal

pub returns : goal.returns
returns c = λ j. none-marked 64 j
