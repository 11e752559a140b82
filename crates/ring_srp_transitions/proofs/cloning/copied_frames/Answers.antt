-- Each copy equals its original.
use Rattle.std.proofs.Common.{◌≡◌}
use Rattle.ring_base.proofs.Pairs.{of_first, of_second}
use Rattle.ring_srp_transitions.proofs.cloning.copied_frames.Goals as goal

pub returns-clause-queue : goal.returns-clause-queue
returns-clause-queue g c =
    of_first c.pair_result.result (λ pair. pair.0) _ (λ queue. queue.items ≡ c.args.queue.now.items) c.pair_result.ensures.first c.in_ok-queue.ensures

pub returns-clause-last_sent : goal.returns-clause-last_sent
returns-clause-last_sent g c =
    of_second c.pair_result.result c.copied_last_sent.result (λ pair. pair.1) (λ last_sent. last_sent ≡ c.args.last_sent.now) c.pair_result.ensures.second c.copied_last_sent.ensures
