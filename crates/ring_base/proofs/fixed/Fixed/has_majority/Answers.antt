use Rattle.ring_base.proofs.Votes.{majority_of_votes}
use Rattle.ring_base.proofs.fixed.Fixed.has_majority.Goals as goal

pub returns : goal.returns
returns c =
    majority_of_votes c.args.self c.args.set _ _ c.split_votes-inside.ensures.members c.split_votes-inside.ensures.all
