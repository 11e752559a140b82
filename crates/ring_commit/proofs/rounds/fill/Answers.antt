-- In the first round there is room for an entry.
use Rattle.std.proofs.Common.{◌≡◌, true, rules}
use Rattle.ring_commit.specs.Rounds.{is_first_round}
use Rattle.ring_commit.proofs.Hopping.{first_round_room}
use Rattle.ring_commit.proofs.rounds.fill.Goals as goal

pub push-requires : goal.push-requires
push-requires c =
    let taken : is_first_round c.args.floor c.args.candidates c.args.token ≡ true = first_of (cc, search rules) in
    first_round_room c.args.floor c.args.candidates c.args.token taken c.requires
