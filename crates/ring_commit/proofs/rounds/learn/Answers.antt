-- There are at most twice sixteen hops.
use Rattle.std.proofs.Common.{◌≡◌, ◌+◌, ◌<◌, true, rules, arith}
use Rattle.ring_commit.specs.Rounds.{is_second_round}
use Rattle.ring_commit.proofs.Hopping.{second_round_hop}
use Rattle.ring_commit.proofs.rounds.learn.Goals as goal

pub overflow_add-token : goal.overflow_add-token
overflow_add-token c =
    let taken : is_second_round c.args.running.now c.args.own.now c.args.token ≡ true = first_of (cc, search rules) in
    let small : c.args.token.hop + 1 < 256 = second_round_hop c.args.running.now c.args.own.now c.args.token taken in
    omega arith
