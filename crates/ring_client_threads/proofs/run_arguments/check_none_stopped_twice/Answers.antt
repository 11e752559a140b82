use Rattle.ring_client_threads.proofs.Distinct.{twice, one_more}
use Rattle.ring_client_threads.proofs.run_arguments.check_none_stopped_twice.Goals as goal

pub returns-then-contains-clause-err : goal.returns-then-contains-clause-err
returns-then-contains-clause-err c =
    let found = c.if-contains.ensures.cases in
    twice c.args.numbers.now c.loop-i.i c.loop-i-test.true found.0 found.1 (found.2 0)

pub loop-i-preserved : goal.loop-i-preserved
loop-i-preserved c = one_more c.args.numbers.now c.loop-i.i c.loop-i-test.true c.loop-i.invariant c.if-contains.ensures.cases
