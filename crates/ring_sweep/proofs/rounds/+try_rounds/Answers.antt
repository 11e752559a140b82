-- One round, and those after it.
use Rattle.std.proofs.Common.{◌≤◌, arith}
use Rattle.ring_failure.proofs.Sharing.{round_grows, round_within}
use Rattle.ring_sweep.proofs.Trying.{tried_end, tried_rest}
use Rattle.ring_sweep.proofs.rounds.+try_rounds.Goals as goal

pub returns-then-begin-last-clause-ok : goal.returns-then-begin-last-clause-ok
returns-then-begin-last-clause-ok g t c =
    let part = c.args.part in
    let past = c.if-begin-last.true in
    λ order. tried_end _ c.args.script.now.nodes c.args.script.now.lines.items part.from part.upto order (omega (arith, past))

pub returns-clause-ok : goal.returns-clause-ok
returns-clause-ok g t c =
    let part = c.args.part in
    let begun = c.round_end-end.ensures in
    let grows = round_grows part.from c.next_round_items.result part.upto (omega (arith, c.if-begin-last.false)) in
    let within = round_within part.from c.next_round_items.result part.upto in
    let first : part.from ≤ c.round_end-end.result = omega (arith, begun, grows) in
    let last : c.round_end-end.result ≤ part.upto = omega (arith, begun, within) in
    λ order. tried_rest _ c.args.script.now.nodes c.args.script.now.lines.items part.from c.round_end-end.result part.upto
    c.in_ok-found.found c.in_ok-others.others c.or.result (c.in_ok-found.ensures.ok first) (c.in_ok-others.ensures.ok last) c.or.ensures
