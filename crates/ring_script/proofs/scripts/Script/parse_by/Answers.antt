use Rattle.std.proofs.lemmas.Result.{err_from_is_err_and}
use Rattle.ring_script.specs.Scripts.{requests_in, nodes_in}
use Rattle.ring_script.specs.Votes.{votes_in}
use Rattle.ring_script.proofs.Among.{lines_among}
use Rattle.ring_script.proofs.Fitting.{lines_fit}
use Rattle.ring_script.proofs.Readings.{asked_low, votes_low, nodes_low, faults_low}
use Rattle.ring_script.proofs.scripts.Script.parse_by.Goals as goal

pub returns-in_err-one_vote_each-clause-refused : goal.returns-in_err-one_vote_each-clause-refused
returns-in_err-one_vote_each-clause-refused g c =
    let p = err_from_is_err_and c.from_residual.result c.from_residual.ensures.1 in
    let first = c.new-rest.result in
    rw (p.1, p.2) (faults_low c.in_err-one_vote_each.field-0.0 (nodes_in first.before first.lines) c.in_err-one_vote_each.ensures
    (nodes_low first.before first.lines))

pub returns-in_err-nodes-clause-refused : goal.returns-in_err-nodes-clause-refused
returns-in_err-nodes-clause-refused g c =
    let p = err_from_is_err_and c.from_residual-in_err-nodes.result c.from_residual-in_err-nodes.ensures.1 in
    let left = c.read_nodes.new.lines in
    rw (p.1, p.2) (faults_low c.in_err-nodes.field-0.0 (votes_in c.in_ok-one_vote_each.one_vote_each left.before left.lines) c.in_err-nodes.ensures.read
    (votes_low c.in_ok-one_vote_each.one_vote_each left.before left.lines))

pub returns-in_err-lines-clause-refused : goal.returns-in_err-lines-clause-refused
returns-in_err-lines-clause-refused g c =
    let p = err_from_is_err_and c.from_residual-in_err-lines.result c.from_residual-in_err-lines.ensures.1 in
    let left = c.read_votes.new.lines in
    rw (p.1, p.2) (faults_low c.in_err-lines.field-0.0 (requests_in g.V.Vocabulary.forms c.in_ok-nodes.nodes left.before left.lines) c.in_err-lines.ensures
    (asked_low g.V.Vocabulary.forms c.in_ok-nodes.nodes left.before left.lines))

pub returns-clause-among : goal.returns-clause-among
returns-clause-among g c =
    lines_among g.V.Vocabulary.forms c.in_ok-nodes.nodes c.read_votes.new.lines.before c.read_votes.new.lines.lines c.in_ok-lines.lines.items c.in_ok-lines.ensures

pub returns-clause-fit : goal.returns-clause-fit
returns-clause-fit g c =
    lines_fit g.V.Vocabulary.forms c.in_ok-nodes.nodes c.read_votes.new.lines.before c.read_votes.new.lines.lines c.in_ok-lines.lines.items
    g.V.Vocabulary.short c.in_ok-lines.ensures
