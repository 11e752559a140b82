-- The status is that of the node.
use Rattle.std.proofs.Common.{rules, ◌≡◌, ℕ, List, false, subst}
use Rattle.std.specs.Prelude.{OnOk}
use Rattle.std.specs.Io.KnownBytes.{Appends}
use Rattle.ring_node_spec.specs.Nodes.{node_known_log, node_length, node_trimmed}
use Rattle.ring_records.specs.declared.token_outcome.TokenOutcome.TheVariants.{NoToken}
use Rattle.ring_record_node.specs.NodeOutputs.{told_membership, status_text, end_text}
use Rattle.ring_record_node.proofs.NodeOutputs.{status_of}
use Rattle.ring_record_node.proofs.Writing.{writes_then}
use Rattle.ring_record_node.proofs.record_node.RecordNode.write_status.Goals as goal

pub returns : goal.returns
returns g c =
    let W = g.W.Write.contents in
    let r = c.args.self.now in
    let state : c.state.result ≡ r.node.core.state = search rules in
    let ring : c.ring.result ≡ r.node.core.installed.ring = search rules in
    let committed : c.committed_len.result ≡ (node_known_log r.node).committed = search rules in
    let log : c.log_len.result ≡ node_length r.node = search rules in
    let trimmed : c.trimmed.result ≡ node_trimmed r.node = search rules in
    let members : c.told_membership.result ≡ told_membership r = search rules in
    let is = status_of r c.state.result c.ring.result c.committed_len.result c.log_len.result c.trimmed.result c.told_membership.result state ring committed log
    trimmed members in
    let stands = subst (λ (t : List ℕ). Appends (W c.args.out.now) (W c.write_status_record.new.out) t) is c.in_ok-write_status_record.ensures in
    let ended : OnOk c.write_end.result (Appends (W c.write_status_record.new.out) (W c.write_end.new.out) (end_text r NoToken false)) = search rules in
    writes_then c.write_end.result (W c.args.out.now) (W c.write_status_record.new.out) (W c.write_end.new.out)
    (status_text r) (end_text r NoToken false) stands ended
