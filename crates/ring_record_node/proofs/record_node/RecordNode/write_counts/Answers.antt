-- The counts are those of the node.
use Rattle.std.proofs.Common.{◌≡◌, rules, ◌∙◌, ap, false, List, ℕ, subst}
use Rattle.std.specs.Prelude.{OnOk}
use Rattle.std.specs.Io.KnownBytes.{Appends}
use Rattle.ring_counts.specs.Counts.{count_numbers}
use Rattle.ring_counts.specs.declared.node_counts.NodeGauges.{NodeGauges}
use Rattle.ring_records.specs.NodeRecords.{counts_record}
use Rattle.ring_records.specs.declared.token_outcome.TokenOutcome.TheVariants.{NoToken}
use Rattle.ring_record_node.specs.NodeOutputs.{gauges_of, counts_text, end_text}
use Rattle.ring_record_node.proofs.Writing.{writes_then}
use Rattle.ring_record_node.proofs.record_node.RecordNode.write_counts.Goals as goal

pub returns : goal.returns
returns g c =
    let W = g.W.Write.contents in
    let r = c.args.self.now in
    let numbers : c.numbers.result ≡ count_numbers r.counts c.gauges.result = search rules in
    let gauges : c.gauges.result ≡ gauges_of r.node = search rules in
    let is = numbers ∙ ap (λ (n : NodeGauges). count_numbers r.counts n) gauges in
    let stands = subst (λ (l : List ℕ). Appends (W c.args.out.now) (W c.write_counts.new.out) (counts_record l)) is c.in_ok-write_counts.ensures in
    let ended : OnOk c.write_end.result (Appends (W c.write_counts.new.out) (W c.write_end.new.out) (end_text r NoToken false)) = search rules in
    writes_then c.write_end.result (W c.args.out.now) (W c.write_counts.new.out) (W c.write_end.new.out)
    (counts_text r) (end_text r NoToken false) stands ended
