use Rattle.std.proofs.Common.{rules, false}
use Rattle.std.specs.Prelude.{OnOk}
use Rattle.std.specs.Io.KnownBytes.{Appends}
use Rattle.ring_records.specs.NodeRecords.{ticket_record}
use Rattle.ring_records.specs.declared.token_outcome.TokenOutcome.TheVariants.{NoToken}
use Rattle.ring_record_node.specs.NodeOutputs.{end_text}
use Rattle.ring_record_node.proofs.Writing.{writes_then}
use Rattle.ring_record_node.proofs.record_node.RecordNode.write_ticket_and_end.Goals as goal

pub returns : goal.returns
returns g c =
    let W = g.W.Write.contents in
    let ended : OnOk c.write_end.result (Appends (W c.write_ticket.new.out) (W c.write_end.new.out) (end_text c.args.self.now NoToken false)) = search rules in
    writes_then c.write_end.result (W c.args.out.now) (W c.write_ticket.new.out) (W c.write_end.new.out)
    (ticket_record c.args.ticket) (end_text c.args.self.now NoToken false) c.in_ok-write_ticket.ensures ended
