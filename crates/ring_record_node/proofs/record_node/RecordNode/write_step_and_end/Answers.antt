-- The end comes behind the outputs.
use Rattle.std.proofs.Common.{◌≡◌, Bool, subst}
use Rattle.std.specs.Prelude.{OnOk}
use Rattle.std.specs.Io.KnownBytes.{Appends}
use Rattle.ring_record_node.specs.NodeOutputs.{has_brought, end_text}
use Rattle.ring_record_node.proofs.Writing.{writes_then}
use Rattle.ring_record_node.proofs.record_node.RecordNode.write_step_and_end.Goals as goal

pub returns : goal.returns
returns g c =
    let W = g.W.Write.contents in
    let e = c.args.encoded.now in
    let r = c.args.self.now in
    let brought : c.has_brought-has_brought.result
    ≡ has_brought c.args.token r.node e.outs.sends.items e.outs.answers.items e.outs.restored e.outs.committed.items e.has_installed
    = c.has_brought-has_brought.ensures in
    let ended = subst (λ (b : Bool). OnOk c.write_end.result (Appends (W c.write_step.new.out) (W c.write_end.new.out) (end_text r c.args.token b))) brought
    c.write_end.ensures in
    writes_then c.write_end.result (W c.args.out.now) (W c.write_step.new.out) (W c.write_end.new.out) _ _ c.in_ok-write_step.ensures ended
