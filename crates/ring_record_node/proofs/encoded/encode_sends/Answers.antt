-- Each frame keeps the limits, and its record follows those before.
use Rattle.std.proofs.Common.{◌≡◌, ◌<◌, ◌++◌, ◌∙◌, List, ℕ, Some, slice_get, length, refl, sym, ap, subst, arith}
use Rattle.std.proofs.lemmas.Option.{slice_get_read}
use Rattle.ring_base.proofs.Each.{each-get}
use Rattle.ring_core_spec.specs.State.{OutgoingFrame}
use Rattle.ring_wire.specs.Frames.{FrameFits}
use Rattle.ring_records.specs.NodeRecords.{frame_record}
use Rattle.ring_records.proofs.Texts.{texts_more}
use Rattle.ring_record_node.proofs.encoded.encode_sends.Goals as goal

pub encode_frame_record-requires : goal.encode_frame_record-requires
encode_frame_record-requires g c =
    let all = c.args.sends.now in
    let k = c.loop-sent.sent-index in
    let s = c.sent-item.result in
    let within : k < length all = omega (arith, c.loop-sent-test.true) in
    let at : slice_get all k ≡ Some s = slice_get_read all (length all) k s refl within c.sent-item.is in
    let fits : FrameFits s.frame = each-get (λ (x : OutgoingFrame g.row.A.Denot). FrameFits x.frame) all k s c.requires.fits at in
    subst (λ (x : OutgoingFrame g.row.A.Denot). FrameFits x.frame) (sym c.sent.view_is) fits

pub loop-sent-preserved : goal.loop-sent-preserved
loop-sent-preserved g c =
    let all = c.args.sends.now in
    let k = c.loop-sent.sent-index in
    let s = c.sent-item.result in
    let within : k < length all = omega (arith, c.loop-sent-test.true) in
    let at : slice_get all k ≡ Some s = slice_get_read all (length all) k s refl within c.sent-item.is in
    let encode = λ (x : OutgoingFrame g.row.A.Denot). frame_record x.to x.frame in
    let before = c.loop-sent.records.items in
    let encoded = c.in_ok-encode_frame_record.ensures.ok ∙ ap (λ (x : OutgoingFrame g.row.A.Denot). before ++ encode x) c.sent.view_is in
    encoded ∙ ap (λ (t : List ℕ). t ++ encode s) c.loop-sent.invariant ∙ texts_more encode all k s at
