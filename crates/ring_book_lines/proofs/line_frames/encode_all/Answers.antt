use Rattle.std.proofs.Common.{◌≡◌, ◌∷◌, [], ◌++◌, ◌∙◌, length, refl, ap, sym, subst, take, add-one}
use Rattle.std.proofs.lemmas.List.{take_all}
use Rattle.std.proofs.lemmas.Option.{slice_get_read}
use Rattle.ring_base.proofs.Each.{each-get}
use Rattle.ring_core_spec.specs.State.{OutgoingFrame}
use Rattle.ring_base.proofs.Rows.{take-found}
use Rattle.ring_wire.specs.Frames.{FrameFits}
use Rattle.ring_order_proof.specs.Limits.{SentFits}
use Rattle.ring_book_lines.proofs.line_frames.encode_all.Goals as goal

pub encode-requires-clause-fits : goal.encode-requires-clause-fits
encode-requires-clause-fits g c =
    let k = c.loop-sent.sent-index in
    let s = c.sent-item.result in
    let at = slice_get_read c.args.sends.now (length c.args.sends.now) k s refl c.loop-sent-test.true c.sent-item.is in
    let fits : FrameFits s.frame = each-get SentFits c.args.sends.now k s c.requires.fit at in
    subst (λ (x : OutgoingFrame g.row.A.Denot). FrameFits x.frame) (sym c.sent.view_is) fits

pub returns-clause-ok : goal.returns-clause-ok
returns-clause-ok g c = c.loop-sent.invariant.items ∙ take_all c.loop-sent.sent-index c.args.sends.now c.loop-sent-test.false

pub loop-sent-preserved : goal.loop-sent-preserved
loop-sent-preserved g c =
    let k = c.loop-sent.sent-index in
    let s = c.sent-item.result in
    let at = slice_get_read c.args.sends.now (length c.args.sends.now) k s refl c.loop-sent-test.true c.sent-item.is in
    let encoded : c.in_ok-encode.field-0 ≡ s = c.in_ok-encode.ensures.ok ∙ c.sent.view_is in
    let pushed : c.push.new.self.items ≡ c.loop-sent.encoded.items ++ c.in_ok-encode.field-0 ∷ [] = c.in_ok-push.ensures.items in
    rw add-one record {
      items = pushed
          ∙ (ap (λ xs. xs ++ c.in_ok-encode.field-0 ∷ []) c.loop-sent.invariant.items
          ∙ (ap (λ x. take k c.args.sends.now ++ x ∷ []) encoded ∙ sym (take-found c.args.sends.now k s at)));
      room = c.encode.ensures.room;
    }
