use Rattle.std.proofs.Common.{◌≡◌, ℕ, suc, ◌-◌, ◌∙◌, ap, sym, subst, take, arith}
use Rattle.ring_seat.specs.OutboxFrames.{end_of}
use Rattle.ring_seat.proofs.FramesInOrder.{end_taken, all_taken}
use Rattle.ring_seat.proofs.outbox_frames.OutboxFrames.text_start.Goals as goal

pub returns-in-Some : goal.returns-in-Some
returns-in-Some g c =
    let frames = c.args.self.now in
    let next : suc (c.args.index - 1) ≡ c.args.index = omega (arith, c.if-index-eq0.false) in
    subst (λ (k : ℕ). c.in-Some.before.end ≡ end_of (take k frames)) next
    (sym (end_taken 0 frames (c.args.index - 1) c.in-Some.before (sym c.get.ensures ∙ c.in-Some.is)))

pub returns-in-None : goal.returns-in-None
returns-in-None g c =
    let frames = c.args.self.now in
    let next : suc (c.args.index - 1) ≡ c.args.index = omega (arith, c.if-index-eq0.false) in
    let ends : c.self.inside.end ≡ end_of frames = c.self.invariant.1 ∙ ap end_of c.self.view_is in
    subst (λ (k : ℕ). c.self.inside.end ≡ end_of (take k frames)) next
    (ends ∙ sym (all_taken frames (c.args.index - 1) (sym c.get.ensures ∙ c.in-None.is)))
