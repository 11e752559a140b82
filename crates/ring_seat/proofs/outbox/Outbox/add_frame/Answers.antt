use Rattle.std.proofs.Common.{◌≡◌, ◌≤◌, take, length, ℕ, List, ap, ◌∙◌, refl, arith, inl, inr}
use Rattle.ring_base.specs.Processors.{size}
use Rattle.ring_seat.proofs.FramesInOrder.{frames_left, frame_noted, none_left, still_whole, copies_counted}
use Rattle.ring_seat.specs.OutboxFrames.{end_of}
use Rattle.ring_seat.specs.declared.outbox.Outbox.{Outbox}
use Rattle.ring_seat.specs.declared.outbox_frames.OutboxFrame.{OutboxFrame}
use Rattle.ring_seat.proofs.outbox.Outbox.add_frame.Goals as goal
use Rattle.ring_seat.proofs.outbox.Outbox.add_frame.Goals.{then-not-are_bytes_appended-via-then-not-are_bytes_appended, then-not-are_bytes_appended-via-else-not-are_bytes_appended+then-not-push}

-- The bytes put are cut off, and the frames are unchanged.
pub returns-then-not-are_bytes_appended-clause-noted : goal.returns-then-not-are_bytes_appended-clause-noted
returns-then-not-are_bytes_appended-clause-noted g c =
    let old = c.args.self.now in
    let mid = c.then-not-are_bytes_appended.self in
    let frames_same : mid.frames ≡ old.frames = elim c.then-not-are_bytes_appended.branch [
      | then-not-are_bytes_appended-via-then-not-are_bytes_appended w ↦ ap (λ (o : Outbox g.row.A.Denot). o.frames) w.self-is
      | then-not-are_bytes_appended-via-else-not-are_bytes_appended+then-not-push w ↦ ◌∙◌ {c = old.frames} (ap (λ (o : Outbox g.row.A.Denot). o.frames) w.self-is) w.if-not-push.ensures
    ] in
    let text_same : mid.text.items ≡ old.text.items = elim c.then-not-are_bytes_appended.branch [
      | then-not-are_bytes_appended-via-then-not-are_bytes_appended w ↦ ap (λ (o : Outbox g.row.A.Denot). o.text.items) w.self-is
      | then-not-are_bytes_appended-via-else-not-are_bytes_appended+then-not-push w ↦ ap (λ (o : Outbox g.row.A.Denot). o.text.items) w.self-is
    ] in
    let dropped_same : mid.dropped ≡ old.dropped = elim c.then-not-are_bytes_appended.branch [
      | then-not-are_bytes_appended-via-then-not-are_bytes_appended w ↦ ap (λ (o : Outbox g.row.A.Denot). o.dropped) w.self-is
      | then-not-are_bytes_appended-via-else-not-are_bytes_appended+then-not-push w ↦ ap (λ (o : Outbox g.row.A.Denot). o.dropped) w.self-is
    ] in
    let cut = c.truncate.ensures.items ∙ ap (λ (t : List ℕ). take c.text_end-start.result t) text_same in
    inr (
      frames_left old.text.items c.truncate.new.self.items old.frames mid.frames c.text_end-start.result c.text_end-start.ensures.order
          c.text_end-start.ensures.end cut frames_same,
      copies_counted old.dropped mid.dropped c.len-then-not-are_bytes_appended.result (size c.args.to) c.saturating_add-self.result
          c.saturating_add-self.ensures dropped_same c.len-then-not-are_bytes_appended.ensures.value,
    )

pub returns-else-not-push-clause-noted : goal.returns-else-not-push-clause-noted
returns-else-not-push-clause-noted g c =
    let text = c.args.self.now.text.items in
    let frames = c.args.self.now.frames in
    let outbox_frame : OutboxFrame = record { place = c.args.place; to = c.args.to; end = c.max-end.result } in
    let all : length text ≤ c.max-end.result = omega (arith, c.max-end.ensures, c.len.ensures.value) in
    inl (
      c.if-not-are_bytes_appended.false,
      refl,
      frame_noted text frames outbox_frame all c.push.new.self c.if-not-push.ensures,
    )

pub returns-else-not-push-clause-none : goal.returns-else-not-push-clause-none
returns-else-not-push-clause-none g c =
    let text = c.args.self.now.text.items in
    let frames = c.args.self.now.frames in
    let outbox_frame : OutboxFrame = record { place = c.args.place; to = c.args.to; end = c.max-end.result } in
    let all : length text ≤ c.max-end.result = omega (arith, c.max-end.ensures, c.len.ensures.value) in
    none_left text frames outbox_frame all c.push.new.self c.if-not-push.ensures

pub returns-else-not-push-clause-whole : goal.returns-else-not-push-clause-whole
returns-else-not-push-clause-whole g c = λ whole.
    let text = c.args.self.now.text.items in
    let frames = c.args.self.now.frames in
    let outbox_frame : OutboxFrame = record { place = c.args.place; to = c.args.to; end = c.max-end.result } in
    let after : end_of frames ≤ c.max-end.result = omega (arith, c.max-end.ensures, c.text_end-start.ensures.end) in
    let within : c.max-end.result ≤ length text = omega (arith, c.max-end.ensures, c.len.ensures.value, c.text_end-start.ensures.end, whole.1) in
    rw c.if-not-push.ensures (still_whole text frames outbox_frame whole.0 after within)
