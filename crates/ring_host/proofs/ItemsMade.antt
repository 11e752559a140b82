-- The item made of an outbox's frame is a copy of it.
use Rattle.std.proofs.Common.{◌≡◌, ℕ, zero, suc, List, [], ◌∷◌, Option, Some, None, sym, ap, ◌∙◌, slice_get, IsSomeAnd, refl}
use Rattle.std.proofs.lemmas.Option.{same_Some}
use Rattle.ring_book_lines.specs.declared.frame_ref.FrameRef.{FrameRef}
use Rattle.ring_seat.specs.OutboxFrames.{FrameCopy, frames_from}
use Rattle.ring_seat.specs.Outboxes.{frames_in}
use Rattle.ring_seat.specs.declared.outbox.Outbox.{Outbox}
use Rattle.ring_seat.specs.declared.outbox_frames.OutboxFrame.{OutboxFrame}
use Rattle.ring_host.specs.Items.{IsCopyOfFrame}
use Rattle.ring_host.specs.declared.inbox_frame_and_task.InboxFrame.{InboxFrame}

-- A frame keeps its place with its bytes.
place_of : (start : ℕ) (text : List ℕ) (frames : List OutboxFrame) (i : ℕ) (copy : FrameCopy) (frame : OutboxFrame)
    → slice_get (frames_from start text frames) i ≡ Some copy → slice_get frames i ≡ Some frame → copy.place ≡ frame.place
place_of start text [] zero copy frame a b = cc
place_of start text [] (suc i) copy frame a b = cc
place_of start text (f ∷ fs) zero copy frame a b =
    sym (ap (λ (c : FrameCopy). c.place) (same_Some _ copy a)) ∙ ap (λ (g : OutboxFrame). g.place) (same_Some f frame b)
place_of start text (f ∷ fs) (suc i) copy frame a b = place_of f.end text fs i copy frame a b

module _ {A : Type 0} (outbox : Outbox A) (index : ℕ) (frame : OutboxFrame) (bytes : List ℕ) (item : InboxFrame A)
    (there : slice_get outbox.frames index ≡ Some frame) (at : item.book_place ≡ record { line = outbox.line; place = frame.place })
    (same : item.bytes.items ≡ bytes) where
  with_copy : (o : Option FrameCopy) → slice_get (frames_in outbox) index ≡ o → IsSomeAnd o (λ (copy : FrameCopy). bytes ≡ copy.bytes)
      → IsCopyOfFrame outbox index item
  with_copy None is none = absurd none
  with_copy (Some copy) is bytes_of =
      let place : copy.place ≡ frame.place = place_of 0 outbox.text.items outbox.frames index copy frame is there in
      let place_at : ℕ → FrameRef = λ p. record { line = outbox.line; place = p } in
      record { copy = copy; found = is; at = at ∙ ap place_at (sym place); bytes = same ∙ bytes_of }

  pub is_copy : IsSomeAnd (slice_get (frames_in outbox) index) (λ (copy : FrameCopy). bytes ≡ copy.bytes) → IsCopyOfFrame outbox index item
  is_copy bytes_of = with_copy (slice_get (frames_in outbox) index) refl bytes_of
