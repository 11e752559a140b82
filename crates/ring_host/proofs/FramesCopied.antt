-- The frames of an outbox, once the bytes of one more were put.
use Rattle.std.proofs.Common.{◌≡◌, ℕ, ◌≤◌, List, [], ◌++◌, drop, length, ap, sym, ◌∙◌, arith, length-append, ◌∷◌, Bool, true≢false, Option, Some, None, Result, Ok, Err, subst, slice_get, option_map, inl, inr}
use Rattle.std.specs.Result.{is_ok}
use Rattle.std.proofs.lemmas.Option.{none-some, same_Some}
use Rattle.std.proofs.lemmas.List.{drop-append-le}
use Rattle.std.proofs.Math.Seq.{take-append_seam}
use Rattle.ring_base.proofs.Rows.{pushed}
use Rattle.ring_base.specs.declared.fault.Fault.{Fault}
use Rattle.ring_wire.specs.Frames.{encoding_of}
use Rattle.ring_book_lines.specs.AppendedFrames.{OutgoingFrame, IsPut, IsCopyOf}
use Rattle.ring_host.specs.LockedSteps.{AreCopiesOf}
use Rattle.ring_seat.specs.Outboxes.{frames_in, bytes_put, IsWhole, IsNotedOrDropped}
use Rattle.ring_seat.specs.OutboxFrames.{FrameCopy, end_of, AreInOrder, frames_from}
use Rattle.ring_seat.specs.declared.outbox.Outbox.{Outbox}
use Rattle.ring_seat.specs.declared.outbox_frames.OutboxFrame.{OutboxFrame}
use Rattle.ring_seat.proofs.FramesInOrder.{frames_cut}

module _ (text more : List ℕ) (frames : List OutboxFrame) (order : AreInOrder 0 frames) (within : end_of frames ≤ length text) where
  -- They are as they were.
  frames_kept : frames_from 0 (text ++ more) frames ≡ frames_from 0 text frames
  frames_kept =
      sym (frames_cut 0 (length text) (text ++ more) frames order within)
      ∙ ap (λ (t : List ℕ). frames_from 0 t frames) (take-append_seam text more)

  -- The new bytes follow those that were put.
  bytes_added : drop (end_of frames) text ≡ [] → drop (end_of frames) (text ++ more) ≡ more
  bytes_added none = drop-append-le (end_of frames) text more within ∙ ap (λ (l : List ℕ). l ++ more) none

  still_within : end_of frames ≤ length (text ++ more)
  still_within = omega (arith, within, length-append text more)

module _ {A B : Type 0} (sent : List (OutgoingFrame A)) (place to : ℕ) (is_put : Bool) (old mid new : Outbox B) (same : mid.frames ≡ old.frames)
    (whole : IsWhole old) (none : bytes_put old ≡ []) (noted : IsNotedOrDropped place to is_put mid new) (all : AreCopiesOf sent (frames_in old)) where
  unchanged : frames_in mid ≡ frames_in old → frames_in new ≡ frames_in mid → AreCopiesOf sent (frames_in new)
  unchanged before after = subst (λ (fs : List FrameCopy). AreCopiesOf sent fs) (sym (after ∙ before)) all

  pub one_more : (o : Option (OutgoingFrame A)) → slice_get sent place ≡ o → option_map (λ (s : OutgoingFrame A). s.to) o ≡ Some to → (r : Result (Unit {0}) Fault)
      → IsPut o old.text.items mid.text.items r → is_put ≡ is_ok r → IsWhole mid × AreCopiesOf sent (frames_in new)
  one_more (Some s) is its (Ok done) put put_well =
      let frames_same : frames_in mid ≡ frames_in old =
      ap (λ (t : List ℕ). frames_from 0 t mid.frames) put ∙ ap (λ (ps : List OutboxFrame). frames_from 0 (old.text.items ++ encoding_of s.frame) ps) same
      ∙ frames_kept old.text.items (encoding_of s.frame) old.frames whole.0 whole.1 in
      let bytes : bytes_put mid ≡ encoding_of s.frame =
      ap (λ (t : List ℕ). drop (end_of mid.frames) t) put ∙ ap (λ (ps : List OutboxFrame). drop (end_of ps) (old.text.items ++ encoding_of s.frame)) same
      ∙ bytes_added old.text.items (encoding_of s.frame) old.frames whole.0 whole.1 none in
      let copy : FrameCopy = record { place = place; to = to; bytes = bytes_put mid } in
      let is_copy : IsCopyOf sent place to (bytes_put mid) =
      rw is (sym (same_Some s.to to its), bytes) in (
        rw (same, put) (whole.0, still_within old.text.items (encoding_of s.frame) old.frames whole.0 whole.1),
        elim noted [
          | inl done ↦ pushed (λ (c : FrameCopy). IsCopyOf sent c.place c.to c.bytes) (frames_in old) (frames_in new) copy all is_copy
              (done.2 ∙ ap (λ (fs : List FrameCopy). fs ++ copy ∷ []) frames_same)
          | inr dropped ↦ unchanged frames_same dropped.0
        ],
      )
  one_more (Some s) is its (Err fault) put put_well =
      let frames_same : frames_in mid ≡ frames_in old =
      ap (λ (t : List ℕ). frames_from 0 t mid.frames) put.1 ∙ ap (λ (ps : List OutboxFrame). frames_from 0 old.text.items ps) same in (
        rw (same, put.1) whole,
        elim noted [
          | inl done ↦ absurd (true≢false (sym done.0 ∙ put_well))
          | inr dropped ↦ unchanged frames_same dropped.0
        ],
      )
  one_more None is its r put put_well = absurd (none-some to its)
