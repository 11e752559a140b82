-- The frames of a text: with one frame more, and in a text that is cut after them.
use Rattle.std.proofs.Common.{◌≡◌, ℕ, zero, suc, ◌+◌, ◌-◌, ◌^◌, ◌≤◌, min, List, [], ◌∷◌, ◌++◌, take, drop, length, ap, ◌∙◌, refl, arith, sym, subst, inl, inr, Bor, IfSome, IfNone, IsSomeAnd, slice_range, slice_get, Option, Some, None, option_map, take-take, take_all, length-drop, drop_of_length-le}
use Rattle.std.specs.List.{PartBy}
use Rattle.std.proofs.lemmas.List.{drop-take}
use Rattle.std.proofs.lemmas.Option.{none-some, same_Some}
use Rattle.ring_seat.specs.OutboxFrames.{FrameCopy, end_from, end_of, AreInOrder, frames_from}
use Rattle.ring_seat.specs.declared.outbox_frames.OutboxFrame.{OutboxFrame}

-- the bytes of all frames end where those of the last one do
pub end_pushed : (start : ℕ) (frames : List OutboxFrame) (outbox_frame : OutboxFrame) → end_from start (frames ++ outbox_frame ∷ []) ≡ outbox_frame.end
end_pushed start [] outbox_frame = refl
end_pushed start (first ∷ others) outbox_frame = end_pushed first.end others outbox_frame

-- the frames stay in order with a frame that ends no earlier than those before it
pub in_order_pushed : (start : ℕ) (frames : List OutboxFrame) (outbox_frame : OutboxFrame) → AreInOrder start frames → end_from start frames ≤ outbox_frame.end
    → AreInOrder start (frames ++ outbox_frame ∷ [])
in_order_pushed start [] outbox_frame order upto = (upto, tt)
in_order_pushed start (first ∷ others) outbox_frame order upto = (order.0, in_order_pushed first.end others outbox_frame order.1 upto)

-- the bytes end no earlier than they begin
pub end_after_start : (start : ℕ) (frames : List OutboxFrame) → AreInOrder start frames → start ≤ end_from start frames
end_after_start start [] order = omega arith
end_after_start start (first ∷ others) order = omega (arith, order.0, end_after_start first.end others order.1)

-- one frame more has the bytes from there on
pub frames_pushed : (start : ℕ) (text : List ℕ) (frames : List OutboxFrame) (outbox_frame : OutboxFrame) → frames_from start text (frames ++ outbox_frame ∷ [])
    ≡ frames_from start text frames ++ record { place = outbox_frame.place; to = outbox_frame.to; bytes = slice_range text (end_from start frames) outbox_frame.end } ∷ []
frames_pushed start text [] outbox_frame = refl
frames_pushed start text (first ∷ others) outbox_frame =
    ap (λ (fs : List FrameCopy). record { place = first.place; to = first.to; bytes = slice_range text start first.end } ∷ fs)
    (frames_pushed first.end text others outbox_frame)

-- bytes are the same in a text that is cut after them
range_cut : (start end n : ℕ) (text : List ℕ) → start ≤ end → end ≤ n → slice_range (take n text) start end ≡ slice_range text start end
range_cut start end n text order upto =
    let there : start + (end - start) ≡ end = omega (arith, order) in
    let as_front : (t : List ℕ) → slice_range t start end ≡ drop start (take end t) = λ t.
    sym (drop-take start (end - start) t) ∙ ap (λ (k : ℕ). drop start (take k t)) there in
    as_front (take n text) ∙ ap (λ (t : List ℕ). drop start t) (take-take end n text upto) ∙ sym (as_front text)

-- frames are the same in a text that is cut after them
pub frames_cut : (start n : ℕ) (text : List ℕ) (frames : List OutboxFrame) → AreInOrder start frames → end_from start frames ≤ n
    → frames_from start (take n text) frames ≡ frames_from start text frames
frames_cut start n text [] order upto = refl
frames_cut start n text (first ∷ others) order upto =
    let within : first.end ≤ n = omega (arith, upto, end_after_start first.end others order.1) in
    ap (λ (bytes : List ℕ). record { place = first.place; to = first.to; bytes = bytes } ∷ frames_from first.end (take n text) others)
    (range_cut start first.end n text order.0 within)
    ∙ ap (λ (fs : List FrameCopy). record { place = first.place; to = first.to; bytes = slice_range text start first.end } ∷ fs)
    (frames_cut first.end n text others order.1 upto)

-- cutting the text after the frames leaves them unchanged
pub frames_left : (text text' : List ℕ) (frames frames' : List OutboxFrame) (n : ℕ) → AreInOrder 0 frames → n ≡ end_of frames → text' ≡ take n text
    → frames' ≡ frames → frames_from 0 text' frames' ≡ frames_from 0 text frames
frames_left text text' frames frames' n order end cut same =
    let upto : end_of frames ≤ n = omega (arith, end) in
    ap (λ (t : List ℕ). frames_from 0 t frames') cut ∙ ap (λ (fs : List OutboxFrame). frames_from 0 (take n text) fs) same
    ∙ frames_cut 0 n text frames order upto

-- a text that has all bytes of the frames has those of one frame more that end in it
pub still_whole : (text : List ℕ) (frames : List OutboxFrame) (outbox_frame : OutboxFrame) → AreInOrder 0 frames → end_of frames ≤ outbox_frame.end
    → outbox_frame.end ≤ length text → AreInOrder 0 (frames ++ outbox_frame ∷ []) × (end_of (frames ++ outbox_frame ∷ []) ≤ length text)
still_whole text frames outbox_frame order after within =
    (in_order_pushed 0 frames outbox_frame order after, omega (arith, within, end_pushed 0 frames outbox_frame))

-- A frame whose bytes reach to the end of the text has all that were put after the others, and none are left.
module _ (text : List ℕ) (frames : List OutboxFrame) (outbox_frame : OutboxFrame) (all : length text ≤ outbox_frame.end) (frames' : List OutboxFrame)
    (pushed : frames' ≡ frames ++ outbox_frame ∷ []) where
  pub frame_noted : frames_from 0 text frames'
      ≡ frames_from 0 text frames ++ record { place = outbox_frame.place; to = outbox_frame.to; bytes = drop (end_of frames) text } ∷ []
  frame_noted =
      ap (λ (fs : List OutboxFrame). frames_from 0 text fs) pushed ∙ frames_pushed 0 text frames outbox_frame
      ∙ ap (λ (bytes : List ℕ). frames_from 0 text frames ++ record { place = outbox_frame.place; to = outbox_frame.to; bytes = bytes } ∷ [])
      (take_all (outbox_frame.end - end_of frames) (drop (end_of frames) text) (omega (arith, all, length-drop (end_of frames) text)))

  pub none_left : drop (end_of frames') text ≡ []
  none_left =
      ap (λ (fs : List OutboxFrame). drop (end_of fs) text) pushed ∙ ap (λ (n : ℕ). drop n text) (end_pushed 0 frames outbox_frame)
      ∙ drop_of_length-le text all

-- the copies that were dropped before, and those of one frame more
pub copies_counted : (before same copies size after : ℕ) → after ≡ min (same + copies) (2 ^ 32 - 1) → same ≡ before → copies ≡ size
    → after ≡ min (before + size) (2 ^ 32 - 1)
copies_counted before same copies size after counted unchanged all =
    counted ∙ ap (λ (n : ℕ). min (n + copies) (2 ^ 32 - 1)) unchanged ∙ ap (λ (n : ℕ). min (before + n) (2 ^ 32 - 1)) all

-- the frame at a place has the bytes from where those of the frames before it end
pub frame_at : (start : ℕ) (text : List ℕ) (frames : List OutboxFrame) (i : ℕ) → slice_get (frames_from start text frames) i
    ≡ option_map (λ (p : OutboxFrame). record { place = p.place; to = p.to; bytes = slice_range text (end_from start (take i frames)) p.end }) (slice_get frames i)
frame_at start text [] i = refl
frame_at start text (first ∷ others) zero = refl
frame_at start text (first ∷ others) (suc i) = frame_at first.end text others i

-- the frames up to one end where its bytes do
pub end_taken : (start : ℕ) (frames : List OutboxFrame) (i : ℕ) (outbox_frame : OutboxFrame) → slice_get frames i ≡ Some outbox_frame
    → end_from start (take (suc i) frames) ≡ outbox_frame.end
end_taken start [] i outbox_frame is = absurd (none-some outbox_frame is)
end_taken start (first ∷ others) zero outbox_frame is = ap (λ (p : OutboxFrame). p.end) (same_Some first outbox_frame is)
end_taken start (first ∷ others) (suc i) outbox_frame is = end_taken first.end others i outbox_frame is

none_past : (frames : List OutboxFrame) (i : ℕ) → slice_get frames i ≡ None → length frames ≤ i
none_past [] i none = omega arith
none_past (first ∷ others) zero none = absurd (none-some first (sym none))
none_past (first ∷ others) (suc i) none = omega (arith, none_past others i none)

-- after the last frame, bytes begin where all bytes end
pub all_taken : (frames : List OutboxFrame) (i : ℕ) → slice_get frames i ≡ None → end_of (take (suc i) frames) ≡ end_of frames
all_taken frames i none = ap (λ (fs : List OutboxFrame). end_of fs) (take_all (suc i) frames (omega (arith, none_past frames i none)))

-- the bytes of a frame end no earlier than those before it, and no later than all
pub between : (start : ℕ) (frames : List OutboxFrame) (i : ℕ) (outbox_frame : OutboxFrame) → AreInOrder start frames → slice_get frames i ≡ Some outbox_frame
    → (end_from start (take i frames) ≤ outbox_frame.end) × (outbox_frame.end ≤ end_from start frames)
between start [] i outbox_frame order is = absurd (none-some outbox_frame is)
between start (first ∷ others) zero outbox_frame order is =
    subst (λ (p : OutboxFrame). (start ≤ p.end) × (p.end ≤ end_from first.end others)) (same_Some first outbox_frame is)
    (order.0, end_after_start first.end others order.1)
between start (first ∷ others) (suc i) outbox_frame order is = between first.end others i outbox_frame order.1 is

-- the bytes found for a frame are its bytes
module _ (text : List ℕ) (frames : List OutboxFrame) (i start : ℕ) (outbox_frame : OutboxFrame) (is : slice_get frames i ≡ Some outbox_frame)
    (starts : start ≡ end_of (take i frames)) where
  pub bytes_found : (found : Option (Bor (List ℕ))) → PartBy (λ (x : Bor (List ℕ)). x.now) text start outbox_frame.end found
      → IfSome found (λ bytes. IsSomeAnd (slice_get (frames_from 0 text frames) i) (λ (f : FrameCopy). bytes.now ≡ f.bytes))
  bytes_found None part = tt
  bytes_found (Some bytes) part =
      let frame : FrameCopy = record { place = outbox_frame.place; to = outbox_frame.to; bytes = slice_range text (end_of (take i frames)) outbox_frame.end } in
      let here : slice_get (frames_from 0 text frames) i ≡ Some frame =
      frame_at 0 text frames i
      ∙ ap (λ (o : Option OutboxFrame). option_map (λ (p : OutboxFrame). record { place = p.place; to = p.to; bytes = slice_range text (end_of (take i frames)) p.end }) o) is in
      rw here (part.0.2 ∙ ap (λ (n : ℕ). slice_range text n outbox_frame.end) starts)

  pub bytes_missing : (found : Option (Bor (List ℕ))) → PartBy (λ (x : Bor (List ℕ)). x.now) text start outbox_frame.end found
      → IfNone found (AreInOrder 0 frames × (end_of frames ≤ length text) → length frames ≤ i)
  bytes_missing (Some bytes) part = tt
  bytes_missing None part = λ whole.
      let ends = between 0 frames i outbox_frame whole.0 is in
      elim part.0 [
        | inl early ↦ absurd (omega (arith, early, ends.0, starts))
        | inr late ↦ absurd (omega (arith, late, ends.1, whole.1))
      ]
