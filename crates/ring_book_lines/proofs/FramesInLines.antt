-- Frames in the lines, and their numbers among all frames.
use Rattle.std.proofs.Common.{◌≡◌, ℕ, zero, suc, ◌+◌, ◌++◌, ◌≤◌, ◌∙◌, Bool, true, false, List, []}
use Rattle.std.proofs.Common.{◌∷◌, Option, None, Some, length, take, slice_get, refl, ap, subst, sym, arith, length-append}
use Rattle.std.specs.Prelude.{if◌then◌else◌, IsTrue, ◌↔◌, IfSome, IsSomeAnd}
use Rattle.std.specs.List.{AllByRecursion}
use Rattle.std.specs.Option.{option_and_then}
use Rattle.ring_base.proofs.Cases.{guarded_some}
use Rattle.ring_base.proofs.Each.{each-get}
use Rattle.ring_order_proof.specs.Limits.{SentFits}
use Rattle.ring_base.specs.Processors.{has}
use Rattle.ring_base.proofs.ListPlaces.{get-left}
use Rattle.ring_core_spec.specs.State.{OutgoingFrame, Transmission, frame_at}
use Rattle.ring_wire.specs.declared.frame.Frame.{Frame}
use Rattle.ring_wire.specs.Frames.{FrameFits, frame_format, encoding_of}
use Rattle.ring_wire.specs.Prefixes.{same_prefix}
use Rattle.ring_node_spec.specs.Worlds.{carried_frames}
use Rattle.ring_book_lines.specs.declared.frame_ref.FrameRef.{FrameRef}
use Rattle.ring_book_lines.specs.Events.{frames_of, frame_number}
use Rattle.ring_book_lines.specs.Lines.{frame_for, frame_to, sent_at}
use Rattle.ring_book_lines.specs.Steps.{LineView}

get-right : {X : Type 0} (xs ys : List X) (k n : ℕ) → n ≡ length xs + k → slice_get (xs ++ ys) n ≡ slice_get ys k
get-right [] ys k n e = ap (slice_get ys) (omega arith)
get-right (x ∷ xs) ys k zero e = absurd (omega arith)
get-right (x ∷ xs) ys k (suc n) e = get-right xs ys k n (omega arith)

-- a frame as its node sent it
abbrev by_node : {A : Type 0} → ℕ → OutgoingFrame A → Transmission A
by_node i s = record { from = i; to = s.to; frame = s.frame }

get-carried_frames : {A : Type 0} (i : ℕ) (sends : List (OutgoingFrame A)) (k : ℕ) (s : OutgoingFrame A) → slice_get sends k ≡ Some s
    → slice_get (carried_frames i sends) k ≡ Some (by_node i s)
get-carried_frames i [] zero s h = absurd cc
get-carried_frames i [] (suc k) s h = absurd cc
get-carried_frames {A} i (x ∷ sends) zero s h = let same : x ≡ s = cc in ap (λ (y : OutgoingFrame A). Some (by_node i y)) same
get-carried_frames i (x ∷ sends) (suc k) s h = get-carried_frames i sends k s h

frame_stands : {A : Type 0} (ls : List (LineView A)) (i place n : ℕ) (l : LineView A) (s : OutgoingFrame A) → slice_get ls i ≡ Some l
    → slice_get l.step.frames place ≡ Some s
    → n ≡ length (frames_of (take i ls)) + place → slice_get (frames_of ls) n ≡ Some (by_node l.step.node s)
frame_stands [] zero place n l s h g e = absurd cc
frame_stands [] (suc i) place n l s h g e = absurd cc
frame_stands {A} (x ∷ ls) zero place n l s h g e =
    let same : l ≡ x = cc in
    let there : slice_get l.step.frames n ≡ Some s = subst (λ (k : ℕ). slice_get l.step.frames k ≡ Some s) (omega arith) g in
    let first = get-carried_frames l.step.node l.step.frames n s there in
    get-left (carried_frames x.step.node x.step.frames) (frames_of ls) n (by_node l.step.node s)
    (subst (λ (y : LineView A). slice_get (carried_frames y.step.node y.step.frames) n ≡ Some (by_node l.step.node s)) same first)
frame_stands (x ∷ ls) (suc i) place n l s h g e =
    let k : ℕ = length (frames_of (take i ls)) + place in
    let at : n ≡ length (carried_frames x.step.node x.step.frames) + k = omega (arith, length-append (carried_frames x.step.node x.step.frames) (frames_of (take i ls))) in
    get-right (carried_frames x.step.node x.step.frames) (frames_of ls) k n at ∙ frame_stands ls i place k l s h g refl

-- the line and the frame at this place
pub record Stood {A : Type 0} (lines : List (LineView A)) (at : FrameRef) (s : OutgoingFrame A) : Type 0 where
  pub line : LineView A
  pub here : slice_get lines at.line ≡ Some line
  pub among : slice_get line.step.frames at.place ≡ Some s

stood_on : {A : Type 0} (o : Option (LineView A)) (place : ℕ) (s : OutgoingFrame A) → option_and_then (λ (l : LineView A). slice_get l.step.frames place) o ≡ Some s
    → (l : LineView A) × ((o ≡ Some l) × (slice_get l.step.frames place ≡ Some s))
stood_on None place s h = absurd cc
stood_on (Some l) place s h = (l, (refl, h))

stood : {A : Type 0} (lines : List (LineView A)) (at : FrameRef) (s : OutgoingFrame A) → sent_at lines at ≡ Some s → Stood lines at s
stood lines at s h = let t = stood_on (slice_get lines at.line) at.place s h in record { line = t.0; here = t.1.0; among = t.1.1 }

-- a frame whose receivers include the node
goes : {A : Type 0} (node : ℕ) (s : OutgoingFrame A) (f : Frame A) → frame_for node s ≡ Some f → (has s.to node ≡ true) × (s.frame ≡ f)
goes node s f h = let i = guarded_some (has s.to node) (Some s.frame) f h in (i.0, cc (i.1))

sent_to : {A : Type 0} (o : Option (OutgoingFrame A)) (node : ℕ) (f : Frame A) → option_and_then (frame_for node) o ≡ Some f
    → (s : OutgoingFrame A) × ((o ≡ Some s) × ((has s.to node ≡ true) × (s.frame ≡ f)))
sent_to None node f h = absurd cc
sent_to (Some s) node f h = (s, (refl, goes node s f h))

-- the frame at this place, with the node as a receiver, has its number among all frames
pub number_stands : {A : Type 0} (ls : List (LineView A)) (at : FrameRef) (node : ℕ) (f : Frame A) → frame_to ls at node ≡ Some f
    → (s : Transmission A) × ((frame_at (frames_of ls) (frame_number ls at) ≡ Some s) × ((s.frame ≡ f) × (has s.to node ≡ true)))
number_stands ls at node f h =
    let t = sent_to (sent_at ls at) node f h in
    let u = stood ls at t.0 t.1.0 in (
      by_node u.line.step.node t.0,
      (frame_stands ls at.line at.place (length (frames_of (take at.line ls)) + at.place) u.line t.0 u.here u.among refl, (t.1.1.1, t.1.1.0)),
    )

-- Look-ups in slices

past : {X : Type 0} (xs : List X) (i : ℕ) → length xs ≤ i → None ≡ slice_get xs i
past [] zero h = refl
past [] (suc i) h = refl
past (x ∷ xs) zero h = absurd (omega arith)
past (x ∷ xs) (suc i) h = past xs i (omega arith)

-- Encodings

-- a frame has one encoding, and no other frame has it
one_frame : {A : Type 0} (f g : Frame A) → FrameFits f → FrameFits g → encoding_of f ≡ encoding_of g → f ≡ g
one_frame f g h k e = (same_prefix frame_format f g [] [] h k (ap (λ (xs : List ℕ). xs ++ []) e)).0

-- two byte lists are the same exactly where their frames are
pub same_frame : {A : Type 0} (f g : Frame A) (bytes text : List ℕ) (b : Bool) → FrameFits f → FrameFits g → bytes ≡ encoding_of f → text ≡ encoding_of g
    → IsTrue b ↔ (bytes ≡ text) → IsTrue b ↔ (f ≡ g)
same_frame f g bytes text b h k first second same =
    ((λ t. one_frame f g h k (sym first ∙ (same.0 t ∙ second))), (λ e. same.1 (first ∙ (ap encoding_of e ∙ sym second))))

-- a frame at this place is within the limits, if all are
fits_if : {A : Type 0} (b : Bool) (s : OutgoingFrame A) → SentFits s → IfSome (if b then Some s.frame else None) FrameFits
fits_if true s h = h
fits_if false s h = tt

fits_for : {A : Type 0} (node : ℕ) (o : Option (OutgoingFrame A)) → ((s : OutgoingFrame A) → o ≡ Some s → SentFits s) → IfSome (option_and_then (frame_for node) o) FrameFits
fits_for node None h = tt
fits_for node (Some s) h = fits_if (has s.to node) s (h s refl)

pub fits_there : {A : Type 0} (sends : List (OutgoingFrame A)) (place node : ℕ) → AllByRecursion SentFits sends
    → IfSome (option_and_then (frame_for node) (slice_get sends place)) FrameFits
fits_there sends place node h = fits_for node (slice_get sends place) (λ s e. each-get SentFits sends place s h e)

-- the frame at this place has the encoding of a frame exactly where it is that frame
pub same_there : {A : Type 0} (o : Option (Frame A)) (f : Frame A) (text : List ℕ) (b : Bool) → IfSome o FrameFits → FrameFits f → text ≡ encoding_of f
    → IsTrue b ↔ IsSomeAnd o (λ g. encoding_of g ≡ text) → IsTrue b ↔ (o ≡ Some f)
same_there None f text b h k e same = ((λ t. absurd (same.0 t)), (λ is. absurd (cc is)))
same_there {A} (Some g) f text b h k e same = (
  (λ t. ap (λ (x : Frame A). Some x) (one_frame g f h k (same.0 t ∙ e))),
  (λ is. (let one : g ≡ f = cc in same.1 (ap encoding_of one ∙ sym e))),
)
