-- One more frame is stored, and the frame of a number is found.
use Rattle.std.proofs.Common.{◌≡◌, ℕ, zero, suc, ◌+◌, ◌-◌, ◌≤◌, true, false, List, [], ◌∷◌, ◌++◌}
use Rattle.std.proofs.Common.{length, take, Option, Some, None, slice_get, refl, ap, ◌∙◌, sym, subst}
use Rattle.std.proofs.Common.{arith, append-nil, append_assoc, length-append, inl, inr}
use Rattle.std.specs.Prelude.{slice_range, option_map, drop, IfSome, IsSome, ◌↔◌}
use Rattle.std.specs.List.{AllByRecursion as Each}
use Rattle.std.proofs.lemmas.Bool.{cond-true, cond-false}
use Rattle.std.proofs.lemmas.List.{take_at, drop_at, take-append-drop}
use Rattle.std.proofs.lemmas.Option.{cond_some}
use Rattle.ring_core_spec.proofs.Carrying.{at_fits}
use Rattle.ring_base.proofs.Cases.{guarded_none}
use Rattle.ring_base.proofs.Each.{each-push}
use Rattle.ring_base.specs.Processors.{has}
use Rattle.ring_base.specs.declared.fault.Fault.{Fault}
use Rattle.ring_base.specs.declared.fault.Fault.TheVariants.{Memory, BadFrame}
use Rattle.ring_wire.specs.declared.frame.Frame.{Frame}
use Rattle.ring_wire.specs.Frames.{encoding_of, FrameFits}
use Rattle.ring_wire.specs.Prefixes.{IsReadFault, IsEncodedPrefix, HasNoEncodedPrefix}
use Rattle.ring_wire.specs.IsFrameEncoding.{IsFrameEncoding}
use Rattle.ring_core_spec.specs.State.{Transmission, frame_at, frame_for}
use Rattle.ring_world.specs.declared.frame_store.FramePosition.{FramePosition}
use Rattle.ring_world.specs.StoredFramesView.{text_of, position_of, positions_from, AreFrames, position_at, position_for}

-- One more

text_of-push : {A : Type 0} (fs : List (Transmission A)) (f : Transmission A) → text_of (fs ++ f ∷ []) ≡ text_of fs ++ encoding_of f.frame
text_of-push [] f = append-nil (encoding_of f.frame)
text_of-push (g ∷ fs) f = ap (λ t. encoding_of g.frame ++ t) (text_of-push fs f) ∙ sym (append_assoc (encoding_of g.frame) (text_of fs) (encoding_of f.frame))

positions_from-push : {A : Type 0} (at : ℕ) (fs : List (Transmission A)) (f : Transmission A) → positions_from at (fs ++ f ∷ [])
    ≡ positions_from at fs ++ position_of (at + length (text_of fs)) f ∷ []
positions_from-push at [] f = ap (λ n. position_of n f ∷ []) (let e : at ≡ at + 0 = omega arith in e)
positions_from-push at (g ∷ fs) f =
    let n = length (encoding_of g.frame) in
    let e : (at + n) + length (text_of fs) ≡ at + length (encoding_of g.frame ++ text_of fs) =
    omega (arith, length-append (encoding_of g.frame) (text_of fs)) in
    ap (λ ms. position_of at g ∷ ms) (positions_from-push (at + n) fs f ∙ ap (λ k. positions_from (at + n) fs ++ position_of k f ∷ []) e)

mark_is : (m : FramePosition) (s e f t : ℕ) → m.start ≡ s → m.end ≡ e → m.sender ≡ f → m.to ≡ t → m ≡ record { start = s; end = e; sender = f; to = t }
mark_is m s e f t a b c d =
    let one : ℕ → FramePosition = λ x. record { start = x; end = m.end; sender = m.sender; to = m.to } in
    let two : ℕ → FramePosition = λ x. record { start = s; end = x; sender = m.sender; to = m.to } in
    let three : ℕ → FramePosition = λ x. record { start = s; end = e; sender = x; to = m.to } in
    let four : ℕ → FramePosition = λ x. record { start = s; end = e; sender = f; to = x } in
    ap one a ∙ ap two b ∙ ap three c ∙ ap four d

pub kept : {A : Type 0} (frames frames' : List (Transmission A)) (bytes bytes' : List ℕ) (positions positions' : List FramePosition)
    (f : Transmission A) (m : FramePosition) → AreFrames frames bytes positions →
    FrameFits f.frame → frames' ≡ frames ++ f ∷ [] → bytes' ≡ bytes ++ encoding_of f.frame → positions' ≡ positions ++ m ∷ []
    → m.start ≡ length bytes → m.end ≡ length bytes' → m.sender ≡ f.from → m.to ≡ f.to →
    AreFrames frames' bytes' positions'
kept {A} frames frames' bytes bytes' positions positions' f m h fits a b c start end from to =
    let same : length bytes ≡ 0 + length (text_of frames) = ap length h.text
    ∙ (let e : length (text_of frames) ≡ 0 + length (text_of frames) = omega arith in e) in
    let ends : m.end ≡ m.start + length (encoding_of f.frame) = end ∙ ap length b ∙ length-append bytes
    (encoding_of f.frame) ∙ ap (λ n. n + length (encoding_of f.frame)) (sym start) in
    let is : m ≡ position_of (0 + length (text_of frames)) f =
    mark_is m (0 + length (text_of frames)) ((0 + length (text_of frames)) + length (encoding_of f.frame)) f.from f.to (start ∙ same)
    (ends ∙ ap (λ n. n + length (encoding_of f.frame)) (start ∙ same)) from to in
    record {
      text = b ∙ ap (λ t. t ++ encoding_of f.frame) h.text ∙ sym (text_of-push frames f) ∙ ap text_of (sym a);
      marks_are = c ∙ ap (λ ms. ms ++ m ∷ []) h.marks_are ∙ ap (λ x. positions_from 0 frames ++ x ∷ []) is
          ∙ sym (positions_from-push 0 frames f) ∙ ap (positions_from 0) (sym a);
      fit = subst (Each (λ (g : Transmission A). FrameFits g.frame)) (sym a) (each-push (λ (g : Transmission A). FrameFits g.frame) frames f h.fit fits);
    }

-- A frame is found

pub record IsMarkOf {A : Type 0} (bytes : List ℕ) (m : FramePosition) (o : Option (Transmission A)) : Type 0 where
  pub sent : Transmission A
  pub there : o ≡ Some sent
  pub from : m.sender ≡ sent.from
  pub to : m.to ≡ sent.to
  pub order : m.start ≤ m.end
  pub within : m.end ≤ length bytes
  pub encoded : slice_range bytes m.start m.end ≡ encoding_of sent.frame

range_at : (before text after : List ℕ) → slice_range (before ++ (text ++ after)) (length before) (length before + length text) ≡ text
range_at before text after =
    let n : (length before + length text) - length before ≡ length text = omega arith in
    ap (λ xs. take ((length before + length text) - length before) xs)
    (drop_at before (text ++ after) (length before) refl) ∙ ap (λ k. take k (text ++ after)) n
    ∙ take_at text after (length text) refl

module _ {A : Type 0} where
  first_mark : (before : List ℕ) (f : Transmission A) (fs : List (Transmission A)) (m : FramePosition) → position_of (length before) f ≡ m
      → IsMarkOf (before ++ text_of (f ∷ fs)) m (Some f)
  first_mark before f fs m e =
      subst (λ x. IsMarkOf (before ++ text_of (f ∷ fs)) x (Some f)) e (record {
        sent = f;
        there = refl;
        from = refl;
        to = refl;
        order = omega arith;
        within = (let a = length-append before (encoding_of f.frame ++ text_of fs) in let b = length-append
            (encoding_of f.frame) (text_of fs) in omega (arith, a, b));
        encoded = range_at before (encoding_of f.frame) (text_of fs);
      })

  mark_found : (before : List ℕ) (fs : List (Transmission A)) (k : ℕ) (m : FramePosition)
      → slice_get (positions_from (length before) fs) k ≡ Some m → IsMarkOf (before ++ text_of fs) m (slice_get fs k)
  mark_found before [] k m e = absurd (let q : ⊥ = cc in q)
  mark_found before (f ∷ fs) zero m e = first_mark before f fs m (cc e)
  mark_found before (f ∷ fs) (suc k) m e =
      let sp = encoding_of f.frame in
      let same : slice_get (positions_from (length (before ++ sp)) fs) k ≡ Some m = ap (λ n. slice_get (positions_from n fs) k) (length-append before sp) ∙ e in
      subst (λ bytes. IsMarkOf bytes m (slice_get fs k)) (append_assoc before sp (text_of fs)) (mark_found (before ++ sp) fs k m same)

  mark_missing : (at : ℕ) (fs : List (Transmission A)) (k : ℕ) → slice_get (positions_from at fs) k ≡ None → slice_get fs k ≡ None
  mark_missing at [] k e = refl
  mark_missing at (f ∷ fs) zero e = absurd (let q : ⊥ = cc e in q)
  mark_missing at (f ∷ fs) (suc k) e = mark_missing (at + length (encoding_of f.frame)) fs k e

  pub number_found : (frames : List (Transmission A)) (bytes : List ℕ) (positions : List FramePosition) (number : ℕ) (m : FramePosition)
      → AreFrames frames bytes positions → position_at positions number ≡ Some m →
      IsMarkOf bytes m (frame_at frames number)
  number_found frames bytes positions zero m h e = absurd (let q : ⊥ = cc e in q)
  number_found frames bytes positions (suc k) m h e =
      subst (λ xs. IsMarkOf xs m (slice_get frames k)) (sym h.text) (mark_found [] frames k m (ap (λ ms. slice_get ms k) (sym h.marks_are) ∙ e))

  pub number_missing : (frames : List (Transmission A)) (bytes : List ℕ) (positions : List FramePosition) (number : ℕ)
      → AreFrames frames bytes positions → position_at positions number ≡ None → frame_at frames number ≡ None
  number_missing frames bytes positions zero h e = refl
  number_missing frames bytes positions (suc k) h e = mark_missing 0 frames k (ap (λ ms. slice_get ms k) (sym h.marks_are) ∙ e)

  -- the frame of this number, if it was sent to the processor
  pub record IsFor (bytes : List ℕ) (m : FramePosition) (o : Option (Frame A)) : Type 0 where
    pub frame : Frame A
    pub there : o ≡ Some frame
    pub fits : FrameFits frame
    pub order : m.start ≤ m.end
    pub within : m.end ≤ length bytes
    pub encoded : slice_range bytes m.start m.end ≡ encoding_of frame

  for_mark : (frames : List (Transmission A)) (bytes : List ℕ) (positions : List FramePosition) (h : AreFrames frames bytes positions)
      (node number : ℕ) (n m : FramePosition) → position_at positions number ≡ Some n →
      position_for node (Some n) ≡ Some m → IsFor bytes m (frame_for node (frame_at frames number))
  for_mark frames bytes positions h node number n m at e =
      let one = cond_some (has n.to node) n m e in
      let is = number_found frames bytes positions number m h (at ∙ ap Some one.1) in
      let to : has is.sent.to node ≡ true = ap (λ s. has s node) (sym is.to ∙ ap (λ (x : FramePosition). x.to) (sym one.1)) ∙ one.0 in
      record {
        frame = is.sent.frame;
        there = ap (frame_for node) is.there ∙ cond-true (has is.sent.to node) (Some is.sent.frame) None to;
        fits = at_fits frames number is.sent h.fit is.there;
        order = is.order;
        within = is.within;
        encoded = is.encoded;
      }

  pub for_found : (frames : List (Transmission A)) (bytes : List ℕ) (positions : List FramePosition) (h : AreFrames frames bytes positions)
      (node number : ℕ) (o : Option FramePosition) (m : FramePosition) → position_at positions number ≡ o →
      position_for node o ≡ Some m → IsFor bytes m (frame_for node (frame_at frames number))
  for_found frames bytes positions h node number None m at e = absurd (let q : ⊥ = cc e in q)
  for_found frames bytes positions h node number (Some n) m at e = for_mark frames bytes positions h node number n m at e

  pub for_missing : (frames : List (Transmission A)) (bytes : List ℕ) (positions : List FramePosition)
      (h : AreFrames frames bytes positions) (node number : ℕ) (o : Option FramePosition) → position_at positions number ≡ o →
      position_for node o ≡ None → frame_for node (frame_at frames number) ≡ None
  for_missing frames bytes positions h node number None at e = ap (frame_for node) (number_missing frames bytes positions number h at)
  for_missing frames bytes positions h node number (Some n) at e =
      let is = number_found frames bytes positions number n h at in
      let to : has is.sent.to node ≡ false = ap (λ s. has s node) (sym is.to) ∙ guarded_none (has n.to node) n e in
      ap (frame_for node) is.there ∙ cond-false (has is.sent.to node) (Some is.sent.frame) None to

  pub ends_are : (bytes : List ℕ) (m : FramePosition) (o : Option (Transmission A)) → IsMarkOf bytes m o → ◌≡◌ {A = Option (ℕ × ℕ)}
      (Some (m.sender, m.to)) (option_map (λ (f : Transmission A). (f.from, f.to)) o)
  ends_are bytes m o h =
      let first : ℕ → Option (ℕ × ℕ) = λ n. Some (n, m.to) in
      let second : ℕ → Option (ℕ × ℕ) = λ n. Some (h.sent.from, n) in
      ap first h.from ∙ ap second h.to ∙ ap (option_map (λ (f : Transmission A). (f.from, f.to))) (sym h.there)

  -- What reading puts into a place

  -- where the bytes encode the frame
  pub put_is : (text : List ℕ) (place : Option (Frame A)) (n : ℕ) (frame : Frame A) → IsFrameEncoding frame text
      → ((f : Frame A) (t : List ℕ) → IsFrameEncoding f t ↔ (FrameFits f × (t ≡ encoding_of f)))
      → ((f g : Frame A) (a b x y : List ℕ) → IsFrameEncoding f a → IsFrameEncoding g b → a ++ x ≡ b ++ y → (f ≡ g) × (a ≡ b))
      → IfSome place (λ f. IsEncodedPrefix encoding_of FrameFits text f n) → IsSome place → place ≡ Some frame
  put_is text None n frame s encodes one got some = absurd (let no : false ≡ true = some in cc)
  put_is text (Some f) n frame s encodes one got some =
      let parts : encoding_of f ++ drop n text ≡ text ++ [] =
      ap (λ (t : List ℕ). t ++ drop n text) (sym got.front) ∙ take-append-drop n text ∙ sym (append-nil text) in
      ap Some (one f frame (encoding_of f) text (drop n text) [] ((encodes f (encoding_of f)).1 (got.fits, refl)) s parts).0

  -- where they do, only memory is refused
  pub put_refused : (text : List ℕ) (fault : Fault) (frame : Frame A) → IsFrameEncoding frame text
      → ((f : Frame A) (t : List ℕ) → IsFrameEncoding f t ↔ (FrameFits f × (t ≡ encoding_of f)))
      → (fault ≡ BadFrame → HasNoEncodedPrefix {A = Frame A} encoding_of FrameFits text) → IsReadFault fault → fault ≡ Memory
  put_refused text fault frame s encodes bad (inl b) =
      let h = (encodes frame text).0 s in
      absurd (bad b frame [] h.0 (h.1 ∙ sym (append-nil (encoding_of frame))))
  put_refused text fault frame s encodes bad (inr m) = m
