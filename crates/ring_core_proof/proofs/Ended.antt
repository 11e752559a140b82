-- In Recovery, once a core has sent its End, nothing is left to wrap: each message of the old ring that it takes from
-- then on comes as the inner message of a Wrapped.
use Rattle.std.proofs.Common.{◌≡◌, ℕ, suc, ◌<◌, ◌≤◌, ◌⊎◌, inl, inr, true, ◌&&◌, ◌==◌, List, [], ◌∷◌, ◌++◌, Some, refl, ap, sym, ◌∙◌, subst, arith}
use Rattle.std.specs.Prelude.{reverse}
use Rattle.std.specs.List.{AllByRecursion as Each}
use Rattle.std.proofs.lemmas.Bool.{cond_both, and_parts, and_from, eq-eqb, eqb-true}
use Rattle.ring_base.specs.Rings.{same_ring}
use Rattle.ring_base.specs.declared.ring_id.RingId.{RingId}
use Rattle.ring_base.specs.declared.state.State.{State}
use Rattle.ring_base.specs.declared.state.State.TheVariants.{Gather, Commit, Recovery, Operational, Stopped}
use Rattle.ring_base.proofs.Each.{each-weaker, each-reverse}
use Rattle.ring_payload.specs.declared.content.Payload.{Payload}
use Rattle.ring_payload.specs.declared.content.Payload.TheVariants.{Call, Wrapped, End, Head, Part, Pack, Snap}
use Rattle.ring_payload.specs.declared.content.Wrapped.{Wrapped as WrappedMessage}
use Rattle.ring_wire.specs.declared.frame.Frame.{Frame}
use Rattle.ring_wire.specs.declared.message.Message.{Message}
use Rattle.ring_wire.specs.declared.token.Token.{Token}
use Rattle.ring_core_spec.specs.Windows.{is_numbered, found, is_new}
use Rattle.ring_base.proofs.SameRing.{ring_same}
use Rattle.ring_core_spec.specs.Tokens.{TokenVisit, numbered}
use Rattle.ring_core_spec.specs.Commits.{Configuration}
use Rattle.ring_core_spec.specs.Recoveries.{is_wrap_of, inner_messages, inner_message}
use Rattle.ring_core_spec.specs.declared.input.Input.{Input}
use Rattle.ring_core_spec.specs.State.{Core, floor, opening}
use Rattle.ring_core_spec.specs.Views.{mark}
use Rattle.ring_core_spec.specs.Transitions.{old_ring_messages, message_taken}
use Rattle.ring_core_spec.specs.Stepping.{after_inputs}
use Rattle.ring_core_spec.proofs.Tokens.{numbered-ring}
use Rattle.ring_core_proof.specs.FactWords.{IsIn}
use Rattle.ring_core_proof.specs.LawConditions.{EndsWrapping, HasEnded}
pub use Rattle.ring_core_proof.specs.WindowBounds.{HasRingOrder, HasOrderedRings}
use Rattle.ring_core_proof.specs.Moves.{Move, Idles, Enters, Learns, Visits, Takes, Installs, turn_with, core_after_move, MayMove, is_seen, IsWrapping, AreLast, AreWraps}
use Rattle.ring_core_proof.proofs.InLists.{in-left, in-right, in-parts, in-each, each-in, in-reverse, some-each}
use Rattle.ring_core_proof.proofs.WrapsAndEnd.{seen_by, seen_of}
use Rattle.ring_core_proof.proofs.KeptByMoves.{IsKeptByMoves, always}

-- The order of rings and visits

pub installed_below : {A : Type 0} → (s : State) (running installed : Configuration) (turns : List (TokenVisit A)) → HasRingOrder s running installed turns →
    installed.ring.seq ≤ running.ring.seq
installed_below Gather running installed turns h = h
installed_below Commit running installed turns h = omega (arith, h.0)
installed_below Recovery running installed turns h = omega (arith, h)
installed_below Operational running installed turns h =
    (let e : installed.ring.seq ≡ running.ring.seq = ap (λ (x : Configuration). x.ring.seq) h in omega arith)
installed_below Stopped running installed turns h = h

left_stands : {A : Type 0} → (now next : State) (running installed : Configuration) (turns : List (TokenVisit A)) →
    (next ≡ now) ⊎ ((next ≡ Gather) ⊎ (next ≡ Stopped)) → HasRingOrder now running installed turns → HasRingOrder next running installed turns
left_stands now next running installed turns (inl e) h = subst (λ s. HasRingOrder s running installed turns) (sym e) h
left_stands now next running installed turns (inr (inl e)) h =
    subst (λ s. HasRingOrder s running installed turns) (sym e) (installed_below now running installed turns h)
left_stands now next running installed turns (inr (inr e)) h =
    subst (λ s. HasRingOrder s running installed turns) (sym e) (installed_below now running installed turns h)

-- one more visit keeps it
turned_stands : {A : Type 0} → (s : State) (running installed : Configuration) (v : TokenVisit A) (turns : List (TokenVisit A)) → (s ≡ Recovery) ⊎ (s ≡ Operational) →
    HasRingOrder s running installed turns → HasRingOrder s running installed (v ∷ turns)
turned_stands s running installed v turns (inl e) h =
    subst (λ s. HasRingOrder s running installed (v ∷ turns)) (sym e) (subst (λ s. HasRingOrder s running installed turns) e h)
turned_stands s running installed v turns (inr e) h =
    subst (λ s. HasRingOrder s running installed (v ∷ turns)) (sym e) (subst (λ s. HasRingOrder s running installed turns) e h)

pub moved_placed : {A : Type 0} → (received : Frame A → Type 0) (c : Core A) (m : Move A) → MayMove received c m → HasOrderedRings c → HasOrderedRings (core_after_move c m)
moved_placed received c (Idles state gathering last_sent queue sends) h p =
    record { stands = left_stands c.state state c.running c.installed c.turns h.leaves p.stands; turns = p.turns }
moved_placed {A} received c (Enters k) h p =
    let below : c.installed.ring.seq ≤ floor c = installed_below c.state c.running c.installed c.turns p.stands in
    let above : floor c < k.ring.seq = h.above in
    let older = each-weaker (λ (v : TokenVisit A). v.received.ring.seq ≤ floor c) (λ (v : TokenVisit A). v.received.ring.seq < k.ring.seq) (λ v l. omega arith) c.turns p.turns in
    record { stands = (omega arith, older); turns = each-weaker _ _ (λ (v : TokenVisit A) l. omega arith) c.turns older }
moved_placed received c (Learns k) h p = record { stands = (subst (λ s. HasRingOrder s c.running c.installed c.turns) h.state p.stands).0; turns = p.turns }
moved_placed received c (Visits t fresh requests again queue) h p =
    let r : t.ring.seq ≡ floor c = ap (λ (r : RingId). r.seq) h.ring in
    record { stands = turned_stands c.state c.running c.installed (turn_with c t fresh requests) c.turns h.state p.stands; turns = (omega arith, p.turns) }
moved_placed received c (Takes x) h p = record { stands = p.stands; turns = p.turns }
moved_placed received c Installs h p = record { stands = refl; turns = p.turns }

-- More messages are held

-- a message found among more messages is a new one, or was found before
found-append : {A : Type 0} → (xs ys : List (Message A)) (ring : RingId) (n : ℕ) (x : Message A) → found (xs ++ ys) ring n ≡ Some x →
    (IsIn x xs × (x.ring ≡ ring) × (x.number ≡ n)) ⊎ (found ys ring n ≡ Some x)
found-append [] ys ring n x e = inr e
found-append {A} (y ∷ xs) ys ring n x e =
    cond_both (is_numbered ring n y) (Some y) (found (xs ++ ys) ring n)
    (λ o. o ≡ Some x → (IsIn x (y ∷ xs) × (x.ring ≡ ring) × (x.number ≡ n)) ⊎ (found ys ring n ≡ Some x))
    (λ t k. (let same : y ≡ x = cc in
    let p = and_parts (same_ring y.ring ring) (y.number == n) t in
    inl (
      inl (sym same),
      ap (λ (z : Message A). z.ring) (sym same) ∙ ring_same y.ring ring p.0,
      ap (λ (z : Message A). z.number) (sym same) ∙ eqb-true y.number n p.1,
    )))
    (λ t k. elim (found-append xs ys ring n x k) [ inl (i, r, m) ↦ inl (inr i, r, m) | inr f ↦ inr f ]) e

-- each payload is sent in one of the messages
record IsCarried {A : Type 0} (ring : RingId) (xs : List (Message A)) (p : Payload A) : Type 0 where
  pub message : Message A
  pub there : IsIn message xs
  pub ring_is : message.ring ≡ ring
  pub payload_is : message.payload ≡ p

module _ {A : Type 0} (c : Core A) (more : List (Message A)) where
  abbrev grown : Core A
  grown = record c { held = more ++ c.held }

  seen_grows : (n : ℕ) → is_seen c n ≡ true → is_seen grown n ≡ true
  seen_grows n h =
      let (x, i, r, t) = seen_of c.held c.running.ring c.installed.ring n h in
      seen_by (more ++ c.held) c.running.ring c.installed.ring n x (in-right x more c.held i) r t

  carried_seen : (n : ℕ) (p : Payload A) → IsCarried c.running.ring more p → is_wrap_of c.installed.ring n p ≡ true → is_seen grown n ≡ true
  carried_seen n p k t =
      seen_by (more ++ c.held) c.running.ring c.installed.ring n k.message (in-left k.message more c.held k.there) k.ring_is
      (ap (is_wrap_of c.installed.ring n) k.payload_is ∙ t)

  -- where these messages wrap all that was left, and those of the installed ring among them come with their Wrapped,
  -- nothing is left to wrap
  none_after : (wraps : List (Payload A)) → Each (IsCarried c.running.ring more) wraps →
      ((x : Message A) → IsIn x more → x.ring ≡ c.installed.ring → is_seen grown x.number ≡ true) → AreLast c wraps → AreLast grown []
  none_after wraps carried new last n x l e u =
      elim (found-append more c.held c.installed.ring n x e) [
        | inl (i, r, m) ↦ inl (subst (λ k. is_seen grown k ≡ true) m (new x i r))
        | inr f ↦ elim (last n x l f u) [
          | inl s ↦ inl (seen_grows n s)
          | inr w ↦
              inl (some-each (IsCarried c.running.ring more) (λ p. is_wrap_of c.installed.ring n p ≡ true)
              (is_seen grown n ≡ true) (carried_seen n) wraps carried w)
        ]
      ]

-- Visiting

numbered-carries : {A : Type 0} → (ring : RingId) (me seq : ℕ) (ps : List (Payload A)) (p : Payload A) → IsIn p ps → IsCarried ring (numbered ring me seq ps) p
numbered-carries ring me seq [] p i = absurd i
numbered-carries ring me seq (q ∷ ps) p (inl e) =
    record { message = record { ring = ring; number = suc seq; sender = me; payload = q }; there = inl refl; ring_is = refl; payload_is = sym e }
numbered-carries ring me seq (q ∷ ps) p (inr i) =
    (let k = numbered-carries ring me (suc seq) ps p i in record { message = k.message; there = inr k.there; ring_is = k.ring_is; payload_is = k.payload_is })

module _ {A : Type 0} (c : Core A) (below : c.installed.ring.seq < floor c) (t : Token) (fresh : List (Payload A)) (ring : t.ring ≡ c.running.ring) where
  abbrev new : List (Message A)
  new = reverse (numbered t.ring c.me t.seq fresh)

  new_ring : (x : Message A) → IsIn x new → x.ring ≡ c.running.ring
  new_ring x i =
      let OfRing : Message A → Type 0 = λ x. x.ring ≡ t.ring in
      let each = each-reverse OfRing (numbered t.ring c.me t.seq fresh) (numbered-ring t.ring c.me t.seq fresh) in
      in-each OfRing x new each i ∙ ring

  new_carries : (p : Payload A) → IsIn p fresh → IsCarried c.running.ring new p
  new_carries p i =
      let k = numbered-carries t.ring c.me t.seq fresh p i in
      let there = in-reverse k.message (numbered t.ring c.me t.seq fresh) k.there in
      record { message = k.message; there = there; ring_is = k.ring_is ∙ ring; payload_is = k.payload_is }

  visit_after : (wraps : List (Payload A)) → ((p : Payload A) → IsIn p wraps → IsIn p fresh) → AreLast c wraps → AreLast (grown c new) []
  visit_after wraps in_fresh last =
      none_after c new wraps (each-in (IsCarried c.running.ring new) wraps (λ p i. new_carries p (in_fresh p i)))
      (λ x i e. (let s : floor c ≡ c.installed.ring.seq = ap (λ (r : RingId). r.seq) (sym (new_ring x i) ∙ e) in absurd (omega arith))) last

  -- an End among the new messages is the last of them
  end_last : AreWraps c fresh → IsIn End fresh → AreLast (grown c new) []
  end_last ws i =
      let P : List (Payload A) → Type 0 = λ ps. IsIn End ps in
      elim (in-parts End ws.wraps ws.ends (subst P ws.parts i)) [
        | inl w ↦ (let (m, e, h) = in-each (IsWrapping c) End ws.wraps ws.handed w in absurd (let x : ⊥ = cc in x))
        | inr k ↦ elim (ws.ended) [
          | inl none ↦ absurd (subst P none k)
          | inr end ↦ visit_after ws.wraps (λ p j. subst (λ ps. IsIn p ps) (sym ws.parts) (in-left p ws.wraps ws.ends j)) end.last
        ]
      ]

-- Taking

-- an inner message comes with its Wrapped
inner_wrapped : {A : Type 0} → (old : RingId) (m : ℕ) (held : List (Message A)) (w : WrappedMessage A) →
    Each (λ (y : Message A). is_wrap_of old y.number (Wrapped w) ≡ true) (inner_messages old m held (Wrapped w))
inner_wrapped {A} old m held w =
    cond_both (same_ring w.ring old && is_new held m old w.number) (inner_message w ∷ []) [] (Each (λ (y : Message A). is_wrap_of old y.number (Wrapped w) ≡ true))
    (λ t. (let p = and_parts (same_ring w.ring old) (is_new held m old w.number) t in
    (and_from (same_ring w.ring old) (w.number == w.number) p.0 (eq-eqb w.number w.number refl), tt)))
    (λ t. tt)

unwrapped_wrapped : {A : Type 0} → (old : RingId) (m : ℕ) (held : List (Message A)) (p : Payload A) →
    Each (λ (y : Message A). is_wrap_of old y.number p ≡ true) (inner_messages old m held p)
unwrapped_wrapped old m held (Wrapped w) = inner_wrapped old m held w
unwrapped_wrapped old m held (Call call) = tt
unwrapped_wrapped old m held End = tt
unwrapped_wrapped old m held (Head head) = tt
unwrapped_wrapped old m held (Part part) = tt
unwrapped_wrapped old m held (Pack pack) = tt
unwrapped_wrapped old m held (Snap snap) = tt

gives_wrapped : {A : Type 0} → (s : State) (c : Core A) (x : Message A) →
    Each (λ (y : Message A). is_wrap_of c.installed.ring y.number x.payload ≡ true) (old_ring_messages s c x)
gives_wrapped Recovery c x = unwrapped_wrapped c.installed.ring (mark c c.installed.ring) c.held x.payload
gives_wrapped Gather c x = tt
gives_wrapped Commit c x = tt
gives_wrapped Operational c x = tt
gives_wrapped Stopped c x = tt

take_after : {A : Type 0} → (c : Core A) (x : Message A) → c.installed.ring.seq < floor c → x.ring ≡ c.running.ring → AreLast c [] → AreLast (message_taken c x) []
take_after {A} c x below ring last =
    let given = old_ring_messages c.state c x in
    let IsInner : Message A → Type 0 = λ y. is_wrap_of c.installed.ring y.number x.payload ≡ true in
    let other : x.ring ≡ c.installed.ring → ⊥ = λ e. (let s : floor c ≡ c.installed.ring.seq = ap (λ (r : RingId). r.seq) (sym ring ∙ e) in omega arith) in
    let one = none_after c (x ∷ []) [] tt
    (λ y i e. elim i [
      | inl same ↦ absurd (other (ap (λ (z : Message A). z.ring) (sym same) ∙ e))
      | inr none ↦ absurd none
    ]) last in
    none_after (grown c (x ∷ [])) given [] tt
    (λ y i e. seen_by (given ++ x ∷ c.held) c.running.ring c.installed.ring y.number x (in-right x given (x ∷ c.held) (inl refl)) ring
    (in-each IsInner y given (gives_wrapped c.state c x) i))
    one

-- Each move

pub record IsOver {A : Type 0} (c : Core A) : Type 0 where
  pub placed : HasOrderedRings c
  pub ended : HasEnded c

moved_ended : {A : Type 0} → (received : Frame A → Type 0) (c : Core A) (m : Move A) → MayMove received c m → IsOver c → HasEnded (core_after_move c m)
moved_ended received c (Idles state gathering last_sent queue sends) h o s =
    elim (h.leaves) [
      | inl e ↦ o.ended (sym e ∙ s)
      | inr (inl e) ↦ absurd (let q : Gather ≡ Recovery = sym e ∙ s in let x : ⊥ = cc in x)
      | inr (inr e) ↦ absurd (let q : Stopped ≡ Recovery = sym e ∙ s in let x : ⊥ = cc in x)
    ]
moved_ended received c (Enters k) h o s = absurd (let x : ⊥ = cc in x)
moved_ended {A} received c (Learns k) h o s =
    let older = (subst (λ s. HasRingOrder s c.running c.installed c.turns) h.state o.placed.stands).1 in
    each-weaker (λ (v : TokenVisit A). v.received.ring.seq < floor c) (EndsWrapping (core_after_move c (Learns k)))
    (λ v l e i. (let q : v.received.ring.seq ≡ floor c = ap (λ (r : RingId). r.seq) e in absurd (omega arith))) c.turns older
moved_ended {A} received c (Visits t fresh requests again queue) h o s =
    let below : c.installed.ring.seq < floor c = subst (λ s. HasRingOrder s c.running c.installed c.turns) s o.placed.stands in (
      λ e i. end_last c below t fresh h.ring (h.wraps s) i,
      each-weaker (EndsWrapping c) (EndsWrapping (core_after_move c (Visits t fresh requests again queue)))
          (λ v f e i. visit_after c below t fresh h.ring [] (λ p j. absurd j) (f e i)) c.turns (o.ended s),
    )
moved_ended {A} received c (Takes x) h o s =
    let below : c.installed.ring.seq < floor c = subst (λ s. HasRingOrder s c.running c.installed c.turns) s o.placed.stands in
    elim (h.ring) [
      | inl r ↦ each-weaker (EndsWrapping c) (EndsWrapping (message_taken c x)) (λ v f e i. take_after c x below r.ring (f e i)) c.turns (o.ended s)
      | inr l ↦ absurd (let q : Gather ≡ Recovery = sym l.state ∙ s in let x : ⊥ = cc in x)
    ]
moved_ended received c Installs h o s = absurd (let x : ⊥ = cc in x)

pub ending : {A : Type 0} → IsKeptByMoves (IsOver {A = A})
ending = record { moves = λ received c m h o. record { placed = moved_placed received c m h o.placed; ended = moved_ended received c m h o } }

pub opening_over : {A : Type 0} → (n me : ℕ) → IsOver {A = A} (opening n me)
opening_over n me = record { placed = record { stands = omega arith; turns = tt }; ended = λ s. tt }

pub have_ended : {A : Type 0} → (n me : ℕ) (inputs : List (Input A)) → HasEnded (after_inputs (opening n me) inputs)
have_ended n me inputs = (always IsOver ending (opening n me) inputs (opening_over n me)).ended
