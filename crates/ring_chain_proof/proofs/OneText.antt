-- Each number of a ring has one sender and one payload.

-- Each held message was numbered by its sender in one of the ring's visits, and the numbers of visits don't overlap.
-- A Wrapped was made by a processor that held its inner message, so the inner message is genuine too.
use Rattle.std.proofs.Common.{◌≡◌, ℕ, suc, ◌+◌, ◌<◌, ◌≤◌, ◌⊎◌, inl, inr, true, ◌&&◌, List, [], ◌∷◌, length, refl, ap, sym, ◌∙◌, subst, arith}
use Rattle.std.specs.Prelude.{reverse}
use Rattle.std.specs.List.{AllByRecursion as Each}
use Rattle.std.proofs.lemmas.Bool.{cond_both, cond-true, false≢true}
use Rattle.ring_base.specs.Rings.{same_ring}
use Rattle.ring_base.specs.declared.ring_id.RingId.{RingId}
use Rattle.ring_base.specs.declared.state.State.{State}
use Rattle.ring_base.specs.declared.state.State.TheVariants.{Gather, Commit, Recovery, Operational, Stopped}
use Rattle.ring_base.proofs.Each.{each-weaker, each-append, each-reverse}
use Rattle.ring_base.proofs.SameRing.{same-self}
use Rattle.ring_payload.specs.PayloadKinds.{is_user}
use Rattle.ring_payload.specs.declared.content.Payload.{Payload}
use Rattle.ring_payload.specs.declared.content.Payload.TheVariants.{Call, Wrapped, End, Head, Part, Pack, Snap}
use Rattle.ring_payload.specs.declared.content.Wrapped.{Wrapped as WrappedMessage}
use Rattle.ring_wire.specs.declared.frame.Frame.TheVariants.{Message as MessageFrame}
use Rattle.ring_wire.specs.declared.message.Message.{Message}
use Rattle.ring_wire.specs.declared.token.Token.{Token}
use Rattle.ring_core_spec.specs.Windows.{is_new}
use Rattle.ring_core_spec.specs.Tokens.{numbered, VisitBy, token_arrived, AreVisits}
use Rattle.ring_core_spec.specs.Recoveries.{inner_messages, inner_message}
use Rattle.ring_core_spec.specs.State.{Core}
use Rattle.ring_core_spec.specs.Views.{mark}
use Rattle.ring_core_spec.specs.Transitions.{old_ring_messages}
use Rattle.ring_core_proof.specs.FactWords.{IsIn, SomeIs}
use Rattle.ring_core_proof.specs.Worlds.{Transmission, with_core}
use Rattle.ring_core_proof.specs.Moves.{Move, Idles, Enters, Learns, Visits, Takes, Installs, turn_with, core_after_move, AllAreUsers}
use Rattle.ring_core_proof.specs.Moves.{IsWrapping, MayEnd, MayVisit, MayMove, IsReceivedFrame}
use Rattle.ring_core_proof.proofs.InLists.{in-each, each-in, some-each}
use Rattle.ring_core_proof.proofs.WrapsAndEnd.{found_in}
use Rattle.ring_chain_proof.specs.ChainWords.{Chains, IsGenuine, WrapsGenuine}
use Rattle.ring_chain_proof.proofs.GenuineFrames.{AreRight, visits_with, visits_after}
use Rattle.ring_chain_proof.proofs.FactsGrow.{ChainsGrow, visits_grow, put-each}
use Rattle.ring_chain_proof.proofs.Rings.{AreRings, came_right}
use Rattle.ring_chain_proof.specs.ChainFacts.{AreChains}

-- The numbers of one visit

pub record IsNumbered {A : Type 0} (ring : RingId) (me seq : ℕ) (ps : List (Payload A)) (x : Message A) : Type 0 where
  pub above : seq < x.number
  pub within : x.number ≤ seq + length ps
  pub ring_is : x.ring ≡ ring
  pub sender_is : x.sender ≡ me
  pub payload_in : IsIn x.payload ps

pub numbered_in : {A : Type 0} → (ring : RingId) (me seq : ℕ) (ps : List (Payload A)) (x : Message A) → IsIn x (numbered ring me seq ps) →
    IsNumbered ring me seq ps x
numbered_in ring me seq [] x h = absurd h
numbered_in {A} ring me seq (p ∷ ps) x (inl e) =
    let n : x.number ≡ suc seq = ap (λ (y : Message A). y.number) e in
    record {
      above = omega arith;
      within = omega arith;
      ring_is = ap (λ (y : Message A). y.ring) e;
      sender_is = ap (λ (y : Message A). y.sender) e;
      payload_in = inl (ap (λ (y : Message A). y.payload) e);
    }
numbered_in ring me seq (p ∷ ps) x (inr h) =
    let r = numbered_in ring me (suc seq) ps x h in
    let a : suc seq < x.number = r.above in
    let b : x.number ≤ suc seq + length ps = r.within in
    record { above = omega arith; within = omega arith; ring_is = r.ring_is; sender_is = r.sender_is; payload_in = inr r.payload_in }

numbered_one : {A : Type 0} → (ring : RingId) (me seq : ℕ) (ps : List (Payload A)) (x y : Message A) → IsIn x (numbered ring me seq ps) →
    IsIn y (numbered ring me seq ps) → x.number ≡ y.number → x ≡ y
numbered_one ring me seq [] x y hx hy e = absurd hx
numbered_one ring me seq (p ∷ ps) x y (inl ex) (inl ey) e = ex ∙ sym ey
numbered_one {A} ring me seq (p ∷ ps) x y (inl ex) (inr hy) e =
    (let a : suc seq < y.number = (numbered_in ring me (suc seq) ps y hy).above in let b : x.number ≡ suc seq = ap
    (λ (z : Message A). z.number) ex in absurd (omega arith))
numbered_one {A} ring me seq (p ∷ ps) x y (inr hx) (inl ey) e =
    (let a : suc seq < x.number = (numbered_in ring me (suc seq) ps x hx).above in let b : y.number ≡ suc seq = ap
    (λ (z : Message A). z.number) ey in absurd (omega arith))
numbered_one ring me seq (p ∷ ps) x y (inr hx) (inr hy) e = numbered_one ring me (suc seq) ps x y hx hy e

-- The numbers of all visits

abbrev NumberedIn : {A : Type 0} → RingId → Message A → List (VisitBy A) → Type 0
NumberedIn ring x vs = SomeIs (λ (v : VisitBy _). IsIn x (numbered ring v.who v.turn.received.seq v.turn.fresh)) vs

seq_after : {A : Type 0} → (members : ℕ) (ring : RingId) (v : VisitBy A) (vs : List (VisitBy A)) → AreVisits members ring (v ∷ vs) →
    v.turn.received.seq + length v.turn.fresh ≡ v.turn.forwarded.seq
seq_after members ring v vs h = sym (ap (λ (t : Token). t.seq) h.0.goes)

seq_before : {A : Type 0} → (members : ℕ) (ring : RingId) (v : VisitBy A) (vs : List (VisitBy A)) → AreVisits members ring (v ∷ vs) →
    v.turn.received.seq ≡ (token_arrived ring vs).seq
seq_before members ring v vs h = ap (λ (t : Token). t.seq) h.0.comes

pub numbered_below : {A : Type 0} → (members : ℕ) (ring : RingId) (vs : List (VisitBy A)) → AreVisits members ring vs → (x : Message A) →
    NumberedIn ring x vs → x.number ≤ (token_arrived ring vs).seq
numbered_below members ring [] h x n = absurd n
numbered_below members ring (v ∷ vs) h x (inl n) =
    (let a = (numbered_in ring v.who v.turn.received.seq v.turn.fresh x n).within in let b = seq_after members ring v vs
    h in omega (arith, a, b))
numbered_below members ring (v ∷ vs) h x (inr n) =
    (let a = numbered_below members ring vs h.1 x n in let b = seq_after members ring v vs h in let c = seq_before
    members ring v vs h in omega (arith, a, b, c))

numbers_one : {A : Type 0} → (members : ℕ) (ring : RingId) (vs : List (VisitBy A)) → AreVisits members ring vs → (x y : Message A) → NumberedIn ring x vs →
    NumberedIn ring y vs → x.number ≡ y.number → x ≡ y
numbers_one members ring [] h x y hx hy e = absurd hx
numbers_one members ring (v ∷ vs) h x y (inl hx) (inl hy) e = numbered_one ring v.who v.turn.received.seq v.turn.fresh x y hx hy e
numbers_one members ring (v ∷ vs) h x y (inl hx) (inr hy) e =
    (let a = (numbered_in ring v.who v.turn.received.seq v.turn.fresh x hx).above in let b = numbered_below members ring
    vs h.1 y hy in let c = seq_before members ring v vs h in absurd (omega (arith, a, b, c, e)))
numbers_one members ring (v ∷ vs) h x y (inr hx) (inl hy) e =
    (let a = (numbered_in ring v.who v.turn.received.seq v.turn.fresh y hy).above in let b = numbered_below members ring
    vs h.1 x hx in let c = seq_before members ring v vs h in absurd (omega (arith, a, b, c, e)))
numbers_one members ring (v ∷ vs) h x y (inr hx) (inr hy) e = numbers_one members ring vs h.1 x y hx hy e

-- genuine messages of one ring and number are one
pub one_text : {A : Type 0} → (visits : Chains A) (cores : ℕ → Core A) → AreChains visits cores → (x y : Message A) → IsGenuine visits x →
    IsGenuine visits y → x.ring ≡ y.ring → x.number ≡ y.number → x ≡ y
one_text {A} visits cores chains x y gx gy er en =
    let gy' : NumberedIn x.ring y (visits x.ring) = subst (λ r. NumberedIn r y (visits r)) (sym er) gy in
    elim (chains.rounds x.ring) [
      | inl e ↦ absurd (subst (λ (vs : List (VisitBy A)). NumberedIn x.ring x vs) e gx)
      | inr round ↦ numbers_one round.members x.ring (visits x.ring) round.visits_are x y gx gy' en
    ]

-- The invariant

pub record AreTexts {A : Type 0} (visits : Chains A) (cores : ℕ → Core A) : Type 0 where
  pub queued : (q : ℕ) → AllAreUsers (cores q).queue
  pub held : (q : ℕ) → Each (IsGenuine visits) (cores q).held
  pub wraps : (r : RingId) → Each (λ (v : VisitBy A). Each (WrapsGenuine visits) v.turn.fresh) (visits r)

-- the inner message of a genuine message is genuine
genuine_inner : {A : Type 0} → (visits : Chains A) (cores : ℕ → Core A) → AreTexts visits cores → (x : Message A) (w : WrappedMessage A) →
    IsGenuine visits x → x.payload ≡ Wrapped w → IsGenuine visits (inner_message w)
genuine_inner {A} visits cores texts x w g e =
    some-each _ _ (IsGenuine visits (inner_message w))
    (λ (v : VisitBy A) each i. in-each (WrapsGenuine visits) x.payload v.turn.fresh each
    (numbered_in x.ring v.who v.turn.received.seq v.turn.fresh x i).payload_in w e)
    (visits x.ring) (texts.wraps x.ring) g

module _ {A : Type 0} (visits : Chains A) (cores : ℕ → Core A) (frames : List (Transmission A)) (i : ℕ)
    (right : AreRight visits cores frames) (are : AreRings cores) (texts : AreTexts visits cores) where
  -- Taking

  gives_inner : (old : RingId) (m : ℕ) (held : List (Message A)) (x : Message A) (p : Payload A) → IsGenuine visits x → x.payload ≡ p →
      Each (IsGenuine visits) (inner_messages old m held p)
  gives_inner old m held x (Wrapped w) g e =
      cond_both (same_ring w.ring old && is_new held m old w.number) (inner_message w ∷ []) []
      (Each (IsGenuine visits)) (λ t. (genuine_inner visits cores texts x w g e, tt)) (λ t. tt)
  gives_inner old m held x (Call call) g e = tt
  gives_inner old m held x End g e = tt
  gives_inner old m held x (Head head) g e = tt
  gives_inner old m held x (Part part) g e = tt
  gives_inner old m held x (Pack pack) g e = tt
  gives_inner old m held x (Snap snap) g e = tt

  gives_genuine : (s : State) (c : Core A) (x : Message A) → IsGenuine visits x → Each (IsGenuine visits) (old_ring_messages s c x)
  gives_genuine Recovery c x g = gives_inner c.installed.ring (mark c c.installed.ring) c.held x x.payload g refl
  gives_genuine Gather c x g = tt
  gives_genuine Commit c x g = tt
  gives_genuine Operational c x g = tt
  gives_genuine Stopped c x g = tt

  took_genuine : (x : Message A) → IsReceivedFrame frames i (MessageFrame x) → Each (IsGenuine visits) (core_after_move (cores i) (Takes x)).held
  took_genuine x received =
      let c = cores i in
      let f = came_right visits cores frames i (MessageFrame x) right received in
      each-append (IsGenuine visits) (old_ring_messages c.state c x) (x ∷ c.held) (gives_genuine c.state c x f.3) (f.3, texts.held i)

  -- Visiting

  module _ (t : Token) (fresh : List (Payload A)) (requests : List ℕ) where
    abbrev new_visit : VisitBy A
    new_visit = record { who = i; turn = turn_with (cores i) t fresh requests }

    abbrev after : Chains A
    after = visits_with visits t.ring new_visit

    new_in : (x : Message A) (r : RingId) → r ≡ t.ring → IsIn x (numbered t.ring i t.seq fresh) → NumberedIn r x (after r)
    new_in x r e h =
        let P : List (VisitBy A) → Type 0 = λ vs. NumberedIn t.ring x vs in
        subst (λ r. NumberedIn r x (after r)) (sym e)
        (subst P (sym (cond-true (same_ring t.ring t.ring) (new_visit ∷ visits t.ring) (visits t.ring)
        (same-self t.ring))) (inl h))

    pub new_genuine : Each (IsGenuine after) (numbered t.ring (cores i).me t.seq fresh)
    new_genuine =
        subst (λ me. Each (IsGenuine after) (numbered t.ring me t.seq fresh)) (sym (are.me i))
        (each-in (IsGenuine after) (numbered t.ring i t.seq fresh) (λ x h. new_in x x.ring (numbered_in t.ring i t.seq fresh x h).ring_is h))

    -- a payload to send wraps nothing
    user_wraps : (p : Payload A) → is_user p ≡ true → WrapsGenuine after p
    user_wraps p u w e = absurd (false≢true (subst (λ (p : Payload A). is_user p ≡ true) e u))

    -- a message that is wrapped was held
    handed_wraps : ChainsGrow visits after → (p : Payload A) → IsWrapping (cores i) p → WrapsGenuine after p
    handed_wraps g p (w, e, h) v k =
        let same : w ≡ v = cc in
        let there = (found_in (cores i).held w.ring w.number (inner_message w) h.held).0 in
        let genuine = in-each (IsGenuine visits) (inner_message w) (cores i).held (texts.held i) there in
        subst (λ (v : WrappedMessage A). IsGenuine after (inner_message v)) same (g.genuine (inner_message w) genuine)

    end_wraps : (wraps ends : List (Payload A)) → (ends ≡ []) ⊎ MayEnd (cores i) wraps ends → Each (WrapsGenuine after) ends
    end_wraps wraps ends (inl e) = subst (Each (WrapsGenuine after)) (sym e) tt
    end_wraps wraps ends (inr e) = subst (Each (WrapsGenuine after)) (sym e.one) (λ w k. absurd (let n : ⊥ = cc in n), tt)

    fresh_wraps : ChainsGrow visits after → (again : List (Message A)) (queue : List (Payload A)) → MayVisit (IsReceivedFrame frames i) (cores i) t fresh again queue →
        Each (WrapsGenuine after) fresh
    fresh_wraps g again queue h =
        elim (h.state) [
          | inl r ↦ (let ws = h.wraps r in
              subst (Each (WrapsGenuine after)) (sym ws.parts)
              (each-append (WrapsGenuine after) ws.wraps ws.ends
              (each-weaker (IsWrapping (cores i)) (WrapsGenuine after) (handed_wraps g) ws.wraps ws.handed) (end_wraps ws.wraps ws.ends ws.ended)))
          | inr o ↦ each-weaker (λ (p : Payload A). is_user p ≡ true) (WrapsGenuine after) user_wraps fresh (h.users o (texts.queued i))
        ]

    wraps_grow : ChainsGrow visits after → (vs : List (VisitBy A)) → Each (λ (v : VisitBy A). Each (WrapsGenuine visits) v.turn.fresh) vs →
        Each (λ (v : VisitBy A). Each (WrapsGenuine after) v.turn.fresh) vs
    wraps_grow g vs h =
        each-weaker _ _ (λ (v : VisitBy A) each. each-weaker (WrapsGenuine visits) (WrapsGenuine after)
        (λ p k w e. g.genuine (inner_message w) (k w e)) v.turn.fresh each) vs h

  -- Moves

  held_moved : (m : Move A) → MayMove (IsReceivedFrame frames i) (cores i) m → Each (IsGenuine (visits_after visits i (cores i) m)) (core_after_move (cores i) m).held
  held_moved (Visits t fresh requests again queue) h =
      let g = visits_grow visits i (cores i) (Visits t fresh requests again queue) in
      let new = numbered t.ring (cores i).me t.seq fresh in
      each-append (IsGenuine (after t fresh requests)) (reverse new) (cores i).held
      (each-reverse (IsGenuine (after t fresh requests)) new (new_genuine t fresh requests))
      (each-weaker (IsGenuine visits) (IsGenuine (after t fresh requests)) g.genuine (cores i).held (texts.held i))
  held_moved (Takes x) h = took_genuine x h.from
  held_moved (Idles state gathering last_sent queue sends) h = texts.held i
  held_moved (Enters k) h = texts.held i
  held_moved (Learns k) h = texts.held i
  held_moved Installs h = texts.held i

  queued_moved : (m : Move A) → MayMove (IsReceivedFrame frames i) (cores i) m → AllAreUsers (core_after_move (cores i) m).queue
  queued_moved (Visits t fresh requests again queue) h = h.queued (texts.queued i)
  queued_moved (Idles state gathering last_sent queue sends) h = h.queued (texts.queued i)
  queued_moved (Takes x) h = texts.queued i
  queued_moved (Enters k) h = texts.queued i
  queued_moved (Learns k) h = texts.queued i
  queued_moved Installs h = texts.queued i

  wraps_moved : (m : Move A) → MayMove (IsReceivedFrame frames i) (cores i) m → (r : RingId) →
      Each (λ (v : VisitBy A). Each (WrapsGenuine (visits_after visits i (cores i) m)) v.turn.fresh) (visits_after visits i (cores i) m r)
  wraps_moved (Visits t fresh requests again queue) h r =
      let g = visits_grow visits i (cores i) (Visits t fresh requests again queue) in
      let old = wraps_grow t fresh requests g (visits r) (texts.wraps r) in
      cond_both (same_ring t.ring r) (new_visit t fresh requests ∷ visits r) (visits r)
      (Each (λ (v : VisitBy A). Each (WrapsGenuine (after t fresh requests)) v.turn.fresh))
      (λ e. (fresh_wraps t fresh requests g again queue h, old)) (λ e. old)
  wraps_moved (Idles state gathering last_sent queue sends) h r = texts.wraps r
  wraps_moved (Enters k) h r = texts.wraps r
  wraps_moved (Learns k) h r = texts.wraps r
  wraps_moved (Takes x) h r = texts.wraps r
  wraps_moved Installs h r = texts.wraps r

  pub texts_moved : (m : Move A) → MayMove (IsReceivedFrame frames i) (cores i) m → AreTexts (visits_after visits i (cores i) m) (with_core cores i (core_after_move (cores i) m))
  texts_moved m h =
      let g = visits_grow visits i (cores i) m in
      let d = core_after_move (cores i) m in
      record {
        queued = put-each (λ q (x : Core A). AllAreUsers x.queue) cores i d (λ q n. texts.queued q) (queued_moved m h);
        held = put-each (λ q (x : Core A). Each (IsGenuine (visits_after visits i (cores i) m)) x.held) cores i d
            (λ q n. each-weaker (IsGenuine visits) _ g.genuine (cores q).held (texts.held q)) (held_moved m h);
        wraps = wraps_moved m h;
      }
