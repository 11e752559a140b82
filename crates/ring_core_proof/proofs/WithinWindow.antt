-- After any inputs a safe mark is at most its front, and all that is held lies within the window after its mark.
use Rattle.std.proofs.Common.{◌≡◌, ℕ, suc, ◌+◌, ◌-◌, ◌≤◌, true, ◌&&◌, ltb, leb, eqb, List, [], ◌∷◌, ◌++◌}
use Rattle.std.proofs.Common.{length, slice_get, sym, subst, inl, inr, arith}
use Rattle.std.specs.Cmp.Lexicographic.{pointwise}
use Rattle.std.specs.List.{AllByRecursion}
use Rattle.std.proofs.lemmas.Bool.{cond_both, and_parts, or_parts, or_cases, ltb-false, leb-true, eqb-true}
use Rattle.std.specs.Prelude.{nat_eq, reverse}
use Rattle.ring_base.specs.Numbers.{window_size}
use Rattle.ring_base.specs.Rings.{same_ring}
use Rattle.ring_base.specs.declared.ring_id.RingId.{RingId}
use Rattle.ring_payload.specs.declared.content.Payload.{Payload}
use Rattle.ring_payload.specs.declared.content.Payload.TheVariants.{Call, Wrapped, End, Head, Part, Pack, Snap}
use Rattle.ring_payload.specs.declared.content.Wrapped.{Wrapped as WrappedMessage}
use Rattle.ring_wire.specs.declared.frame.Frame.{Frame}
use Rattle.ring_wire.specs.declared.commit.CommitToken.{CommitToken}
use Rattle.ring_wire.specs.declared.message.Message.{Message}
use Rattle.ring_wire.specs.declared.token.Token.{Token}
use Rattle.ring_core_spec.specs.Windows.{is_numbered, holds, front_of, in_window, is_new}
use Rattle.ring_core_spec.proofs.Windows.{front_grows, holds-more}
use Rattle.ring_base.proofs.SameRing.{ring_same}
use Rattle.ring_core_spec.specs.Tokens.{TokenVisit, MarkRaise, safe_mark, numbered, may_set_aru, is_held_back_by_self, aru_after}
use Rattle.ring_core_spec.proofs.Tokens.{safe_mark-below, safe_mark-turn, safe_mark-raise}
use Rattle.ring_core_spec.specs.Commits.{reports_of, safe_of, is_sound, position_of_hop, is_own}
use Rattle.ring_core_spec.specs.Recoveries.{inner_if_new, inner_messages, inner_message}
use Rattle.ring_core_spec.specs.declared.input.Input.{Input}
use Rattle.ring_base.specs.declared.state.State.{State}
use Rattle.ring_base.specs.declared.state.State.TheVariants.{Gather, Commit, Recovery, Operational, Stopped}
use Rattle.ring_core_spec.specs.State.{Core, opening}
use Rattle.ring_core_spec.specs.Views.{front, mark, own_entry, takes_number}
use Rattle.ring_core_spec.specs.Transitions.{old_ring_messages}
use Rattle.ring_core_spec.specs.Stepping.{after_inputs}
use Rattle.ring_core_spec.proofs.Commits.{none_behind-at, own_stands}
pub use Rattle.ring_core_proof.specs.WindowBounds.{IsInWindow, IsHeldInWindow, IsCoreInWindow}
use Rattle.ring_core_proof.specs.Moves.{Move, Idles, Enters, Learns, Visits, Takes, Installs, held_in, turn_with, core_after_move, MayMove}
use Rattle.ring_base.proofs.Each.{each-weaker, each-append, each-reverse}
use Rattle.ring_core_proof.proofs.KeptByMoves.{IsKeptByMoves, always}

-- Lists of facts

pub front-append : {A : Type 0} → (xs ys : List (Message A)) (r : RingId) → front_of ys r ≤ front_of (xs ++ ys) r
front-append xs ys r = front_grows ys (xs ++ ys) r (λ n h. holds-more xs ys r n h)

-- The invariant, on the facts alone

more_held : {A : Type 0} → (xs held : List (Message A)) (turns : List (TokenVisit A)) (raises : List MarkRaise)
    → AllByRecursion (λ (x : Message A). IsInWindow turns raises x) xs → IsHeldInWindow held turns raises
    → IsHeldInWindow (xs ++ held) turns raises
more_held {A} xs held turns raises h f =
    record {
      window = each-append (λ (x : Message A). IsInWindow turns raises x) xs held h f.window;
      visits = each-weaker _ _ (λ (v : TokenVisit A) h. (let i : front_of held v.received.ring ≤ front_of
          (xs ++ held) v.received.ring = front-append xs held v.received.ring in omega arith)) turns f.visits;
      raised = each-weaker _ _ (λ (x : MarkRaise) h. (let i : front_of held x.ring ≤ front_of
          (xs ++ held) x.ring = front-append xs held x.ring in omega arith)) raises f.raised;
    }

more_turns : {A : Type 0} → (v : TokenVisit A) (held : List (Message A)) (turns : List (TokenVisit A)) (raises : List MarkRaise)
    → v.forwarded.aru ≤ front_of held v.received.ring → IsHeldInWindow held turns raises → IsHeldInWindow held (v ∷ turns) raises
more_turns {A} v held turns raises h f =
    record {
      window = each-weaker _ _ (λ (x : Message A) k. (let i : safe_mark turns raises x.ring ≤ safe_mark
          (v ∷ turns) raises x.ring = safe_mark-turn v turns raises x.ring in omega arith)) held f.window;
      visits = (h, f.visits);
      raised = f.raised;
    }

more_raises : {A : Type 0} → (x : MarkRaise) (held : List (Message A)) (turns : List (TokenVisit A)) (raises : List MarkRaise)
    → x.mark ≤ front_of held x.ring → IsHeldInWindow held turns raises → IsHeldInWindow held turns (x ∷ raises)
more_raises {A} y held turns raises h f =
    record {
      window = each-weaker _ _ (λ (x : Message A) k. (let i : safe_mark turns raises x.ring ≤ safe_mark turns
          (y ∷ raises) x.ring = safe_mark-raise y turns raises x.ring in omega arith)) held f.window;
      visits = f.visits;
      raised = (h, f.raised);
    }

-- Taking

new_within : {A : Type 0} → (held : List (Message A)) (m : ℕ) (r : RingId) (n : ℕ) → is_new held m r n ≡ true → n ≤ m + window_size
new_within held m r n h = leb-true _ _ (and_parts _ (leb n (m + window_size)) (and_parts (in_window m n) _ h).0).1

inner_within : {A : Type 0} → (c : Core A) (w : WrappedMessage A)
    → AllByRecursion (λ (x : Message A). IsInWindow c.turns c.raises x)
    (inner_if_new c.installed.ring (mark c c.installed.ring) c.held w)
inner_within {A} c w =
    cond_both (same_ring w.ring c.installed.ring && is_new c.held (mark c c.installed.ring) c.installed.ring w.number)
    (inner_message w ∷ []) []
    (λ (xs : List (Message A)). AllByRecursion (λ (x : Message A). IsInWindow c.turns c.raises x) xs)
    (λ e. (
      let p = and_parts (same_ring w.ring c.installed.ring) (is_new c.held (mark c c.installed.ring) c.installed.ring w.number) e in
          let i : w.number ≤ mark c c.installed.ring + window_size = new_within c.held (mark c c.installed.ring) c.installed.ring w.number p.1 in
          subst (λ (q : RingId). w.number ≤ safe_mark c.turns c.raises q + window_size) (sym (ring_same w.ring c.installed.ring p.0)) i,
      tt,
    ))
    (λ e. tt)

payload_within : {A : Type 0} → (c : Core A) (p : Payload A)
    → AllByRecursion (λ (x : Message A). IsInWindow c.turns c.raises x)
    (inner_messages c.installed.ring (mark c c.installed.ring) c.held p)
payload_within c (Wrapped w) = inner_within c w
payload_within c (Call call) = tt
payload_within c End = tt
payload_within c (Head head) = tt
payload_within c (Part part) = tt
payload_within c (Pack pack) = tt
payload_within c (Snap snap) = tt

gives_within : {A : Type 0} → (s : State) (c : Core A) (x : Message A) → AllByRecursion (λ (x : Message A). IsInWindow c.turns c.raises x) (old_ring_messages s c x)
gives_within Recovery c x = payload_within c x.payload
gives_within Gather c x = tt
gives_within Commit c x = tt
gives_within Operational c x = tt
gives_within Stopped c x = tt

taken_fits : {A : Type 0} → (c : Core A) (x : Message A) → takes_number c x.ring x.number ≡ true → IsCoreInWindow c
    → IsHeldInWindow (old_ring_messages c.state c x ++ x ∷ c.held) c.turns c.raises
taken_fits c x h f =
    more_held (old_ring_messages c.state c x) (x ∷ c.held) c.turns c.raises (gives_within c.state c x)
    (more_held (x ∷ []) c.held c.turns c.raises (new_within c.held (mark c x.ring) x.ring x.number h, tt) f)

-- Visiting

numbered_below : {A : Type 0} → (turns : List (TokenVisit A)) (raises : List MarkRaise) (r : RingId) (me seq : ℕ)
    (ps : List (Payload A)) → length ps ≤ safe_mark turns raises r + window_size - seq
    → AllByRecursion (λ (x : Message A). IsInWindow turns raises x) (numbered r me seq ps)
numbered_below turns raises r me seq [] h = tt
numbered_below turns raises r me seq (p ∷ ps) h = (omega arith, numbered_below turns raises r me (suc seq) ps (omega arith))

aru_below : (me f : ℕ) (t : Token) → aru_after me f t ≤ f
aru_below me f t = cond_both (may_set_aru me f t) f t.aru (λ a. a ≤ f) (λ e. omega arith)
    (λ e. ltb-false f t.aru (or_parts (ltb f t.aru) (is_held_back_by_self me t.aru_id) e).0)

visited_fits : {A : Type 0} → (c : Core A) (t : Token) (fresh : List (Payload A)) (requests : List ℕ)
    → length fresh ≤ mark c t.ring + window_size - t.seq → IsCoreInWindow c → IsHeldInWindow (held_in c t fresh)
    (turn_with c t fresh requests ∷ c.turns) c.raises
visited_fits c t fresh requests h f =
    more_turns (turn_with c t fresh requests) (held_in c t fresh) c.turns c.raises (aru_below c.me (front_of (held_in c t fresh) t.ring) t)
    (more_held (reverse (numbered t.ring c.me t.seq fresh)) c.held c.turns c.raises
    (each-reverse (IsInWindow c.turns c.raises) (numbered t.ring c.me t.seq fresh) (numbered_below c.turns c.raises t.ring c.me t.seq fresh h)) f)

-- Learning

learned_front : {A : Type 0} → (c : Core A) (k : CommitToken) → is_own (own_entry c)
    (slice_get k.entries (position_of_hop k)) ≡ true → is_sound c.installed.ring k.entries ≡ true
    → safe_of (reports_of c.installed.ring k.entries) ≤ front c c.installed.ring
learned_front c k h g =
    let (e, at, same) = own_stands (own_entry c) (slice_get k.entries (position_of_hop k)) h in
    let ring_and_front : (same_ring e.old c.installed.ring && eqb e.front (front c c.installed.ring)) ≡ true =
    (and_parts _ (eqb e.mark (mark c c.installed.ring)) (and_parts _ (pointwise nat_eq e.held (own_entry c).held)
    same).0).0 in
    let i : safe_of (reports_of c.installed.ring k.entries) ≤ e.front = none_behind-at c.installed.ring
    (safe_of (reports_of c.installed.ring k.entries)) k.entries (position_of_hop k) e g at
    (and_parts _ (eqb e.front (front c c.installed.ring)) ring_and_front).0 in
    let j : e.front ≡ front c c.installed.ring = eqb-true _ _ (and_parts (same_ring e.old c.installed.ring) _ ring_and_front).1 in
    subst (λ n. safe_of (reports_of c.installed.ring k.entries) ≤ n) j i

learned_fits : {A : Type 0} → (c : Core A) (k : CommitToken) → is_own (own_entry c)
    (slice_get k.entries (position_of_hop k)) ≡ true → is_sound c.installed.ring k.entries ≡ true → IsCoreInWindow c
    → IsHeldInWindow c.held c.turns (record { ring = c.installed.ring; mark = safe_of (reports_of c.installed.ring k.entries) }
    ∷ c.raises)
learned_fits c k o s f =
    more_raises (record { ring = c.installed.ring; mark = safe_of (reports_of c.installed.ring k.entries) }) c.held c.turns c.raises (learned_front c k o s) f

-- Each move

pub moved_fits : {A : Type 0} → (received : Frame A → Type 0) (c : Core A) (m : Move A) → MayMove received c m → IsCoreInWindow c → IsCoreInWindow (core_after_move c m)
moved_fits received c (Takes x) h f = taken_fits c x h.new f
moved_fits received c (Visits t fresh requests again queue) h f = visited_fits c t fresh requests h.room f
moved_fits received c (Learns k) h f = learned_fits c k h.own h.sound f
moved_fits received c (Idles state gathering last_sent queue sends) h f = f
moved_fits received c (Enters k) h f = f
moved_fits received c Installs h f = f

pub fitting : {A : Type 0} → IsKeptByMoves (IsCoreInWindow {A = A})
fitting = record { moves = moved_fits }

opening_fits : {A : Type 0} → (n me : ℕ) (inputs : List (Input A)) → IsCoreInWindow (after_inputs (opening n me) inputs)
opening_fits n me inputs = always IsCoreInWindow fitting (opening n me) inputs (record { window = tt; visits = tt; raised = tt })

-- The laws

pub mark_below : {A : Type 0} → (c : Core A) (r : RingId) → IsCoreInWindow c → mark c r ≤ front c r
mark_below c r f = safe_mark-below (front c) r _ _ f.visits f.raised

pub marks_within : {A : Type 0} → (n me : ℕ) (inputs : List (Input A)) (r : RingId)
    → mark (after_inputs (opening n me) inputs) r ≤ front (after_inputs (opening n me) inputs) r
marks_within n me inputs r = mark_below (after_inputs (opening n me) inputs) r (opening_fits n me inputs)

-- each message held, of any ring
in_window_of : {A : Type 0} → (turns : List (TokenVisit A)) (raises : List MarkRaise) (held : List (Message A)) (r : RingId)
    (n : ℕ) → AllByRecursion (λ (x : Message A). IsInWindow turns raises x) held → holds held r n ≡ true
    → n ≤ safe_mark turns raises r + window_size
in_window_of turns raises [] r n f h = absurd (let q : ⊥ = cc in q)
in_window_of turns raises (x ∷ held) r n f h =
    elim (or_cases (is_numbered r n x) (holds held r n) h) [
      | inl e ↦ (let p : (same_ring x.ring r ≡ true) × (eqb x.number n ≡ true) = and_parts _ (eqb x.number n) e in
          let a : x.number ≤ safe_mark turns raises r + window_size =
          subst (λ (q : RingId). x.number ≤ safe_mark turns raises q + window_size) (ring_same x.ring r p.0) f.0 in
          subst (λ m. m ≤ safe_mark turns raises r + window_size) (eqb-true x.number n p.1) a)
      | inr e ↦ in_window_of turns raises held r n f.1 e
    ]

pub held_below : {A : Type 0} → (c : Core A) (r : RingId) (k : ℕ) → IsCoreInWindow c → holds c.held r k ≡ true → k ≤ mark c r + window_size
held_below c r k f h = in_window_of _ _ _ r k f.window h

pub held_within : {A : Type 0} → (n me : ℕ) (inputs : List (Input A)) (r : RingId) (k : ℕ)
    → holds (after_inputs (opening n me) inputs).held r k ≡ true → k ≤ mark (after_inputs (opening n me) inputs) r
    + window_size
held_within n me inputs r k h = held_below (after_inputs (opening n me) inputs) r k (opening_fits n me inputs) h
