-- In Recovery each inner message of the old ring is held.

-- It is taken with its Wrapped, since the known numbers lie within the window after the greatest mark.
use Rattle.std.proofs.Common.{◌≡◌, ℕ, ◌+◌, ◌-◌, ◌<◌, ◌≤◌, inl, inr, true, false, ◌&&◌, List, [], ◌∷◌, ◌++◌, refl, ap, sym, ◌∙◌, subst, arith}
use Rattle.std.specs.Prelude.{reverse, nat_lt, nat_le}
use Rattle.std.specs.List.{list_any, AllByRecursion as Each}
use Rattle.std.proofs.lemmas.Bool.{cond-true, cases_Bool, cases_lt, or_cases, and_parts, and_from, false≢true, lt-ltb, ltb-true, le-leb}
use Rattle.ring_base.specs.Numbers.{window_size}
use Rattle.ring_base.specs.Rings.{same_ring}
use Rattle.ring_base.specs.declared.ring_id.RingId.{RingId}
use Rattle.ring_base.specs.declared.state.State.TheVariants.{Gather, Commit, Recovery, Operational, Stopped}
use Rattle.ring_base.proofs.Each.{each-weaker, each-append, each-reverse}
use Rattle.ring_base.proofs.SameRing.{same-self}
use Rattle.ring_payload.specs.declared.content.Payload.{Payload}
use Rattle.ring_payload.specs.declared.content.Payload.TheVariants.{Wrapped, End}
use Rattle.ring_payload.specs.declared.content.Wrapped.{Wrapped as WrappedMessage}
use Rattle.ring_wire.specs.Entries.{bit_of}
use Rattle.ring_wire.specs.declared.entries.CommitEntry.{CommitEntry}
use Rattle.ring_wire.specs.declared.frame.Frame.{Frame}
use Rattle.ring_wire.specs.declared.frame.Frame.TheVariants.{Message as MessageFrame}
use Rattle.ring_wire.specs.declared.message.Message.{Message}
use Rattle.ring_wire.specs.declared.token.Token.{Token}
use Rattle.ring_core_spec.specs.Windows.{holds, is_new}
use Rattle.ring_core_spec.proofs.Windows.{front_is, found-holds, holds-more}
use Rattle.ring_core_spec.specs.Tokens.{numbered}
use Rattle.ring_core_spec.specs.Recoveries.{safe, is_reported, is_known, inner_messages, inner_message}
use Rattle.ring_core_spec.specs.State.{Core, floor}
use Rattle.ring_core_spec.specs.Views.{front, mark}
use Rattle.ring_core_spec.specs.Transitions.{old_ring_messages, message_taken}
use Rattle.ring_core_proof.specs.FactWords.{IsIn}
use Rattle.ring_core_proof.specs.declared.event.RingEvent.{RingEvent}
use Rattle.ring_core_proof.specs.Worlds.{Transmission, with_core, transmissions_from, run, unformed}
use Rattle.ring_core_proof.specs.Moves.{Move, Idles, Enters, Learns, Visits, Takes, Installs, core_after_move, sends_of, MayMove, MayVisit, MayTake}
use Rattle.ring_core_proof.specs.Moves.{IsReceivedFrame, IsWrapping}
use Rattle.ring_core_proof.proofs.InLists.{in-each, each-in, in-left, in-parts}
use Rattle.ring_core_proof.proofs.WithinWindow.{mark_below}
use Rattle.ring_core_proof.proofs.Lifting.{kept_run}
use Rattle.ring_core_proof.proofs.OwnMessages.{holds_in}
use Rattle.ring_core_proof.proofs.OwnFacts.{running_not_commit}
use Rattle.ring_chain_proof.proofs.FactsGrow.{put-each}
use Rattle.ring_chain_proof.proofs.Rings.{came_right}
use Rattle.ring_chain_proof.proofs.AllLayers.{Holds}
use Rattle.ring_chain_proof.proofs.OneText.{numbered_in}
use Rattle.ring_synchrony_proof.specs.LifeOfCore.{plan_into}
use Rattle.ring_synchrony_proof.specs.Recovery.{HoldsInner, IsRecovering}
use Rattle.ring_synchrony_proof.proofs.Planned.{HasPlan}
use Rattle.ring_synchrony_proof.proofs.Recovering.{IsLocal, Recovered, recovering, opening_recovered, gives_inner, wrapped_known, not_installed}

-- No ring above the newest is held, and in Commit nothing of the newest

pub record IsLow {A : Type 0} (c : Core A) : Type 0 where
  pub low : Each (λ (x : Message A). x.ring.seq ≤ floor c) c.held
  pub fresh : c.state ≡ Commit → Each (λ (x : Message A). x.ring.seq < floor c) c.held

moved_low : {A : Type 0} → (received : Frame A → Type 0) (c : Core A) (m : Move A) → MayMove received c m → IsLocal c → IsLow c → IsLow (core_after_move c m)
moved_low received c (Idles state gathering last_sent queue sends) may l p =
    record {
      low = p.low;
      fresh = λ s. elim (may.leaves) [
        | inl e ↦ p.fresh (sym e ∙ s)
        | inr (inl e) ↦ absurd (let q : Gather ≡ Commit = sym e ∙ s in let n : ⊥ = cc in n)
        | inr (inr e) ↦ absurd (let q : Stopped ≡ Commit = sym e ∙ s in let n : ⊥ = cc in n)
      ];
    }
moved_low {A} received c (Enters k) may l p =
    let up : floor c < k.ring.seq = may.above in
    record {
      low = each-weaker (λ (x : Message A). x.ring.seq ≤ floor c) (λ (x : Message A). x.ring.seq ≤ k.ring.seq) (λ x a. omega (arith, a, up)) c.held p.low;
      fresh = λ s. each-weaker (λ (x : Message A). x.ring.seq ≤ floor c) (λ (x : Message A). x.ring.seq < k.ring.seq)
          (λ x a. omega (arith, a, up)) c.held p.low;
    }
moved_low received c (Learns k) may l p = record { low = p.low; fresh = λ s. absurd (let q : Recovery ≡ Commit = s in let n : ⊥ = cc in n) }
moved_low {A} received c (Visits t fresh requests again queue) may l p =
    let ns = numbered t.ring c.me t.seq fresh in
    let at : t.ring.seq ≡ floor c = ap (λ (r : RingId). r.seq) may.ring in
    let new : Each (λ (x : Message A). x.ring.seq ≤ floor c) ns = each-in (λ (x : Message A). x.ring.seq ≤ floor c) ns
    (λ x i. (let q : x.ring.seq ≡ t.ring.seq = ap (λ (r : RingId). r.seq)
    (numbered_in t.ring c.me t.seq fresh x i).ring_is in omega (arith, q, at))) in
    record {
      low = each-append (λ (x : Message A). x.ring.seq ≤ floor c) (reverse ns) c.held (each-reverse (λ (x : Message A). x.ring.seq ≤ floor c) ns new) p.low;
      fresh = λ s. absurd (running_not_commit c.state may.state s);
    }
moved_low {A} received c (Takes x) may l p =
    let below : c.installed.ring.seq ≤ floor c = (l.ordered).below in
    let here : x.ring.seq ≤ floor c = elim (may.ring) [
      | inl r ↦ (let q : x.ring.seq ≡ floor c = ap (λ (r : RingId). r.seq) r.ring in omega (arith, q))
      | inr r ↦ (let q = r.newest in omega (arith, q))
    ] in
    let inner : Each (λ (y : Message A). y.ring.seq ≤ floor c) (old_ring_messages c.state c x) =
    each-in (λ (y : Message A). y.ring.seq ≤ floor c) (old_ring_messages c.state c x) (λ y i.
    let g = in-each _ y (old_ring_messages c.state c x) (gives_inner c.state c x) i in
    let a : y.ring.seq ≡ c.installed.ring.seq = ap (λ (r : RingId). r.seq) (ap (λ (z : Message A). z.ring) g.inner_is ∙ g.ring_is) in
    omega (arith, a, below)) in
    record {
      low = each-append (λ (x : Message A). x.ring.seq ≤ floor c) (old_ring_messages c.state c x) (x ∷ c.held) inner (here, p.low);
      fresh = λ s. absurd (elim (may.ring) [ inl r ↦ running_not_commit c.state r.state s | inr r ↦ (let q : Gather ≡ Commit = sym r.state ∙ s in let n : ⊥ = cc in n) ]);
    }
moved_low received c Installs may l p = record { low = p.low; fresh = λ s. absurd (let q : Operational ≡ Commit = s in let n : ⊥ = cc in n) }

-- Inner messages are held

reported_low : (n : ℕ) (e : CommitEntry) → is_reported n e ≡ true → 1 ≤ n
reported_low n e h =
    elim (or_cases (nat_lt 0 n && nat_le n e.front) ((nat_lt e.front n && nat_le n (e.front + window_size)) && bit_of e.held (n - e.front - 1)) h) [
      | inl a ↦ (let l = ltb-true 0 n (and_parts (nat_lt 0 n) (nat_le n e.front) a).0 in omega (arith, l))
      | inr b ↦ (let l = ltb-true e.front n (and_parts (nat_lt e.front n) (nat_le n (e.front + window_size))
          (and_parts (nat_lt e.front n && nat_le n (e.front + window_size)) (bit_of e.held (n - e.front - 1))
          b).0).0 in omega (arith, l))
    ]

known_low : (n : ℕ) (reports : List CommitEntry) → list_any (is_reported n) reports ≡ true → 1 ≤ n
known_low n [] h = absurd (false≢true h)
known_low n (e ∷ es) h = elim (or_cases (is_reported n e) (list_any (is_reported n) es) h) [ inl a ↦ reported_low n e a | inr b ↦ known_low n es b ]

abbrev pub Unwraps : {A : Type 0} → Core A → Type 0
Unwraps c = c.state ≡ Recovery → HoldsInner c

-- a known number that isn't new is held
old_held : {A : Type 0} → (c : Core A) → IsLocal c → HasPlan c c.running c.installed → (n : ℕ) → 1 ≤ n → is_known (plan_into c c.running c.installed) n ≡ true →
    is_new c.held (mark c c.installed.ring) c.installed.ring n ≡ false → holds c.held c.installed.ring n ≡ true
old_held {A} c l p n low known old =
    let ring = c.installed.ring in
    let m = mark c ring in
    let marked : m ≡ safe (plan_into c c.running c.installed) = p.marked in
    let reach = p.reach n known in
    elim (cases_lt m n) [
      | inl above ↦ elim (cases_Bool (holds c.held ring n)) [
        | inl h ↦ h
        | inr f ↦ absurd (false≢true (sym old ∙ (rw (lt-ltb m n above, le-leb n (m + window_size) (omega (arith, reach, marked)), f) refl)))
      ]
      | inr within ↦ (let b : m ≤ front c ring = mark_below c ring l.fit in (front_is c.held ring).below n low (omega (arith, within, b)))
    ]

-- a known number that is new is taken with its Wrapped
inner_given : {A : Type 0} → (old : RingId) (m : ℕ) (held : List (Message A)) (w : WrappedMessage A) → w.ring ≡ old → is_new held m old w.number ≡ true →
    IsIn (inner_message w) (inner_messages old m held (Wrapped w))
inner_given {A} old m held w e new =
    let t : (same_ring w.ring old && is_new held m old w.number) ≡ true = and_from (same_ring w.ring old)
    (is_new held m old w.number) (subst (λ r. same_ring w.ring r ≡ true) e (same-self w.ring)) new in
    subst (λ (xs : List (Message A)). IsIn (inner_message w) xs)
    (sym (cond-true (same_ring w.ring old && is_new held m old w.number) (inner_message w ∷ []) [] t)) (inl refl)

module _ {A : Type 0} (cores : ℕ → Core A) (frames : List (Transmission A)) (r : Recovered cores frames) (i : ℕ) (low : 1 ≤ i) where
  abbrev h : Holds cores frames
  h = (r.all).all

  abbrev c : Core A
  c = cores i

  holds_more : (xs : List (Message A)) (n : ℕ) → holds c.held c.installed.ring n ≡ true → holds (xs ++ c.held) c.installed.ring n ≡ true
  holds_more xs n t = holds-more xs c.held c.installed.ring n t

  took_inner : (x : Message A) → MayTake (IsReceivedFrame frames i) c x → c.state ≡ Recovery → (w : WrappedMessage A)
      → x.payload ≡ Wrapped w → w.ring ≡ c.installed.ring →
      holds (message_taken c x).held c.installed.ring w.number ≡ true
  took_inner x may s w e old =
      let p = r.recovers i s in
      let f = came_right h.visits cores frames i (MessageFrame x) ((h.sent).right) may.from in
      let from : x.ring ≡ c.running.ring = elim (may.ring)
      [ inl t ↦ t.ring | inr l ↦ absurd (let q : Gather ≡ Recovery = sym l.state ∙ s in let n : ⊥ = cc in n) ] in
      let known = wrapped_known cores frames r i low p x f.3 from w e old in
      let some : 1 ≤ w.number = known_low w.number (plan_into c c.running c.installed).reports known in
      elim (cases_Bool (is_new c.held (mark c c.installed.ring) c.installed.ring w.number)) [
        | inl new ↦ (let given : IsIn (inner_message w) (old_ring_messages c.state c x) =
            subst (λ t. IsIn (inner_message w) (old_ring_messages t c x)) (sym s)
            (subst (λ (q : Payload A). IsIn (inner_message w)
            (inner_messages c.installed.ring (mark c c.installed.ring) c.held q)) (sym e)
            (inner_given c.installed.ring (mark c c.installed.ring) c.held w old new)) in
            let t = holds_in (message_taken c x).held (inner_message w) (in-left (inner_message w) (old_ring_messages c.state c x) (x ∷ c.held) given) in
            subst (λ (q : RingId). holds (message_taken c x).held q w.number ≡ true) old t)
        | inr not_new ↦ holds-more (old_ring_messages c.state c x) (x ∷ c.held) c.installed.ring w.number
            (holds_more (x ∷ []) w.number (old_held c (r.local i) p w.number some known not_new))
      ]

  visited_inner : (t : Token) (fresh : List (Payload A)) (again : List (Message A)) (queue : List (Payload A))
      → MayVisit (IsReceivedFrame frames i) c t fresh again queue → c.state ≡ Recovery →
      (x : Message A) → IsIn x (reverse (numbered t.ring c.me t.seq fresh)) → (w : WrappedMessage A) → x.payload ≡ Wrapped w → w.ring ≡ c.installed.ring →
      holds c.held c.installed.ring w.number ≡ true
  visited_inner t fresh again queue may s x k w e old =
      let ns = numbered t.ring c.me t.seq fresh in
      let Carries : Message A → Type 0 = λ x. IsIn x.payload fresh in
      let there : IsIn x.payload fresh = in-each Carries x (reverse ns)
      (each-reverse Carries ns (each-in Carries ns (λ x i. (numbered_in t.ring c.me t.seq fresh x i).payload_in)))
      k in
      let ws = may.wraps s in
      elim (in-parts x.payload ws.wraps ws.ends (subst (λ (ps : List (Payload A)). IsIn x.payload ps) ws.parts there)) [
        | inl wrapped ↦ (let (v, f, on) = in-each (IsWrapping c) x.payload ws.wraps ws.handed wrapped in
            let both : Wrapped v ≡ Wrapped w = sym f ∙ e in
            let same : v ≡ w = cc in
            let t : holds c.held v.ring v.number ≡ true = found-holds c.held v.ring v.number _ on.held in
            subst (λ (q : RingId). holds c.held q w.number ≡ true) old (subst (λ (z : WrappedMessage A). holds c.held z.ring z.number ≡ true) same t))
        | inr ended ↦ elim (ws.ended) [
          | inl none ↦ absurd (subst (λ (ps : List (Payload A)). IsIn x.payload ps) none ended)
          | inr end ↦ elim (subst (λ (ps : List (Payload A)). IsIn x.payload ps) end.one ended)
              [ inl q ↦ absurd (let both : End ≡ Wrapped w = sym q ∙ e in let n : ⊥ = cc in n) | inr none ↦ absurd none ]
        ]
      ]

  moved_unwraps : (m : Move A) → MayMove (IsReceivedFrame frames i) c m → IsLow c → Unwraps c → Unwraps (core_after_move c m)
  moved_unwraps (Idles state gathering last_sent queue sends) may l u s x j ring w e old =
      elim (may.leaves) [
        | inl k ↦ u (sym k ∙ s) x j ring w e old
        | inr (inl k) ↦ absurd (let q : Gather ≡ Recovery = sym k ∙ s in let n : ⊥ = cc in n)
        | inr (inr k) ↦ absurd (let q : Stopped ≡ Recovery = sym k ∙ s in let n : ⊥ = cc in n)
      ]
  moved_unwraps (Enters k) may l u s x j ring w e old = absurd (let q : Commit ≡ Recovery = s in let n : ⊥ = cc in n)
  moved_unwraps (Learns k) may l u s x j ring w e old =
      (let a : x.ring.seq < floor c = in-each (λ (x : Message A). x.ring.seq < floor c) x c.held (l.fresh may.state)
      j in let b : x.ring.seq ≡ floor c = ap (λ (r : RingId). r.seq) ring in absurd (omega (arith, a, b)))
  moved_unwraps (Visits t fresh requests again queue) may l u s x j ring w e old =
      let ns = numbered t.ring c.me t.seq fresh in
      elim (in-parts x (reverse ns) c.held j) [
        | inl new ↦ holds_more (reverse ns) w.number (visited_inner t fresh again queue may s x new w e old)
        | inr k ↦ holds_more (reverse ns) w.number (u s x k ring w e old)
      ]
  moved_unwraps (Takes y) may l u s x j ring w e old =
      elim (in-parts x (old_ring_messages c.state c y) (y ∷ c.held) j) [
        | inl given ↦ (let g = in-each _ x (old_ring_messages c.state c y) (gives_inner c.state c y) given in
            let q : x.ring ≡ c.installed.ring = ap (λ (z : Message A). z.ring) g.inner_is ∙ g.ring_is in
            absurd (not_installed cores frames r i low s (sym ring ∙ q)))
        | inr (inl k) ↦ took_inner y may s w (ap (λ (z : Message A). z.payload) (sym k) ∙ e) old
        | inr (inr k) ↦ holds-more (old_ring_messages c.state c y) (y ∷ c.held) c.installed.ring w.number (holds_more (y ∷ []) w.number (u s x k ring w e old))
      ]
  moved_unwraps Installs may l u s x j ring w e old = absurd (let q : Operational ≡ Recovery = s in let n : ⊥ = cc in n)

-- In every run

pub record AllUnwrap {A : Type 0} (cores : ℕ → Core A) (frames : List (Transmission A)) : Type 0 where
  pub rec : Recovered cores frames
  pub low : (q : ℕ) → IsLow (cores q)
  pub unwraps : (q : ℕ) → Unwraps (cores q)

pub unwrap_moved : {A : Type 0} → (cores : ℕ → Core A) (frames : List (Transmission A)) (i : ℕ) (m : Move A) → 1 ≤ i
    → MayMove (IsReceivedFrame frames i) (cores i) m → AllUnwrap cores frames →
    AllUnwrap (with_core cores i (core_after_move (cores i) m)) (frames ++ transmissions_from i (sends_of (cores i) m))
unwrap_moved {A} cores frames i m low may a =
    let d = core_after_move (cores i) m in
    record {
      rec = recovering.moves cores frames i m low may a.rec;
      low = put-each (λ q (x : Core A). IsLow x) cores i d (λ q n. a.low q) (moved_low (IsReceivedFrame frames i) (cores i) m may ((a.rec).local i) (a.low i));
      unwraps = put-each (λ q (x : Core A). Unwraps x) cores i d (λ q n. a.unwraps q) (moved_unwraps cores frames a.rec i low m may (a.low i) (a.unwraps i));
    }

pub all_unwrap : {A : Type 0} → (n : ℕ) (events : List (RingEvent A)) → AllUnwrap (run (unformed n) events).cores (run (unformed n) events).frames
all_unwrap {A} n events =
    kept_run AllUnwrap (record { moves = unwrap_moved }) (unformed n) events
    (record { rec = opening_recovered A n; low = λ q. record { low = tt; fresh = λ s. tt }; unwraps = λ q s x j. absurd j })

pub all_recover : {A : Type 0} → (n : ℕ) (events : List (RingEvent A)) (q : ℕ)
    → ((run (unformed n) events).cores q).state ≡ Recovery → IsRecovering ((run (unformed n) events).cores q)
all_recover n events q s =
    let a = all_unwrap n events in
    let p = (a.rec).recovers q s in
    record { transitional_member = p.transitional_member; marked = p.marked; within = p.within; inner_messages = a.unwraps q s }
