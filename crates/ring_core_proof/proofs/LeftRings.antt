-- The facts of a ring that a core has left stay as they are, and no fact of the installed ring is added between the
-- report of it and the plan.

-- Each fact that a move adds is of the running ring, of the installed one or of a new one, which is above all earlier
-- rings.
use Rattle.std.proofs.Common.{◌≡◌, ℕ, ◌<◌, ◌≤◌, ◌⊎◌, max, inl, inr, List, [], ◌∷◌, ◌++◌, map, length, refl, ap, sym, ◌∙◌, arith}
use Rattle.std.specs.Prelude.{filter, reverse}
use Rattle.std.specs.List.{AllByRecursion as Each}
use Rattle.std.proofs.lemmas.Bool.{cond-false}
use Rattle.ring_base.specs.Numbers.{greatest}
use Rattle.ring_base.specs.Rings.{same_ring}
use Rattle.ring_base.specs.declared.ring_id.RingId.{RingId}
use Rattle.ring_base.specs.declared.state.State.{State}
use Rattle.ring_base.specs.declared.state.State.TheVariants.{Gather, Commit, Recovery, Operational, Stopped}
use Rattle.ring_base.proofs.Each.{each-weaker}
use Rattle.ring_payload.specs.declared.content.Payload.{Payload}
use Rattle.ring_wire.specs.declared.commit.CommitToken.{CommitToken}
use Rattle.ring_wire.specs.declared.entries.CommitEntry.{CommitEntry}
use Rattle.ring_wire.specs.declared.frame.Frame.{Frame}
use Rattle.ring_wire.specs.declared.message.Message.{Message}
use Rattle.ring_wire.specs.declared.token.Token.{Token}
use Rattle.ring_core_spec.specs.Windows.{held_bits, front_of}
use Rattle.ring_core_spec.proofs.Windows.{front_of_ring, held_bits_of_ring}
use Rattle.ring_base.proofs.SameRing.{other_ring}
use Rattle.ring_core_spec.specs.Tokens.{TokenVisit, MarkRaise, mark_from_arus, numbered}
use Rattle.ring_core_spec.specs.Commits.{Configuration}
use Rattle.ring_core_spec.specs.declared.input.Input.{Input}
use Rattle.ring_core_spec.specs.State.{Core, Report, floor}
use Rattle.ring_core_spec.specs.Views.{front, mark, own_entry}
use Rattle.ring_core_spec.specs.Transitions.{old_ring_messages}
use Rattle.ring_core_spec.specs.Stepping.{after_inputs}
use Rattle.ring_core_proof.specs.Moves.{Move, Idles, Enters, Learns, Visits, Takes, Installs, turn_with, core_after_move, MayMove}
use Rattle.ring_core_proof.proofs.KeptByMoves.{always}
use Rattle.ring_core_proof.specs.KnowledgeOfRings.{RingKnowledge, knowledge_of, HasLeft, IsBetweenRings, KeepsKnowledge, KeepsReport}
use Rattle.ring_core_proof.proofs.OwnFacts.{visited_of, gives_of}

-- Facts of other rings

of_others : {X : Type 0} (ring_of : X → RingId) (ring : RingId) (xs ys : List X) → Each (λ x. ring_of x ≡ ring → ⊥) xs →
    filter (λ x. same_ring (ring_of x) ring) (xs ++ ys) ≡ filter (λ x. same_ring (ring_of x) ring) ys
of_others ring_of ring [] ys h = refl
of_others ring_of ring (x ∷ xs) ys h =
    let rest = filter (λ x. same_ring (ring_of x) ring) (xs ++ ys) in
    cond-false (same_ring (ring_of x) ring) (x ∷ rest) rest (other_ring (ring_of x) ring h.0) ∙ of_others ring_of ring xs ys h.1

-- facts of another ring are none of this one
of_another : {A : Type 0} → (old ring : RingId) (xs : List (Message A)) → (old ≡ ring → ⊥) → Each (λ (x : Message A). x.ring ≡ old) xs →
    Each (λ (x : Message A). x.ring ≡ ring → ⊥) xs
of_another {A} old ring xs n h =
    each-weaker (λ (x : Message A). x.ring ≡ old) (λ (x : Message A). x.ring ≡ ring → ⊥) (λ x e k. n (sym e ∙ k)) xs h

known_same : {A : Type 0} → (K L : RingKnowledge A) → K.held ≡ L.held → K.turns ≡ L.turns → K.raises ≡ L.raises → K.reports ≡ L.reports → K.plans ≡ L.plans → K ≡ L
known_same {A} K L h t r p k =
    let a : K ≡ record { held = L.held; turns = K.turns; raises = K.raises; reports = K.reports; plans = K.plans } =
    ap (λ (xs : List (Message A)). record { held = xs; turns = K.turns; raises = K.raises; reports = K.reports; plans = K.plans }) h in
    let b = ap (λ (xs : List (TokenVisit A)). record { held = L.held; turns = xs; raises = K.raises; reports = K.reports; plans = K.plans }) t in
    let c = ap (λ (xs : List MarkRaise). record { held = L.held; turns = L.turns; raises = xs; reports = K.reports; plans = K.plans }) r in
    let d = ap (λ (xs : List Report). record { held = L.held; turns = L.turns; raises = L.raises; reports = xs; plans = K.plans }) p in
    let e = ap (λ (xs : List CommitToken). record { held = L.held; turns = L.turns; raises = L.raises; reports = L.reports; plans = xs }) k in
    a ∙ b ∙ c ∙ d ∙ e

-- The facts that a move adds

-- it adds no fact of the ring
abbrev Keeps : {A : Type 0} → RingId → Core A → Core A → Type 0
Keeps ring c d = knowledge_of ring d ≡ knowledge_of ring c

keeps_entered : {A : Type 0} → (ring : RingId) (c : Core A) (k : CommitToken) → (k.ring ≡ ring → ⊥) → Keeps ring c (core_after_move c (Enters k))
keeps_entered {A} ring c k n =
    known_same (knowledge_of ring (core_after_move c (Enters k))) (knowledge_of ring c) refl refl refl
    (of_others (λ (x : Report). x.ring) ring (record { ring = k.ring; entry = own_entry c } ∷ []) c.reports (n, tt)) refl

keeps_learned : {A : Type 0} → (ring : RingId) (c : Core A) (k : CommitToken) → (k.ring ≡ ring → ⊥) → (c.installed.ring ≡ ring → ⊥) →
    Keeps ring c (core_after_move c (Learns k))
keeps_learned {A} ring c k n old =
    known_same (knowledge_of ring (core_after_move c (Learns k))) (knowledge_of ring c) refl refl
    (of_others (λ (x : MarkRaise). x.ring) ring (record { ring = c.installed.ring; mark = _ } ∷ []) c.raises (old, tt)) refl
    (of_others (λ (l : CommitToken). l.ring) ring (k ∷ []) c.plans (n, tt))

keeps_visited : {A : Type 0} →
    (ring : RingId) (c : Core A) (t : Token) (fresh : List (Payload A)) (requests : List ℕ) (again : List (Message A)) (queue : List (Payload A)) →
    (t.ring ≡ ring → ⊥) → Keeps ring c (core_after_move c (Visits t fresh requests again queue))
keeps_visited {A} ring c t fresh requests again queue n =
    let new = reverse (numbered t.ring c.me t.seq fresh) in
    known_same (knowledge_of ring (core_after_move c (Visits t fresh requests again queue))) (knowledge_of ring c)
    (of_others (λ (x : Message A). x.ring) ring new c.held (of_another t.ring ring new n (visited_of t.ring c.me t.seq fresh)))
    (of_others (λ (v : TokenVisit A). v.received.ring) ring (turn_with c t fresh requests ∷ []) c.turns (n, tt)) refl refl refl

keeps_took : {A : Type 0} → (ring : RingId) (c : Core A) (x : Message A) → (x.ring ≡ ring → ⊥) → (c.installed.ring ≡ ring → ⊥) →
    Keeps ring c (core_after_move c (Takes x))
keeps_took {A} ring c x n old =
    let inner = old_ring_messages c.state c x in
    known_same (knowledge_of ring (core_after_move c (Takes x))) (knowledge_of ring c)
    (of_others (λ (y : Message A). y.ring) ring inner (x ∷ c.held) (of_another c.installed.ring ring inner old (gives_of c.state c x))
    ∙ of_others (λ (y : Message A). y.ring) ring (x ∷ []) c.held (n, tt))
    refl refl refl refl

-- A ring that the core has left

record HasStayed {A : Type 0} (ring : RingId) (before c : Core A) : Type 0 where
  pub left : HasLeft c ring
  pub known : Keeps ring before c

-- it stays left, as long as the running and the installed ring are these
still_left : {A : Type 0} → (c d : Core A) (ring : RingId) → d.running ≡ c.running → d.installed ≡ c.installed → HasLeft c ring → HasLeft d ring
still_left c d ring s t l =
    let low : ring.seq ≤ floor c = l.below in
    let same : floor d ≡ floor c = ap (λ (p : Configuration). p.ring.seq) s in
    record {
      below = omega (arith, low, same);
      running = λ e. l.running (e ∙ ap (λ (p : Configuration). p.ring) s);
      installed = λ e. l.installed (e ∙ ap (λ (p : Configuration). p.ring) t);
    }

moved_stays : {A : Type 0} → (ring : RingId) (before : Core A) (received : Frame A → Type 0) (c : Core A) (m : Move A) → MayMove received c m →
    HasStayed ring before c → HasStayed ring before (core_after_move c m)
moved_stays ring before received c (Idles state gathering last_sent queue sends) h s = record { left = still_left c _ ring refl refl s.left; known = s.known }
moved_stays ring before received c (Enters k) h s =
    let low : ring.seq ≤ floor c = (s.left).below in
    let above : floor c < k.ring.seq = h.above in
    let newer : k.ring ≡ ring → ⊥ = λ e. (let q : k.ring.seq ≡ ring.seq = ap (λ (r : RingId). r.seq) e in omega arith) in
    let under : ring.seq ≤ k.ring.seq = omega arith in
    record { left = record { below = under; running = λ e. newer (sym e); installed = (s.left).installed }; known = keeps_entered ring c k newer ∙ s.known }
moved_stays ring before received c (Learns k) h s =
    record {
      left = still_left c _ ring refl refl s.left;
      known = keeps_learned ring c k (λ e. (s.left).running (sym e ∙ h.ring)) (λ e. (s.left).installed (sym e)) ∙ s.known;
    }
moved_stays ring before received c (Visits t fresh requests again queue) h s =
    record {
      left = still_left c _ ring refl refl s.left;
      known = keeps_visited ring c t fresh requests again queue (λ e. (s.left).running (sym e ∙ h.ring)) ∙ s.known;
    }
moved_stays ring before received c (Takes x) h s =
    let other : x.ring ≡ ring → ⊥ = λ e. elim (h.ring) [ inl r ↦ (s.left).running (sym e ∙ r.ring) | inr r ↦ (s.left).installed (sym e ∙ r.ring) ] in
    record { left = still_left c _ ring refl refl s.left; known = keeps_took ring c x other (λ e. (s.left).installed (sym e)) ∙ s.known }
moved_stays ring before received c Installs h s =
    record { left = record { below = (s.left).below; running = (s.left).running; installed = (s.left).running }; known = s.known }

-- Front, mark and report are computed from the facts

known_front : {A : Type 0} → (ring : RingId) (c d : Core A) → Keeps ring c d → front d ring ≡ front c ring
known_front {A} ring c d e = sym (front_of_ring d.held ring) ∙ ap (λ (K : RingKnowledge A). front_of K.held ring) e ∙ front_of_ring c.held ring

known_mark : {A : Type 0} → (ring : RingId) (c d : Core A) → Keeps ring c d → mark d ring ≡ mark c ring
known_mark {A} ring c d e = ap (λ (K : RingKnowledge A). max (mark_from_arus (map (λ (v : TokenVisit A). v.forwarded.aru) K.turns)) (greatest (map (λ (x : MarkRaise). x.mark) K.raises))) e

known_bits : {A : Type 0} → (ring : RingId) (c d : Core A) → Keeps ring c d → held_bits d.held ring ≡ held_bits c.held ring
known_bits {A} ring c d e = sym (held_bits_of_ring d.held ring) ∙ ap (λ (K : RingKnowledge A). held_bits K.held ring) e ∙ held_bits_of_ring c.held ring

-- the entry that a core would report of a ring
abbrev entry_of : {A : Type 0} → RingId → Core A → CommitEntry
entry_of ring c = record { old = ring; front = front c ring; mark = mark c ring; held = held_bits c.held ring }

known_entry : {A : Type 0} → (ring : RingId) (c d : Core A) → Keeps ring c d → entry_of ring d ≡ entry_of ring c
known_entry ring c d e =
    ap (λ n. record { old = ring; front = n; mark = mark d ring; held = held_bits d.held ring }) (known_front ring c d e)
    ∙ ap (λ n. record { old = ring; front = front c ring; mark = n; held = held_bits d.held ring }) (known_mark ring c d e)
    ∙ ap (λ bits. record { old = ring; front = front c ring; mark = mark c ring; held = bits }) (known_bits ring c d e)

-- Between rings

record HasWaited {A : Type 0} (before c : Core A) : Type 0 where
  pub between : IsBetweenRings c
  pub plans : c.plans ≡ before.plans
  pub installed : c.installed ≡ before.installed
  pub known : Keeps before.installed.ring before c

not_running : (s : State) → (s ≡ Gather) ⊎ ((s ≡ Commit) ⊎ (s ≡ Stopped)) → (s ≡ Recovery) ⊎ (s ≡ Operational) → ⊥
not_running s (inl a) (inl b) = (let q : Gather ≡ Recovery = sym a ∙ b in let n : ⊥ = cc in n)
not_running s (inl a) (inr b) = (let q : Gather ≡ Operational = sym a ∙ b in let n : ⊥ = cc in n)
not_running s (inr (inl a)) (inl b) = (let q : Commit ≡ Recovery = sym a ∙ b in let n : ⊥ = cc in n)
not_running s (inr (inl a)) (inr b) = (let q : Commit ≡ Operational = sym a ∙ b in let n : ⊥ = cc in n)
not_running s (inr (inr a)) (inl b) = (let q : Stopped ≡ Recovery = sym a ∙ b in let n : ⊥ = cc in n)
not_running s (inr (inr a)) (inr b) = (let q : Stopped ≡ Operational = sym a ∙ b in let n : ⊥ = cc in n)

-- nothing has changed, or a plan was learned
abbrev WaitsOrLearned : {A : Type 0} → Core A → Core A → Type 0
WaitsOrLearned before c = HasWaited before c ⊎ (length before.plans < length c.plans)

learned_more : {A : Type 0} → (c : Core A) (m : Move A) → length c.plans ≤ length (core_after_move c m).plans
learned_more c (Learns k) = omega arith
learned_more c (Idles state gathering last_sent queue sends) = omega arith
learned_more c (Enters k) = omega arith
learned_more c (Visits t fresh requests again queue) = omega arith
learned_more c (Takes x) = omega arith
learned_more c Installs = omega arith

waited_moves : {A : Type 0} → (before : Core A) (received : Frame A → Type 0) (c : Core A) (m : Move A) → MayMove received c m → HasWaited before c →
    WaitsOrLearned before (core_after_move c m)
waited_moves before received c (Idles state gathering last_sent queue sends) h w =
    let between : IsBetweenRings c = w.between in
    inl (record {
      between = record {
        state = elim (h.leaves) [
          | inl same ↦ elim (between.state) [ inl g ↦ inl (same ∙ g) | inr k ↦ elim k [ inl a ↦ inr (inl (same ∙ a)) | inr b ↦ inr (inr (same ∙ b)) ] ]
          | inr other ↦ elim other [ inl g ↦ inl g | inr t ↦ inr (inr t) ]
        ];
        newer = between.newer;
      };
      plans = w.plans;
      installed = w.installed;
      known = w.known;
    })
waited_moves before received c (Enters k) h w =
    let between : IsBetweenRings c = w.between in
    let above : floor c < k.ring.seq = h.above in
    let old : c.installed.ring.seq < floor c = between.newer in
    let same : c.installed.ring.seq ≡ before.installed.ring.seq = ap (λ (p : Configuration). p.ring.seq) w.installed in
    inl (record {
      between = record { state = inr (inl refl); newer = (let l : c.installed.ring.seq < k.ring.seq = omega arith in l) };
      plans = w.plans;
      installed = w.installed;
      known = keeps_entered before.installed.ring c k
          (λ e. (let q : k.ring.seq ≡ before.installed.ring.seq = ap (λ (r : RingId). r.seq) e in omega arith)) ∙ w.known;
    })
waited_moves before received c (Learns k) h w =
    let e : length c.plans ≡ length before.plans = ap (λ (ks : List CommitToken). length ks) w.plans in
    let l : length before.plans < length (k ∷ c.plans) = omega arith in
    inr l
waited_moves before received c (Visits t fresh requests again queue) h w = absurd (not_running c.state (w.between).state h.state)
waited_moves before received c (Takes x) h w =
    elim (h.ring) [
      | inl r ↦ absurd (not_running c.state (w.between).state r.state)
      | inr r ↦ absurd (let old : c.installed.ring.seq < floor c = (w.between).newer in
          let a : x.ring.seq ≡ c.installed.ring.seq = ap (λ (q : RingId). q.seq) r.ring in
          let b : floor c ≡ x.ring.seq = r.newest in
          omega arith)
    ]
waited_moves before received c Installs h w = absurd (not_running c.state (w.between).state (inl h.state))

moved_waits : {A : Type 0} → (before : Core A) (received : Frame A → Type 0) (c : Core A) (m : Move A) → MayMove received c m → WaitsOrLearned before c →
    WaitsOrLearned before (core_after_move c m)
moved_waits before received c m h (inl w) = waited_moves before received c m h w
moved_waits before received c m h (inr l) = inr (let more : length c.plans ≤ length (core_after_move c m).plans = learned_more c m in omega (arith, l))

stays_between : {A : Type 0} → (before later : Core A) → WaitsOrLearned before later → KeepsReport before later
stays_between before later (inl w) =
    record {
      installed = λ e. w.installed;
      known = λ e. w.known;
      entry = λ e. ap (λ (p : Configuration). entry_of p.ring later) w.installed ∙ known_entry before.installed.ring before later w.known;
    }
stays_between before later (inr l) =
    let none : later.plans ≡ before.plans → ⊥ =
    λ e. (let q : length later.plans ≡ length before.plans = ap (λ (ks : List CommitToken). length ks) e in omega (arith, l)) in
    record { installed = λ e. absurd (none e); known = λ e. absurd (none e); entry = λ e. absurd (none e) }

-- After all inputs

pub left_stays : {A : Type 0} → (c : Core A) (later : List (Input A)) (ring : RingId) → HasLeft c ring → KeepsKnowledge ring c (after_inputs c later)
left_stays c later ring left =
    let s : HasStayed ring c (after_inputs c later) =
    always (HasStayed ring c) (record { moves = moved_stays ring c }) c later (record { left = left; known = refl }) in
    record { known = s.known; front_is = known_front ring c (after_inputs c later) s.known; mark_is = known_mark ring c (after_inputs c later) s.known }

pub between_stays : {A : Type 0} → (c : Core A) (later : List (Input A)) → IsBetweenRings c → KeepsReport c (after_inputs c later)
between_stays c later between =
    let now : HasWaited c c = record { between = between; plans = refl; installed = refl; known = refl } in
    stays_between c (after_inputs c later) (always (WaitsOrLearned c) (record { moves = moved_waits c }) c later (inl now))
