-- What a core sent in a ring is a prefix of what was handed to it there. While it runs the ring, what it sent and what is in its
-- queue are all of it.
use Rattle.std.proofs.Common.{◌≡◌, ℕ, ◌<◌, ◌≤◌, Bool, true, false, ◌&&◌, ◌⊎◌, inl, inr, List, [], ◌∷◌, ◌++◌, refl, ap}
use Rattle.std.proofs.Common.{sym, ◌∙◌, subst, arith, append_assoc, append-nil}
use Rattle.std.specs.Prelude.{filter}
use Rattle.std.specs.List.{AllByRecursion as Each, flat_map}
use Rattle.std.proofs.lemmas.Bool.{cond-true, cond-false, cases_Bool, and_parts}
use Rattle.ring_base.specs.Prefixes.{IsListPrefix, prefix_trans}
use Rattle.ring_base.specs.Rings.{same_ring}
use Rattle.ring_base.specs.declared.ring_id.RingId.{RingId}
use Rattle.ring_base.specs.declared.state.State.{State}
use Rattle.ring_base.specs.declared.state.State.TheVariants.{Gather, Commit, Recovery, Operational, Stopped}
use Rattle.ring_base.proofs.Each.{each-weaker, each-append, each-push}
use Rattle.ring_payload.specs.declared.content.Payload.{Payload}
use Rattle.ring_payload.specs.PayloadKinds.{is_user, unpacked_payloads}
use Rattle.ring_payload.specs.Packing.{is_queued, AreQueued, packed_payloads, unpacked_rest}
use Rattle.ring_payload.proofs.Packing.{unpacked_payloads-packed_payloads, packed_payloads-users, user-queued}
use Rattle.ring_wire.specs.declared.token.Token.{Token}
use Rattle.ring_base.proofs.SameRing.{ring_same, same-self}
use Rattle.ring_core_spec.specs.Commits.{Configuration}
use Rattle.ring_core_spec.specs.Tokens.{TokenVisit, visits_in_ring}
use Rattle.ring_core_spec.specs.declared.input.Input.{Input}
use Rattle.ring_core_spec.specs.State.{Core, TransitionResult, opening, halted}
use Rattle.ring_core_spec.specs.Visiting.{accepts, room_at, payloads_to_send, new_payloads, queue_after}
use Rattle.ring_core_spec.specs.Joining.{proposes}
use Rattle.ring_core_spec.specs.Giving.{install}
use Rattle.ring_core_spec.specs.Deciding.{Transition, Ignore, Enqueue, Repeat, Announce, Invite, GiveUp, EnterGather, Agree, MergeJoin}
use Rattle.ring_core_spec.specs.Deciding.{EnterGatherAndAgree, EnterGatherAndMergeJoin, Take, Visit, Fill, Learn, decide}
use Rattle.ring_core_spec.specs.Transitions.{apply_transition, may_propose_after, with_proposal_if, transition_and_proposal}
use Rattle.ring_core_proof.specs.FactWords.{IsIn}
use Rattle.ring_core_proof.specs.LawConditions.{HasPassed}
use Rattle.ring_core_proof.specs.Moves.{IsWrapping, AreWraps}
use Rattle.ring_core_proof.proofs.WrapsAndEnd.{are_wraps}
use Rattle.ring_core_proof.proofs.Guards.{guarded}
use Rattle.ring_core_proof.proofs.StepsAreMoves.{queue_each}
use Rattle.ring_core_proof.proofs.OwnRings.{below_first}
use Rattle.ring_synchrony_proof.proofs.Ordered.{Ordered}
use Rattle.ring_core_spec.proofs.Quiet.{with_queue}
use Rattle.ring_core_spec.proofs.States.{proposes_gathering, accepted_ring}
use Rattle.ring_order_proof.proofs.DisciplinedSteps.{installed_rings}
use Rattle.ring_order_proof.specs.SentPayloads.{payloads_of_visit, payloads_of_visits, sent_payloads}

-- The invariants

-- before a ring is installed the queue is empty
abbrev pub IsClear : {A : Type 0} → State → List (Payload A) → Type 0
IsClear Gather queue = queue ≡ []
IsClear Commit queue = queue ≡ []
IsClear Recovery queue = queue ≡ []
IsClear Operational queue = Unit {0}
IsClear Stopped queue = Unit {0}

-- of one core: what is queued was handed over, nothing is sent in a ring that it didn't install, and in Operational the installed
-- ring runs
pub record IsSpeaker {A : Type 0} (c : Core A) : Type 0 where
  pub queued : AreQueued c.queue
  pub clear : IsClear c.state c.queue
  pub silent : (ring : RingId) → (sent_payloads c ring ≡ []) ⊎ IsIn ring (installed_rings c.installs)
  pub operating : c.state ≡ Operational → c.running ≡ c.installed

-- of what was handed to it in a ring
pub record IsSaid {A : Type 0} (c : Core A) (ring : RingId) (sent : List (Payload A)) : Type 0 where
  pub front : IsListPrefix (sent_payloads c ring) sent
  pub waits : c.state ≡ Operational → ring ≡ c.installed.ring → sent ≡ sent_payloads c ring ++ c.queue

-- New messages of a visit

users_all : {A : Type 0} → (ps : List (Payload A)) → Each (λ (p : Payload A). is_user p ≡ true) ps → filter is_user ps ≡ ps
users_all [] h = refl
users_all {A} (p ∷ ps) h = cond-true (is_user p) (p ∷ filter is_user ps) (filter is_user ps) h.0 ∙ ap (λ (qs : List (Payload A)). p ∷ qs) (users_all ps h.1)

users_none : {A : Type 0} → (ps : List (Payload A)) → Each (λ (p : Payload A). is_user p ≡ false) ps → filter is_user ps ≡ []
users_none [] h = refl
users_none {A} (p ∷ ps) h = cond-false (is_user p) (p ∷ filter is_user ps) (filter is_user ps) h.0 ∙ users_none ps h.1

-- of a queue: with what is left after it, it is the queue
spoken_queue : {A : Type 0} → (count : ℕ) (queue : List (Payload A)) → AreQueued queue → payloads_of_visit (packed_payloads count queue) ++ unpacked_rest count queue ≡ queue
spoken_queue {A} count queue q =
    let users = packed_payloads-users count queue (each-weaker (λ (p : Payload A). is_queued p ≡ true) (λ (p : Payload A). is_user p ≡ true) user-queued queue q) in
    ap (λ (ps : List (Payload A)). flat_map unpacked_payloads ps ++ unpacked_rest count queue) (users_all (packed_payloads count queue) users) ∙ unpacked_payloads-packed_payloads count queue q

-- of recovery: none
wraps_silent : {A : Type 0} → (c : Core A) (ps : List (Payload A)) → AreWraps c ps → payloads_of_visit ps ≡ []
wraps_silent {A} c ps w =
    let no : Payload A → Type 0 = λ p. is_user p ≡ false in
    let first : Each no w.wraps = each-weaker (IsWrapping c) no (λ p (k : IsWrapping c p). subst no (sym (k.1)) refl) w.wraps w.handed in
    let last : Each no w.ends = elim (w.ended) [
      | inl e ↦ subst (Each no) (sym e) tt
      | inr m ↦ subst (Each no) (sym m.one) (refl, tt)
    ] in
    ap (flat_map unpacked_payloads) (ap (filter is_user) w.parts ∙ users_none (w.wraps ++ w.ends) (each-append no w.wraps w.ends first last))

-- A visit

visit_here : {A : Type 0} → (c : Core A) (t : Token) (ring : RingId) → same_ring t.ring ring ≡ true →
    sent_payloads (apply_transition c (Visit t)).core ring ≡ sent_payloads c ring ++ payloads_of_visit (new_payloads c t)
visit_here {A} c t ring e = ap payloads_of_visits (cond-true (same_ring t.ring ring) _ _ e)

visit_else : {A : Type 0} → (c : Core A) (t : Token) (ring : RingId) → same_ring t.ring ring ≡ false → sent_payloads (apply_transition c (Visit t)).core ring ≡ sent_payloads c ring
visit_else {A} c t ring e = ap payloads_of_visits (cond-false (same_ring t.ring ring) _ _ e)

-- new messages if the core isn't in Operational
not_operating : {A : Type 0} → (s : State) (c : Core A) (count : ℕ) → (s ≡ Operational → ⊥) → payloads_of_visit (payloads_to_send s c count) ≡ []
not_operating Gather c count n = refl
not_operating Commit c count n = refl
not_operating Recovery c count n = wraps_silent c (payloads_to_send Recovery c count) (are_wraps c count)
not_operating Operational c count n = absurd (n refl)
not_operating Stopped c count n = refl

operates_or : (s : State) → (s ≡ Operational) ⊎ (s ≡ Operational → ⊥)
operates_or Gather = inr (λ e. cc)
operates_or Commit = inr (λ e. cc)
operates_or Recovery = inr (λ e. cc)
operates_or Operational = inl refl
operates_or Stopped = inr (λ e. cc)

module _ {A : Type 0} (c : Core A) (t : Token) (m : IsSpeaker c) (a : accepts c t ≡ true) where
  abbrev d : Core A
  d = (apply_transition c (Visit t)).core

  -- while the ring runs
  here_said : (ring : RingId) (sent : List (Payload A)) → c.state ≡ Operational → same_ring t.ring ring ≡ true → IsSaid c ring sent → IsSaid d ring sent
  here_said ring sent o e s =
      let same : t.ring ≡ ring = ring_same t.ring ring e in
      let is : ring ≡ c.installed.ring = sym same ∙ accepted_ring c t a ∙ ap (λ (x : Configuration). x.ring) (m.operating o) in
      let count = room_at c t in
      let fresh : payloads_of_visit (new_payloads c t) ++ queue_after c.state count c.queue ≡ c.queue =
      subst (λ q. payloads_of_visit (payloads_to_send q c count) ++ queue_after q count c.queue ≡ c.queue) (sym o) (spoken_queue count c.queue m.queued) in
      let all : sent ≡ sent_payloads d ring ++ d.queue =
      s.waits o is ∙ ap (λ (q : List (Payload A)). sent_payloads c ring ++ q) (sym fresh)
      ∙ sym (append_assoc (sent_payloads c ring) (payloads_of_visit (new_payloads c t)) (queue_after c.state count c.queue))
      ∙ ap (λ (x : List (Payload A)). x ++ d.queue) (sym (visit_here c t ring e)) in
      record { front = (d.queue, sym all); waits = λ p q. all }

  -- if nothing more is sent in the ring
  none_said : (ring : RingId) (sent : List (Payload A)) → sent_payloads d ring ≡ sent_payloads c ring
      → (c.state ≡ Operational → ring ≡ c.installed.ring → ⊥) → IsSaid c ring sent →
      IsSaid d ring sent
  none_said ring sent e n s =
      record { front = subst (λ (x : List (Payload A)). IsListPrefix x sent) (sym e) s.front; waits = λ p q. absurd (n p q) }

  recovers_said : (ring : RingId) → (c.state ≡ Operational → ⊥) → sent_payloads d ring ≡ sent_payloads c ring
  recovers_said ring n = elim (cases_Bool (same_ring t.ring ring)) [
    | inl e ↦ visit_here c t ring e ∙ ap (λ (x : List (Payload A)). sent_payloads c ring ++ x) (not_operating c.state c (room_at c t) n) ∙ append-nil (sent_payloads c ring)
    | inr e ↦ visit_else c t ring e
  ]

  visit_said : (ring : RingId) (sent : List (Payload A)) → IsSaid c ring sent → IsSaid d ring sent
  visit_said ring sent s = elim (operates_or c.state) [
    | inl o ↦ elim (cases_Bool (same_ring t.ring ring)) [
      | inl e ↦ here_said ring sent o e s
      | inr e ↦ none_said ring sent (visit_else c t ring e) (λ p q. other ring o e q) s
    ]
    | inr n ↦ none_said ring sent (recovers_said ring n) (λ p q. n p) s
  ]
    where
      other : (ring : RingId) → c.state ≡ Operational → same_ring t.ring ring ≡ false → ring ≡ c.installed.ring → ⊥
      other ring o e q =
          let same : t.ring ≡ ring = accepted_ring c t a ∙ ap (λ (x : Configuration). x.ring) (m.operating o) ∙ sym q in
          let yes : same_ring t.ring ring ≡ true = subst (λ (r : RingId). same_ring t.ring r ≡ true) same (same-self t.ring) in
          let x : true ≡ false = sym yes ∙ e in cc

  same_silent : (ring : RingId) → sent_payloads d ring ≡ sent_payloads c ring → (sent_payloads d ring ≡ []) ⊎ IsIn ring (installed_rings c.installs)
  same_silent ring e = elim (m.silent ring) [ inl none ↦ inl (e ∙ none) | inr i ↦ inr i ]

  visit_silent : Ordered c → (ring : RingId) → (sent_payloads d ring ≡ []) ⊎ IsIn ring (installed_rings c.installs)
  visit_silent k ring = elim (operates_or c.state) [
    | inl o ↦ elim (cases_Bool (same_ring t.ring ring)) [
      | inl e ↦ inr (subst (λ (xs : List Configuration). IsIn ring (installed_rings xs)) (sym k.newest)
          (inl (sym (ring_same t.ring ring e) ∙ accepted_ring c t a ∙ ap (λ (x : Configuration). x.ring) (m.operating o))))
      | inr e ↦ same_silent ring (visit_else c t ring e)
    ]
    | inr n ↦ same_silent ring (recovers_said ring n)
  ]

  visit_clear : (s : State) → IsClear s c.queue → IsClear s (queue_after s (room_at c t) c.queue)
  visit_clear Gather h = h
  visit_clear Commit h = h
  visit_clear Recovery h = h
  visit_clear Operational h = tt
  visit_clear Stopped h = tt

-- Each act except that of a payload handed over

-- a core that differs only in its state and sets, and which has left Operational or is in it as before
left_said : {A : Type 0} → (c d : Core A) (ring : RingId) (sent : List (Payload A)) → d.turns ≡ c.turns
    → (d.state ≡ Operational → ⊥) → IsSaid c ring sent → IsSaid d ring sent
left_said {A} c d ring sent e n s =
    record { front = subst (λ (vs : List (TokenVisit A)). IsListPrefix (payloads_of_visits (visits_in_ring ring vs)) sent) (sym e) s.front; waits = λ p q. absurd (n p) }

same_said : {A : Type 0} → (c d : Core A) (ring : RingId) (sent : List (Payload A)) → d.turns ≡ c.turns
    → d.state ≡ c.state → d.installed ≡ c.installed → d.queue ≡ c.queue →
    IsSaid c ring sent → IsSaid d ring sent
same_said {A} c d ring sent e st i q s =
    record {
      front = subst (λ (vs : List (TokenVisit A)). IsListPrefix (payloads_of_visits (visits_in_ring ring vs)) sent) (sym e) s.front;
      waits = λ o r. s.waits (sym st ∙ o) (r ∙ ap (λ (x : Configuration). x.ring) i)
          ∙ ap (λ (vs : List (TokenVisit A)). payloads_of_visits (visits_in_ring ring vs) ++ c.queue) (sym e) ∙ ap (λ (x : List (Payload A)). sent_payloads d ring ++ x) (sym q);
    }

-- it isn't a payload handed over
abbrev pub IsNoSend : {A : Type 0} → Transition A → Type 0
IsNoSend (Enqueue p) = ⊥
IsNoSend _ = Unit {0}

act_said : {A : Type 0} → (c : Core A) (a : Transition A) → HasPassed c a → IsNoSend a → IsSpeaker c → (ring : RingId) (sent : List (Payload A)) → IsSaid c ring sent →
    IsSaid (apply_transition c a).core ring sent
act_said c Ignore g n m ring sent s = s
act_said c (Enqueue p) g n m ring sent s = absurd n
act_said c Repeat g n m ring sent s = s
act_said c Announce g n m ring sent s = s
act_said c Invite g n m ring sent s = s
act_said c GiveUp g n m ring sent s = same_said c _ ring sent refl refl refl refl s
act_said c EnterGather g n m ring sent s = left_said c _ ring sent refl (λ e. cc) s
act_said c (Agree j) g n m ring sent s = same_said c _ ring sent refl refl refl refl s
act_said c (MergeJoin j) g n m ring sent s = same_said c _ ring sent refl refl refl refl s
act_said c (EnterGatherAndAgree j) g n m ring sent s = left_said c _ ring sent refl (λ e. cc) s
act_said c (EnterGatherAndMergeJoin j) g n m ring sent s = left_said c _ ring sent refl (λ e. cc) s
act_said c (Take x) g n m ring sent s = same_said c _ ring sent refl refl refl refl s
act_said c (Visit t) g n m ring sent s = visit_said c t m g.1 ring sent s
act_said c (Fill k) g n m ring sent s = left_said c _ ring sent refl (λ e. cc) s
act_said c (Learn k) g n m ring sent s = left_said c _ ring sent refl (λ e. cc) s

act_speaks : {A : Type 0} → (c : Core A) (a : Transition A) → HasPassed c a → Ordered c → IsSpeaker c → IsSpeaker (apply_transition c a).core
act_speaks c Ignore g o m = m
act_speaks {A} c (Enqueue p) g o m =
    record {
      queued = each-push (λ (p : Payload A). is_queued p ≡ true) c.queue p m.queued g.1;
      clear = subst (λ s. IsClear s (c.queue ++ p ∷ [])) (sym g.0) tt;
      silent = m.silent;
      operating = m.operating;
    }
act_speaks c Repeat g o m = m
act_speaks c Announce g o m = m
act_speaks c Invite g o m = m
act_speaks c GiveUp g o m = record { queued = m.queued; clear = m.clear; silent = m.silent; operating = m.operating }
act_speaks c EnterGather g o m = record { queued = tt; clear = refl; silent = m.silent; operating = λ e. absurd cc }
act_speaks c (Agree j) g o m = record { queued = m.queued; clear = m.clear; silent = m.silent; operating = m.operating }
act_speaks c (MergeJoin j) g o m = record { queued = m.queued; clear = m.clear; silent = m.silent; operating = m.operating }
act_speaks c (EnterGatherAndAgree j) g o m = record { queued = tt; clear = refl; silent = m.silent; operating = λ e. absurd cc }
act_speaks c (EnterGatherAndMergeJoin j) g o m = record { queued = tt; clear = refl; silent = m.silent; operating = λ e. absurd cc }
act_speaks c (Take x) g o m = record { queued = m.queued; clear = m.clear; silent = m.silent; operating = m.operating }
act_speaks {A} c (Visit t) g o m =
    record {
      queued = queue_each (λ (p : Payload A). is_queued p ≡ true) c.state (room_at c t) c.queue m.queued;
      clear = visit_clear c t m g.1 c.state m.clear;
      silent = visit_silent c t m g.1 o;
      operating = m.operating;
    }
act_speaks c (Fill k) g o m = record {
  queued = m.queued;
  clear = subst (λ s. IsClear s c.queue) g.state m.clear;
  silent = m.silent;
  operating = λ e. absurd cc;
}
act_speaks c (Learn k) g o m = record {
  queued = m.queued;
  clear = subst (λ s. IsClear s c.queue) g.state m.clear;
  silent = m.silent;
  operating = λ e. absurd cc;
}

-- A proposal

proposed_said : {A : Type 0} → (b : Bool) (did : TransitionResult A) (ring : RingId) (sent : List (Payload A))
    → IsSaid did.core ring sent → IsSaid (with_proposal_if b did).core ring sent
proposed_said false did ring sent s = s
proposed_said true did ring sent s = left_said did.core _ ring sent refl (λ e. cc) s

proposed_speaks : {A : Type 0} → (b : Bool) (did : TransitionResult A) → (b ≡ true → (did.core).state ≡ Gather) → IsSpeaker did.core → IsSpeaker (with_proposal_if b did).core
proposed_speaks false did g m = m
proposed_speaks true did g m =
    record { queued = m.queued; clear = subst (λ s. IsClear s (did.core).queue) (g refl) m.clear; silent = m.silent; operating = λ e. absurd cc }

-- All that is done before a ring may be installed

pub done_said : {A : Type 0} → (c : Core A) (input : Input A) → IsNoSend (decide c input) → IsSpeaker c
    → (ring : RingId) (sent : List (Payload A)) → IsSaid c ring sent →
    IsSaid (transition_and_proposal c (decide c input)).core ring sent
done_said c input n m ring sent s =
    proposed_said (may_propose_after (decide c input) && proposes (apply_transition c (decide c input)).core) _ ring sent
    (act_said c (decide c input) (guarded c input) n m ring sent s)

pub done_speaks : {A : Type 0} → (c : Core A) (input : Input A) → Ordered c → IsSpeaker c → IsSpeaker (transition_and_proposal c (decide c input)).core
done_speaks c input o m =
    let e = (apply_transition c (decide c input)).core in
    proposed_speaks (may_propose_after (decide c input) && proposes e) (apply_transition c (decide c input))
    (λ b. proposes_gathering e.state e (and_parts (may_propose_after (decide c input)) (proposes e) b).1)
    (act_speaks c (decide c input) (guarded c input) o m)

-- A ring is installed

-- the rings of falling configurations
in_rings : (ring : RingId) (xs : List Configuration) → IsIn ring (installed_rings xs) → (x : Configuration) × IsIn x xs × (x.ring ≡ ring)
in_rings ring [] i = absurd i
in_rings ring (x ∷ xs) (inl e) = (x, inl refl, sym e)
in_rings ring (x ∷ xs) (inr i) = let r = in_rings ring xs i in (r.0, inr r.1, r.2)

-- the running ring isn't one of those installed
pub not_among : {A : Type 0} → (c : Core A) → Ordered c → c.state ≡ Recovery → (ring : RingId)
    → IsIn ring (installed_rings c.installs) → ring ≡ c.running.ring → ⊥
not_among {A} c o s ring i e =
    let r = in_rings ring (c.installed ∷ o.older) (subst (λ (xs : List Configuration). IsIn ring (installed_rings xs)) o.newest i) in
    let a : (r.0).ring.seq ≤ c.installed.ring.seq = below_first c.installed o.older o.falls r.0 r.1 in
    let b : c.installed.ring.seq < c.running.ring.seq = o.apart (inr s) in
    let same : (r.0).ring.seq ≡ c.running.ring.seq = ap (λ (x : RingId). x.seq) (r.2 ∙ e) in
    omega (arith, a, b, same)

pub install_said : {A : Type 0} → (c : Core A) → Ordered c → c.state ≡ Recovery
    → (ring : RingId) (sent : List (Payload A)) → IsIn ring (installed_rings c.installs) →
    IsSaid c ring sent → IsSaid (install c) ring sent
install_said c o st ring sent i s = record { front = s.front; waits = λ p e. absurd (not_among c o st ring i e) }

-- nothing was sent or handed over in the new ring
pub install_new : {A : Type 0} → (c : Core A) → Ordered c → IsSpeaker c → c.state ≡ Recovery → IsSaid (install c) c.running.ring []
install_new {A} c o m st =
    let none : sent_payloads c c.running.ring ≡ [] = elim (m.silent c.running.ring) [ inl e ↦ e | inr i ↦ absurd (not_among c o st c.running.ring i refl) ] in
    let empty : c.queue ≡ [] = subst (λ s. IsClear s c.queue) st m.clear in
    record {
      front = ([], append-nil (sent_payloads c c.running.ring) ∙ none);
      waits = λ p e. sym (ap (λ (x : List (Payload A)). x ++ c.queue) none ∙ empty);
    }

pub install_speaks : {A : Type 0} → (c : Core A) → IsSpeaker c → IsSpeaker (install c)
install_speaks c m =
    record { queued = m.queued; clear = tt; silent = λ ring. elim (m.silent ring) [ inl e ↦ inl e | inr i ↦ inr (inr i) ]; operating = λ e. refl }

-- A stop, and the opening

pub halt_said : {A : Type 0} → (c : Core A) (ring : RingId) (sent : List (Payload A)) → IsSaid c ring sent → IsSaid (halted c) ring sent
halt_said c ring sent s = left_said c (halted c) ring sent refl (λ e. cc) s

pub halt_speaks : {A : Type 0} → (c : Core A) → IsSpeaker c → IsSpeaker (halted c)
halt_speaks c m = record { queued = m.queued; clear = tt; silent = m.silent; operating = λ e. absurd cc }

pub opening_speaks : {A : Type 0} → (n me : ℕ) → IsSpeaker (opening {A = A} n me)
opening_speaks n me = record { queued = tt; clear = refl; silent = λ ring. inl refl; operating = λ e. absurd cc }

-- Payloads are handed over

abbrev pub queue_with : {A : Type 0} → State → List (Payload A) → List (Payload A) → List (Payload A)
queue_with Operational queue more = queue ++ more
queue_with Gather queue more = queue
queue_with Commit queue more = queue
queue_with Recovery queue more = queue
queue_with Stopped queue more = queue

operates_with : {A : Type 0} → (s : State) (queue more : List (Payload A)) → s ≡ Operational → queue_with s queue more ≡ queue ++ more
operates_with {A} s queue more e = subst (λ (t : State). queue_with t queue more ≡ queue ++ more) (sym e) refl

-- in the newest ring they are among what was handed over
pub hand_said : {A : Type 0} → (c : Core A) (ring : RingId) (sent more : List (Payload A)) → IsSaid c ring sent →
    IsSaid (with_queue c (queue_with c.state c.queue more)) ring (sent ++ more)
hand_said {A} c ring sent more s =
    record {
      front = prefix_trans (sent_payloads c ring) sent (sent ++ more) s.front (more, refl);
      waits = λ o e. ap (λ (x : List (Payload A)). x ++ more) (s.waits o e) ∙ append_assoc (sent_payloads c ring) c.queue more
          ∙ ap (λ (x : List (Payload A)). sent_payloads c ring ++ x) (sym (operates_with c.state c.queue more o));
    }

-- in the others nothing changes
pub hand_other : {A : Type 0} → (c : Core A) (ring : RingId) (sent more : List (Payload A)) → (ring ≡ c.installed.ring → ⊥) → IsSaid c ring sent →
    IsSaid (with_queue c (queue_with c.state c.queue more)) ring sent
hand_other c ring sent more n s = record { front = s.front; waits = λ o e. absurd (n e) }

queue_clear : {A : Type 0} → (s : State) (queue more : List (Payload A)) → IsClear s queue → IsClear s (queue_with s queue more)
queue_clear Gather queue more h = h
queue_clear Commit queue more h = h
queue_clear Recovery queue more h = h
queue_clear Operational queue more h = tt
queue_clear Stopped queue more h = tt

queue_queued : {A : Type 0} → (s : State) (queue more : List (Payload A)) → AreQueued queue → AreQueued more → AreQueued (queue_with s queue more)
queue_queued Gather queue more h k = h
queue_queued Commit queue more h k = h
queue_queued Recovery queue more h k = h
queue_queued {A} Operational queue more h k = each-append (λ (p : Payload A). is_queued p ≡ true) queue more h k
queue_queued Stopped queue more h k = h

pub hand_speaks : {A : Type 0} → (c : Core A) (more : List (Payload A)) → AreQueued more → IsSpeaker c
    → IsSpeaker (with_queue c (queue_with c.state c.queue more))
hand_speaks c more q m =
    record {
      queued = queue_queued c.state c.queue more m.queued q;
      clear = queue_clear c.state c.queue more m.clear;
      silent = m.silent;
      operating = m.operating;
    }
