-- A core forwards its token: the parts of its rings are kept.
use Rattle.std.proofs.Common.{◌≡◌, ℕ, suc, ◌+◌, ◌≤◌, max, true, false, List, ◌∷◌, map, length, Option, Some, refl}
use Rattle.std.proofs.Common.{ap, ◌∙◌, sym, subst, ◌⊎◌, inl, inr, arith}
use Rattle.std.proofs.lemmas.Bool.{true≢false}
use Rattle.ring_base.proofs.SameRing.{higher_other}
use Rattle.ring_base.specs.Rings.{same_ring}
use Rattle.ring_base.specs.Numbers.{greatest}
use Rattle.ring_base.specs.Processors.{only, next}
use Rattle.ring_base.specs.declared.ring_id.RingId.{RingId}
use Rattle.ring_base.specs.declared.state.State.{State}
use Rattle.ring_base.specs.declared.state.State.TheVariants.{Gather, Commit, Recovery, Operational, Stopped}
use Rattle.ring_payload.specs.declared.content.Payload.{Payload}
use Rattle.ring_wire.specs.declared.frame.Frame.TheVariants.{Token as TokenFrame}
use Rattle.ring_wire.specs.declared.token.Token.{Token}
use Rattle.ring_window.specs.Held.{of_ring, highest, front_of, missing}
use Rattle.ring_window.specs.Windows.{WindowHistory, window_after_forget}
use Rattle.ring_window.proofs.OfRing.{missing_of_ring}
use Rattle.ring_token.specs.TokenVisits.{TokenVisit, MarkRaise, visits_in_ring, mark_from_arus, forwarded_in, raised_to, safe_mark}
use Rattle.ring_token.specs.Visits.{requests_after}
use Rattle.ring_token.specs.Histories.{TokenHistory, visit_made, history_with_visit, mark_of, last_aru}
use Rattle.ring_join.specs.Gatherers.{Gatherer}
use Rattle.ring_commit.specs.declared.configuration.Configuration.{Configuration}
use Rattle.ring_recover.specs.Plans.{safe}
use Rattle.ring_core_spec.specs.State.{Core, OutgoingFrame, floor}
use Rattle.ring_core_spec.specs.Views.{front, mark, plan}
use Rattle.ring_srp_state.specs.declared.ring_part.WindowAndVisits.{WindowAndVisits}
use Rattle.ring_srp_state.specs.declared.recovery_state.RecoveryState.{RecoveryState}
use Rattle.ring_srp_transitions.specs.RunningCores.{IsPart, IsBelow, held_ring_bound, is_forming, is_running, window_of, visits_of, raises_of, Recovers, IsRunningCore}
use Rattle.ring_srp_transitions.specs.Passing.{token_passed_on}
use Rattle.ring_srp_state.specs.Setting.{turn_in, HasDeferred}
use Rattle.ring_srp_state.specs.Users.{users_in}
use Rattle.ring_srp_transitions.proofs.KeptByTransitions.{machine_as}
use Rattle.ring_srp_transitions.proofs.UsersOfRing.{users_of, front_by, mark_of_part}
use Rattle.ring_srp_transitions.proofs.OneRingOfCore.{turns_twice, raises_twice}
use Rattle.ring_srp_state.proofs.OneVisitMore.{turned, unturned, mark_unturned, mark_within, mark_risen, led_turned, led_unturned, aru_within}

-- the mark from the visits of one ring is the core's
mark_of_visits : {A : Type 0} (me : ℕ) (turns : List (TokenVisit A)) (raises : List MarkRaise) (ring : RingId) →
    mark_of (record { me = me; ring = ring; turns = visits_in_ring ring turns; raises = raises_of ring raises }) ≡ safe_mark turns raises ring
mark_of_visits {A} me turns raises ring =
    ap (λ (vs : List (TokenVisit A)). max (mark_from_arus (map (λ (x : TokenVisit A). x.forwarded.aru) vs)) (raised_to ring (raises_of ring raises))) (turns_twice turns ring)
    ∙ ap (λ (xs : List MarkRaise). max (mark_from_arus (forwarded_in ring turns)) (greatest (map (λ (x : MarkRaise). x.mark) xs))) (raises_twice raises ring)

-- The part of one ring

-- the core after the visit is recorded
abbrev pub after_turn : {A : Type 0} → Core A → TokenVisit A → Option (OutgoingFrame A) → Core A
after_turn c v x = record c { turns = v ∷ c.turns; last_sent = x }

module _ {A : Type 0} {c : Core A} {ring : RingId} {w : WindowHistory A} {h : TokenHistory A} (p : IsPart c ring w h) where
  -- the visit is the one that the core makes
  pub turn_is : (t : Token) (remaining_requests : List ℕ) (fresh : List (Payload A)) → t.ring ≡ ring →
      turn_in w h t remaining_requests fresh ≡ visit_made c.me (front_of c.held t.ring) fresh
      (requests_after remaining_requests (missing c.held t.ring (mark c t.ring) (t.seq + length fresh))) t
  turn_is t remaining_requests fresh e =
      let upto = t.seq + length fresh in
      let me : h.me ≡ c.me = ap (λ (y : TokenHistory A). y.me) p.visit_is in
      let f : front_of w.held w.ring ≡ front_of c.held t.ring = front_by c ring w h p ∙ sym (ap (front_of c.held) e) in
      let lacks : missing w.held w.ring w.mark upto ≡ missing c.held t.ring (mark c t.ring) upto =
      ap (λ (u : WindowHistory A). missing u.held u.ring u.mark upto) p.window_is ∙ missing_of_ring c.held ring (mark c ring) upto
      ∙ sym (ap (λ (q : RingId). missing c.held q (mark c q) upto) e) in
      ap (λ n. visit_made n (front_of w.held w.ring) fresh (requests_after remaining_requests (missing w.held w.ring w.mark upto)) t) me
      ∙ ap (λ n. visit_made c.me n fresh (requests_after remaining_requests (missing w.held w.ring w.mark upto)) t) f
      ∙ ap (λ ns. visit_made c.me (front_of c.held t.ring) fresh (requests_after remaining_requests ns) t) lacks

  -- the requirements of a visit
  pub part_ring : h.ring ≡ ring
  part_ring = ap (λ (y : TokenHistory A). y.ring) p.visit_is

  pub part_reached : mark_of h ≤ front_of w.held w.ring
  part_reached = omega (arith, ap mark_of p.visit_is ∙ mark_of_visits c.me c.turns c.raises ring, front_by c ring w h p, p.reached)

  pub part_led : last_aru (visits_in_ring h.ring h.turns) ≤ front_of w.held w.ring
  part_led = omega (
    arith,
    ap (λ (y : TokenHistory A). last_aru (visits_in_ring y.ring y.turns)) p.visit_is
        ∙ ap (λ (vs : List (TokenVisit A)). last_aru vs) (turns_twice c.turns ring),
    front_by c ring w h p,
    p.led,
  )

  -- so the core after it is the one that forwarded the token
  pub passed_is : (t : Token) (remaining_requests : List ℕ) (fresh : List (Payload A)) → t.ring ≡ ring →
      after_turn c (turn_in w h t remaining_requests fresh) (Some (record
      { to = only (next c.running.members c.me); frame = TokenFrame (turn_in w h t remaining_requests fresh).forwarded })) ≡ token_passed_on c t remaining_requests fresh
  passed_is t remaining_requests fresh e =
      ap (λ (v : TokenVisit A). after_turn c v (Some (record { to = only (next c.running.members c.me); frame = TokenFrame v.forwarded }))) (turn_is t remaining_requests fresh e)

module _ {A : Type 0} (c : Core A) (ring : RingId) (w : WindowHistory A) (h : TokenHistory A) (v : TokenVisit A) (x : Option (OutgoingFrame A)) (p : IsPart c ring w h) where
  -- for the ring that is visited
  pub part_turned : v.received.ring ≡ ring → v.forwarded.aru ≤ front c ring → IsPart (after_turn c v x) ring (window_after_forget w (mark_of (history_with_visit h v))) (history_with_visit h v)
  part_turned e l =
      let as_window : ℕ → WindowHistory A = λ n. record { ring = ring; mark = n; held = of_ring ring c.held } in
      let as_visits : List (TokenVisit A) → TokenHistory A = λ vs. record { me = c.me; ring = ring; turns = vs; raises = raises_of ring c.raises } in
      let told : history_with_visit h v ≡ visits_of (after_turn c v x) ring = ap (λ (y : TokenHistory A). history_with_visit y v) p.visit_is
      ∙ ap as_visits (sym (turned v c.turns ring e)) in
      let m : mark_of (history_with_visit h v) ≡ mark (after_turn c v x) ring = ap mark_of told ∙ mark_of_visits c.me (v ∷ c.turns) c.raises ring in
      let risen : mark c ring ≤ mark (after_turn c v x) ring = mark_risen v c.turns c.raises ring e in
      let n : max (mark c ring) (mark_of (history_with_visit h v)) ≡ mark (after_turn c v x) ring = greater _ _ _ m risen in
      record {
        window_is = ap (λ (u : WindowHistory A). window_after_forget u (mark_of (history_with_visit h v))) p.window_is ∙ ap as_window n;
        visit_is = told;
        reached = mark_within v c.turns c.raises ring (front c ring) e p.led p.reached;
        near = near_on _ _ _ risen p.near;
        led = led_turned v c.turns ring (front c ring) e l;
      }
    where
      greater : (a b d : ℕ) → b ≡ d → a ≤ d → max a b ≡ d
      greater a b d e l = omega arith

      near_on : (a b d : ℕ) → a ≤ b → d ≤ a + 256 → d ≤ b + 256
      near_on a b d l n = omega arith

  -- for another ring
  pub part_apart : same_ring v.received.ring ring ≡ false → IsPart (after_turn c v x) ring w h
  part_apart e =
      let as_window : ℕ → WindowHistory A = λ n. record { ring = ring; mark = n; held = of_ring ring c.held } in
      let as_visits : List (TokenVisit A) → TokenHistory A = λ vs. record { me = c.me; ring = ring; turns = vs; raises = raises_of ring c.raises } in
      let m : mark (after_turn c v x) ring ≡ mark c ring = mark_unturned v c.turns c.raises ring e in
      record {
        window_is = p.window_is ∙ ap as_window (sym m);
        visit_is = p.visit_is ∙ ap as_visits (sym (unturned v c.turns ring e));
        reached = subst (λ n. n ≤ front c ring) (sym m) p.reached;
        near = subst (λ n. highest c.held ring ≤ n + 256) (sym m) p.near;
        led = led_unturned v c.turns ring (front c ring) e p.led;
      }

-- Recovery

-- more messages are deferred
pub recovers_deferred : {A : Type 0} {c : Core A} {r r' : RecoveryState A} → Recovers c r → HasDeferred r r' → Recovers c r'
recovers_deferred {A} {c} {r'} m s =
    let part = subst (λ (q : WindowAndVisits A). IsPart c c.running.ring q.window q.visit) (sym s.part) m.part in
    let window : r'.part.window ≡ window_of c c.running.ring = part.window_is in
    let far : front_of r'.part.window.held r'.part.window.ring ≡ front c c.running.ring = front_by c c.running.ring r'.part.window r'.part.visit part in
    record {
      part = part;
      plan_is = s.plan ∙ m.plan_is;
      ends_is = s.ends ∙ m.ends_is;
      deferred_is = s.deferred ∙ ap (λ (w : WindowHistory A). users_in w 0 r'.most) window ∙ users_of c c.running.ring 0 r'.most;
      deferred_in_front = farther _ _ _ _ s.far far m.deferred_in_front;
      deferred_covers_mark = omega (arith, m.deferred_covers_mark, s.more);
      deferred_covers_aru = omega (arith, m.deferred_covers_aru, s.more);
      old_safe = m.old_safe;
    }
  where
    farther : (now before reach front : ℕ) → now ≤ max before reach → reach ≡ front → before ≤ front → now ≤ front
    farther now before reach front a b d = omega arith

-- the window still keeps the messages that aren't deferred
pub deferred_near : {A : Type 0} {c : Core A} {r : RecoveryState A} → Recovers c r → r.part.window.mark ≤ r.most
deferred_near {c} {r} m = omega (arith, mark_of_part c c.running.ring r.part.window r.part.visit m.part, m.deferred_covers_mark)

pub deferred_there : {A : Type 0} {c : Core A} {r : RecoveryState A} → Recovers c r → r.deferred.items ≡ users_in r.part.window 0 r.most
deferred_there {A} {c} {r} m = m.deferred_is ∙ sym (ap (λ (w : WindowHistory A). users_in w 0 r.most) m.part.window_is ∙ users_of c c.running.ring 0 r.most)

-- the part of the running ring after its token was forwarded
abbrev pub turned_in : {A : Type 0} → RecoveryState A → TokenVisit A → RecoveryState A
turned_in r v = record r { part = record { window = window_after_forget r.part.window (mark_of (history_with_visit r.part.visit v)); visit = history_with_visit r.part.visit v } }

recovers_turned : {A : Type 0} (c : Core A) (r : RecoveryState A) (v : TokenVisit A) (x : Option (OutgoingFrame A)) → Recovers c r →
    same_ring v.received.ring c.installed.ring ≡ false →
    v.received.ring ≡ c.running.ring → v.forwarded.aru ≤ front c c.running.ring → front c c.running.ring ≤ r.most → Recovers (after_turn c v x) (turned_in r v)
recovers_turned c r v x m apart e l all = record {
  part = part_turned c c.running.ring r.part.window r.part.visit v x m.part e l;
  plan_is = m.plan_is;
  ends_is = m.ends_is;
  deferred_is = m.deferred_is;
  deferred_in_front = m.deferred_in_front;
  deferred_covers_mark = mark_within v c.turns c.raises c.running.ring r.most e m.deferred_covers_aru m.deferred_covers_mark;
  deferred_covers_aru = led_turned v c.turns c.running.ring r.most e (omega (arith, l, all));
  old_safe = subst (λ k. k ≤ safe (plan c)) (sym (mark_unturned v c.turns c.raises c.installed.ring apart)) m.old_safe;
}

-- Every state

bound_running : (s : State) (n : ℕ) → is_running s ≡ true → held_ring_bound s n ≡ suc n
bound_running Recovery n h = refl
bound_running Operational n h = refl
bound_running Gather n h = absurd (true≢false (sym h))
bound_running Commit n h = absurd (true≢false (sym h))
bound_running Stopped n h = absurd (true≢false (sym h))

-- a state in which a ring runs
pub running_state : (s : State) → is_running s ≡ true → (s ≡ Recovery) ⊎ (s ≡ Operational)
running_state Recovery h = inl refl
running_state Operational h = inr refl
running_state Gather h = absurd (true≢false (sym h))
running_state Commit h = absurd (true≢false (sym h))
running_state Stopped h = absurd (true≢false (sym h))

recovery_no_operational : (s : State) → s ≡ Recovery → s ≡ Operational → ⊥
recovery_no_operational s e f = (let q : Recovery ≡ Operational = sym e ∙ f in cc)

-- a visit of the running ring is below the bound
below_turned : {A : Type 0} {c : Core A} {v : TokenVisit A} {x : Option (OutgoingFrame A)} → IsBelow c (held_ring_bound c.state (floor c)) → is_running c.state ≡ true
    → v.received.ring ≡ c.running.ring → IsBelow (after_turn c v x) (held_ring_bound c.state (floor c))
below_turned {c} b runs e =
    record { held = b.held; turns = (omega (arith, ap (λ (q : RingId). q.seq) e, bound_running c.state (floor c) runs), b.turns); raises = b.raises }

module _ {A : Type 0} {c : Core A} {gather : Gatherer} {window : WindowHistory A} {visit : TokenHistory A} where
  -- in Recovery more messages are deferred
  pub deferred_on : {recovery : Option (RecoveryState A)} {r : RecoveryState A} → IsRunningCore c gather window visit recovery → c.state ≡ Recovery → Recovers c r
      → IsRunningCore c gather window visit (Some r)
  deferred_on m is now = machine_as m refl refl m.kept m.below (λ q. now) (λ q. absurd (q is))

  -- and the token is forwarded
  pub running_on : {recovery : Option (RecoveryState A)} {r : RecoveryState A} {last_sent : Option (OutgoingFrame A)} (t : Token) (remaining_requests : List ℕ)
      (fresh : List (Payload A)) → IsRunningCore c gather window visit recovery → c.state ≡ Recovery → Recovers c r
      → front_of r.part.window.held r.part.window.ring ≤ r.most → t.ring ≡ c.running.ring
      → IsRunningCore (after_turn c (turn_in r.part.window r.part.visit t remaining_requests fresh) last_sent) gather window visit
      (Some (turned_in r (turn_in r.part.window r.part.visit t remaining_requests fresh)))
  running_on {r} {last_sent} t remaining_requests fresh m is now all e =
      let w = r.part.window in
      let v = turn_in w r.part.visit t remaining_requests fresh in
      let f : front_of w.held w.ring ≡ front c c.running.ring = front_by c c.running.ring w r.part.visit now.part in
      let apart : same_ring t.ring c.installed.ring ≡ false = ap (λ (q : RingId). same_ring q c.installed.ring) e
      ∙ higher_other c.running.ring c.installed.ring (m.apart (ap is_forming is)) in
      machine_as m refl refl (part_apart c c.installed.ring window visit v last_sent m.kept apart) (below_turned m.below (ap is_running is) e)
      (λ q. recovers_turned c r v last_sent now apart e (subst (λ k. v.forwarded.aru ≤ k) f (aru_within w r.part.visit t remaining_requests fresh))
      (subst (λ k. k ≤ r.most) f all)) (λ q. absurd (q is))

  -- in Operational the part is that of the running ring
  pub running_part : {recovery : Option (RecoveryState A)} → IsRunningCore c gather window visit recovery → c.state ≡ Operational
      → IsPart c c.running.ring window visit
  running_part m is = subst (λ (q : Configuration). IsPart c q.ring window visit) (m.same is) m.kept

  -- and the token is forwarded
  pub installed_on : {recovery : Option (RecoveryState A)} {last_sent : Option (OutgoingFrame A)} (t : Token) (remaining_requests : List ℕ) (fresh : List (Payload A))
      → IsRunningCore c gather window visit recovery → c.state ≡ Operational → t.ring ≡ c.running.ring
      → IsRunningCore (after_turn c (turn_in window visit t remaining_requests fresh) last_sent) gather
      (window_after_forget window (mark_of (history_with_visit visit (turn_in window visit t remaining_requests fresh)))) (history_with_visit visit (turn_in window visit t remaining_requests fresh)) recovery
  installed_on {last_sent} t remaining_requests fresh m is e =
      let v = turn_in window visit t remaining_requests fresh in
      let here : t.ring ≡ c.installed.ring = e ∙ sym (ap (λ (q : Configuration). q.ring) (m.same is)) in
      let l = subst (λ k. v.forwarded.aru ≤ k) (front_by c c.installed.ring window visit m.kept) (aru_within window visit t remaining_requests fresh) in
      machine_as m refl refl (part_turned c c.installed.ring window visit v last_sent m.kept here l) (below_turned m.below (ap is_running is) e)
      (λ q. absurd (recovery_no_operational c.state q is)) m.over
