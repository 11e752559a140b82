-- Recovery begins: a full commit token fits the part of the old ring, and there are no facts yet of the ring that
-- runs from now on.
use Rattle.std.proofs.Common.{◌≡◌, ℕ, zero, suc, ◌*◌, ◌<◌, ◌≤◌, max, true, List, [], ◌∷◌}
use Rattle.std.proofs.Common.{map, filter_map, length, Option, Some, None, slice_get, refl, ap, ◌∙◌, sym, subst, arith}
use Rattle.std.specs.Prelude.{◌&&◌, ◌==◌, nat_eq, nat_lt, nat_le}
use Rattle.std.specs.List.{AllByRecursion, prefix_len}
use Rattle.std.specs.Cmp.Lexicographic.{pointwise}
use Rattle.std.proofs.lemmas.Bool.{cond_both, cond-true, cond-false, and_parts, and_from, eqb-true, ltb-true, leb-true, le-leb}
use Rattle.std.specs.Option.{option_map}
use Rattle.std.proofs.lemmas.Nat.{mod_below}
use Rattle.ring_base.specs.Numbers.{greatest, numbers_from}
use Rattle.ring_base.specs.Processors.{has, size, position_of, only}
use Rattle.ring_base.specs.Elements.{position_of-at}
use Rattle.ring_base.specs.Members.{has_member}
use Rattle.ring_base.specs.Rings.{same_ring}
use Rattle.ring_base.specs.declared.ring_id.RingId.{RingId}
use Rattle.ring_base.specs.declared.state.State.{State}
use Rattle.ring_base.specs.declared.state.State.TheVariants.{Gather, Recovery, Operational}
use Rattle.ring_wire.specs.declared.commit.CommitToken.{CommitToken}
use Rattle.ring_wire.specs.declared.entries.CommitEntry.{CommitEntry}
use Rattle.ring_wire.specs.declared.frame.Frame.TheVariants.{Commit as CommitFrame}
use Rattle.ring_wire.specs.declared.message.Message.{Message}
use Rattle.ring_window.specs.Held.{found, holds, of_ring, highest, front_of}
use Rattle.ring_base.proofs.SameRing.{ring_same, same-self, lower_other}
use Rattle.ring_window.specs.Windows.{WindowHistory, window_opening, window_after_forget}
use Rattle.ring_token.specs.TokenVisits.{TokenVisit, MarkRaise, visits_in_ring, mark_from_arus, forwarded_in, raised_to, safe_mark}
use Rattle.ring_token.specs.Histories.{TokenHistory, without_visits, history_with_raise, last_aru}
use Rattle.ring_join.specs.Gatherers.{Gatherer}
use Rattle.ring_commit.specs.Reports.{reports_of, safe_of, none_behind, is_sound}
use Rattle.ring_commit.specs.Rounds.{position_of_hop, receiver, hop_with_entries, is_of, is_own}
use Rattle.ring_recover.specs.Installing.{in_front}
use Rattle.ring_recover.specs.Plans.{plan_of, plan_from, plan_if_sound, safe}
use Rattle.ring_recover.specs.RecoveryState.{recovery_opening}
use Rattle.ring_core_spec.specs.State.{Core, OutgoingFrame, floor}
use Rattle.ring_core_spec.specs.Views.{front, mark, own_entry, entries_for, plan}
use Rattle.ring_core_spec.specs.Giving.{user_messages_between}
use Rattle.ring_core_spec.specs.CommitSteps.{commit_sent_on}
use Rattle.ring_core_spec.proofs.Commits.{none_behind-at}
use Rattle.ring_srp_transitions.specs.Allowing.{LearnAllowed}
use Rattle.ring_srp_transitions.specs.Learns.{plan_at, safe_at}
use Rattle.ring_srp_transitions.specs.RunningCores.{IsPart, IsBelow, held_ring_bound, is_forming, Recovers, IsRunningCore, raises_of}
use Rattle.ring_srp_state.specs.declared.recovery_state.RecoveryState.{RecoveryState}
use Rattle.ring_srp_transitions.proofs.KeptByTransitions.{below_wider}
use Rattle.ring_srp_transitions.proofs.Receivers.{receiver_member}
use Rattle.ring_srp_transitions.proofs.UsersOfRing.{front_by}

-- a state differs from any other

recovery_not_gather : Recovery ≡ Gather → ⊥
recovery_not_gather e = (let q : Recovery ≡ Gather = e in cc)

recovery_not_operational : Recovery ≡ Operational → ⊥
recovery_not_operational e = (let q : Recovery ≡ Operational = e in cc)

-- One name

-- Reports

-- the greatest reported mark of an old ring is at least each
marked : (old : RingId) (es : List CommitEntry) (k : ℕ) (e : CommitEntry) → slice_get es k ≡ Some e → same_ring e.old old ≡ true
    → e.mark ≤ safe_of (reports_of old es)
marked old [] k e h s = absurd cc
marked old (x ∷ es) zero e h s =
    let same : x ≡ e = cc in
    let there : same_ring x.old old ≡ true = subst (λ (y : CommitEntry). same_ring y.old old ≡ true) (sym same) s in
    subst (λ (y : CommitEntry). y.mark ≤ safe_of (reports_of old (x ∷ es))) same
    (subst (λ (ys : List CommitEntry). x.mark ≤ safe_of ys) (sym (cond-true (same_ring x.old old) (x ∷ reports_of old es) (reports_of old es) there))
    (omega arith))
marked old (x ∷ es) (suc k) e h s =
    let l = marked old es k e h s in
    cond_both (same_ring x.old old) (x ∷ reports_of old es) (reports_of old es) (λ (ys : List CommitEntry). e.mark ≤ safe_of ys) (λ t. omega (arith, l))
    (λ t. l)

-- the node's own report, where it is in the token
pub record IsOwn (own : CommitEntry) (o : Option CommitEntry) : Type 0 where
  pub entry : CommitEntry
  pub there : o ≡ Some entry
  pub old_is : entry.old ≡ own.old
  pub same : same_ring entry.old own.old ≡ true
  pub front_is : entry.front ≡ own.front
  pub mark_is : entry.mark ≡ own.mark

own_at : (own : CommitEntry) (o : Option CommitEntry) → is_own own o ≡ true → IsOwn own o
own_at own None h = absurd cc
own_at own (Some e) h =
    let a = same_ring e.old own.old in
    let b = e.front == own.front in
    let d = e.mark == own.mark in
    let p = and_parts (a && b && d) (pointwise nat_eq e.held own.held) h in
    let q = and_parts (a && b) d p.0 in
    let r = and_parts a b q.0 in
    record {
      entry = e;
      there = refl;
      old_is = ring_same e.old own.old r.0;
      same = r.0;
      front_is = eqb-true e.front own.front r.1;
      mark_is = eqb-true e.mark
          own.mark q.1;
    }

-- the tests that a core has made
pub record IsSecond {A : Type 0} (c : Core A) (k : CommitToken) : Type 0 where
  pub some : 0 < size k.members
  pub full : size k.members ≤ k.hop
  pub short : k.hop < 2 * size k.members
  pub ring : same_ring k.ring c.running.ring ≡ true
  pub members : k.members ≡ c.running.members
  pub own : IsOwn (own_entry c) (slice_get k.entries (position_of_hop k))
  pub sound : is_sound c.installed.ring k.entries ≡ true

pub second : {A : Type 0} (c : Core A) (k : CommitToken) → LearnAllowed c k → IsSecond c k
second c k a =
    let full = nat_le (size k.members) k.hop in
    let short = nat_lt k.hop (2 * size k.members) in
    let of = is_of c.running k in
    let own = is_own (own_entry c) (slice_get k.entries (position_of_hop k)) in
    let p = and_parts (full && short && of && own) (is_sound c.installed.ring k.entries) a.passes in
    let q = and_parts (full && short && of) own p.0 in
    let r = and_parts (full && short) of q.0 in
    let s = and_parts full short r.0 in
    let t = and_parts (same_ring k.ring c.running.ring) (k.members == c.running.members) r.1 in
    let l : size k.members ≤ k.hop = leb-true (size k.members) k.hop s.0 in
    let m : k.hop < 2 * size k.members = ltb-true k.hop (2 * size k.members) s.1 in
    record {
      some = omega (arith, l, m);
      full = l;
      short = m;
      ring = t.0;
      members = eqb-true k.members c.running.members t.1;
      own = own_at (own_entry c)
          (slice_get k.entries (position_of_hop k)) q.1;
      sound = p.1;
    }

-- The plan

module _ {A : Type 0} (c : Core A) (k : CommitToken) (a : LearnAllowed c k) where
  is_second : IsSecond c k
  is_second = second c k a

  -- the core's position among the members is that of the hop
  stands : position_of k.members c.me ≡ position_of_hop k
  stands =
      let inside : position_of_hop k < size k.members = mod_below k.hop (size k.members) is_second.some in
      let e : receiver k ≡ c.me = eqb-true (receiver k) c.me a.here in
      ap (position_of k.members) (sym e) ∙ position_of-at k.members (position_of_hop k) inside

  planned_by : (o : Option CommitEntry) → IsOwn (own_entry c) o → plan_if_sound k o ≡ Some (plan_at c k)
  planned_by o w =
      ap (plan_if_sound k) w.there
      ∙ cond-true (is_sound w.entry.old k.entries) (Some (plan_of w.entry.old k.members k.entries)) None (ap (λ
      (r : RingId). is_sound r k.entries) w.old_is ∙ is_second.sound)
      ∙ ap (λ (r : RingId). Some (plan_of r k.members k.entries)) w.old_is
      ∙ ap (λ n. Some (plan_of c.installed.ring n k.entries)) is_second.members

  -- the token has a plan for the core: that of its old ring
  pub has_plan : plan_from c.me k ≡ Some (plan_at c k)
  has_plan =
      let member : has k.members c.me ≡ true = has_member k.members c.me (receiver_member c.me k is_second.some a.here) in
      let count : nat_le (size k.members) (length k.entries) ≡ true = le-leb (size k.members) (length k.entries) (omega
      (arith, a.fits.count, is_second.full)) in
      cond-true (has k.members c.me && nat_le (size k.members) (length k.entries)) (plan_if_sound k (slice_get k.entries (position_of k.members c.me))) None
      (and_from _ _ member count)
      ∙ ap (λ n. plan_if_sound k (slice_get k.entries n)) stands
      ∙ planned_by (slice_get k.entries (position_of_hop k)) is_second.own

  -- the core's safe mark is at most the token's
  pub safe_above : mark c c.installed.ring ≤ safe_at c k
  safe_above =
      let w = is_second.own in
      let l = marked c.installed.ring k.entries (position_of_hop k) w.entry w.there w.same in
      omega (arith, l, w.mark_is)

  -- the token's safe mark is at most the front
  pub safe_within : safe_at c k ≤ front c c.installed.ring
  safe_within =
      let w = is_second.own in
      let l = none_behind-at c.installed.ring (safe_at c k) k.entries (position_of_hop k) w.entry is_second.sound w.there w.same in
      omega (arith, l, w.front_is)

-- it is the plan that the code makes
pub planned_for : {A : Type 0} (c : Core A) (k received : CommitToken) → received ≡ k → LearnAllowed c k → (me : ℕ) → me ≡ c.me
    → option_map (recovery_opening {A = A} me) (plan_from me received) ≡ Some (recovery_opening c.me (plan_at c k))
planned_for {A} c k received same a me e = ap (λ (x : CommitToken). option_map (recovery_opening {A = A} me) (plan_from me x)) same
    ∙ ap (λ n. option_map (recovery_opening {A = A} n) (plan_from n k)) e ∙ ap (option_map (recovery_opening {A = A} c.me)) (has_plan c k a)

-- and the token goes to the member whose turn it is
pub passes_on : {A : Type 0} (k forwarded : CommitToken) (who to : ℕ) → forwarded ≡ hop_with_entries k [] → who ≡ receiver forwarded → to ≡ only who
    → ◌≡◌ {A = OutgoingFrame A} (record { to = to; frame = CommitFrame forwarded }) (commit_sent_on (hop_with_entries k []))
passes_on k forwarded who to a d e =
    let there : to ≡ only (receiver (hop_with_entries k [])) = e ∙ ap only (d ∙ ap receiver a) in
    λ i. record { to = there i; frame = CommitFrame (a i) }

-- A ring of a number of which there are no facts

of_none : {A : Type 0} (ring : RingId) (held : List (Message A)) → AllByRecursion (λ (x : Message A). x.ring.seq < ring.seq) held → of_ring ring held ≡ []
of_none ring [] h = refl
of_none ring (x ∷ held) h = cond-false (same_ring x.ring ring) (x ∷ of_ring ring held) (of_ring ring held) (lower_other x.ring ring h.0) ∙ of_none ring held h.1

turns_none : {A : Type 0} (ring : RingId) (turns : List (TokenVisit A)) → AllByRecursion (λ (v : TokenVisit A). v.received.ring.seq < ring.seq) turns → visits_in_ring ring turns ≡ []
turns_none ring [] h = refl
turns_none ring (v ∷ turns) h = cond-false (same_ring v.received.ring ring) (v ∷ visits_in_ring ring turns) (visits_in_ring ring turns) (lower_other v.received.ring ring h.0)
    ∙ turns_none ring turns h.1

raises_none : (ring : RingId) (raises : List MarkRaise) → AllByRecursion (λ (x : MarkRaise). x.ring.seq < ring.seq) raises → raises_of ring raises ≡ []
raises_none ring [] h = refl
raises_none ring (x ∷ raises) h = cond-false (same_ring x.ring ring) (x ∷ raises_of ring raises) (raises_of ring raises) (lower_other x.ring ring h.0)
    ∙ raises_none ring raises h.1

-- the part of a ring of which there are no facts
record IsNew {A : Type 0} (c : Core A) (ring : RingId) : Type 0 where
  part : IsPart c ring (window_opening ring) (without_visits c.me ring)
  seen : of_ring ring c.held ≡ []
  ended : in_front c.held ring ≡ []
  unsafe : mark c ring ≡ 0
  unled : last_aru (visits_in_ring ring c.turns) ≡ 0

is_new : {A : Type 0} (c : Core A) (ring : RingId) → IsBelow c ring.seq → IsNew c ring
is_new c ring b =
    let h = of_none ring c.held b.held in
    let t = turns_none ring c.turns b.turns in
    let r = raises_none ring c.raises b.raises in
    let top : highest c.held ring ≡ 0 = ap (λ (xs : List (Message _)). greatest (map (λ (x : Message _). x.number) xs)) h in
    let f : front c ring ≡ 0 = ap (λ n. prefix_len (holds c.held ring) (numbers_from 1 n)) top in
    let m : mark c ring ≡ 0 =
    ap (λ (vs : List (TokenVisit _)). max (mark_from_arus (map (λ (v : TokenVisit _). v.forwarded.aru) vs)) (raised_to ring c.raises)) t
    ∙ ap (λ (xs : List MarkRaise). max 0 (greatest (map (λ (x : MarkRaise). x.mark) xs))) r in
    let l : last_aru (visits_in_ring ring c.turns) ≡ 0 = ap last_aru t in
    record {
      part = record {
        window_is = λ i. record { ring = ring; mark = sym m i; held = sym h i };
        visit_is = λ i. record { me = c.me; ring = ring; turns = sym t i; raises = sym r i };
        reached = omega (arith, m);
        near = omega (arith, top);
        led = omega (arith, l);
      };
      seen = h;
      ended = ap (λ n. filter_map (found c.held ring) (numbers_from 1 n)) f;
      unsafe = m;
      unled = l;
    }

-- The mark of the old ring is raised

abbrev raise_to : RingId → ℕ → MarkRaise
raise_to ring n = record { ring = ring; mark = n }

raises_more : (ring : RingId) (raises : List MarkRaise) (n : ℕ) → raises_of ring (raise_to ring n ∷ raises) ≡ raise_to ring n ∷ raises_of ring raises
raises_more ring raises n = cond-true (same_ring ring ring) (raise_to ring n ∷ raises_of ring raises) (raises_of ring raises) (same-self ring)

raised : {A : Type 0} (turns : List (TokenVisit A)) (raises : List MarkRaise) (ring : RingId) (n : ℕ)
    → safe_mark turns (raise_to ring n ∷ raises) ring ≡ max (safe_mark turns raises ring) n
raised turns raises ring n =
    ap (λ (xs : List MarkRaise). max (mark_from_arus (forwarded_in ring turns)) (greatest (map (λ (x : MarkRaise). x.mark) xs))) (raises_more ring raises n) ∙ omega arith

-- The core in Recovery

-- the safe numbers are held in the old window
pub may_forget : {A : Type 0} {c : Core A} {gather : Gatherer} {window : WindowHistory A} {visit : TokenHistory A} {recovery : Option (RecoveryState A)}
    {k : CommitToken} {n : ℕ} → IsRunningCore c gather window visit recovery → LearnAllowed c k → n ≡ safe_at c k → n ≤ front_of window.held window.ring
may_forget {c} {window} {visit} {k} m a is = omega (arith, front_by c c.installed.ring window visit m.kept, safe_within c k a, is)

-- Recovery begins, with this token and this mark of the old ring
abbrev recovery_opened_by : {A : Type 0} → Core A → Option (OutgoingFrame A) → CommitToken → ℕ → Core A
recovery_opened_by c last_sent k n = record c { state = Recovery; last_sent = last_sent; raises = raise_to c.installed.ring n ∷ c.raises; plans = k ∷ c.plans }

module _ {A : Type 0} {c : Core A} {gather : Gatherer} {window : WindowHistory A} {visit : TokenHistory A} {recovery : Option (RecoveryState A)}
    {k : CommitToken} {n : ℕ} (last_sent : Option (OutgoingFrame A)) (m : IsRunningCore c gather window visit recovery) (a : LearnAllowed c k) (n_is : n ≡ safe_at c k) where
  -- there are no facts of the running ring
  below : IsBelow (recovery_opened_by c last_sent k n) (floor c)
  below =
      let e : held_ring_bound c.state (floor c) ≡ floor c = ap (λ (x : State). held_ring_bound x (floor c)) a.state in
      let b : IsBelow c (floor c) = below_wider m.below (omega (arith, e)) in
      record { held = b.held; turns = b.turns; raises = (m.apart (ap is_forming a.state), b.raises) }

  fresh : IsNew (recovery_opened_by c last_sent k n) c.running.ring
  fresh = is_new (recovery_opened_by c last_sent k n) c.running.ring below

  planned : plan (recovery_opened_by c last_sent k n) ≡ plan_at c k
  planned = ap (plan_of c.installed.ring c.running.members) (cond-true (same_ring k.ring c.running.ring) k.entries (entries_for c.running.ring c.plans)
      (second c k a).ring)

  higher : mark (recovery_opened_by c last_sent k n) c.installed.ring ≡ max (mark c c.installed.ring) n
  higher = raised c.turns c.raises c.installed.ring n

  old_part : IsPart (recovery_opened_by c last_sent k n) c.installed.ring (window_after_forget window n) (history_with_raise visit n)
  old_part =
      let ring = c.installed.ring in
      let up = higher in
      let l = safe_within c k a in
      record {
        window_is = ap (λ (x : WindowHistory A). window_after_forget x n) m.kept.window_is
            ∙ (λ i. record { ring = ring; mark = sym higher i; held = of_ring ring c.held });
        visit_is = ap (λ (x : TokenHistory A). history_with_raise x n) m.kept.visit_is
            ∙ (λ i. record { me = c.me; ring = ring; turns = visits_in_ring ring c.turns; raises = sym (raises_more ring c.raises n) i });
        reached = omega (arith, m.kept.reached, up, l, n_is);
        near = omega (arith, m.kept.near, up);
        led = m.kept.led;
      }

  pub recovers : (r : RecoveryState A) → r.part.window ≡ window_opening c.running.ring → r.part.visit ≡ without_visits c.me c.running.ring → r.plan ≡ recovery_opening c.me (plan_at c k)
      → r.ends ≡ [] → r.most ≡ 0 → r.deferred.items ≡ [] → Recovers (recovery_opened_by c last_sent k n) r
  recovers r w v p e z x =
      let f = fresh in
      let up = higher in
      let same : safe (plan (recovery_opened_by c last_sent k n)) ≡ safe_at c k = ap safe planned in
      let l = safe_above c k a in
      record {
        part = record { window_is = w ∙ f.part.window_is; visit_is = v ∙ f.part.visit_is; reached = f.part.reached; near = f.part.near; led = f.part.led };
        plan_is = p ∙ (λ i. record { me = c.me; plan = sym planned i; seen = sym f.seen i });
        ends_is = e ∙ sym f.ended;
        deferred_is = x ∙ ap (user_messages_between (recovery_opened_by c last_sent k n) c.running.ring 0) (sym z);
        deferred_in_front = omega (arith, z);
        deferred_covers_mark = omega (arith, f.unsafe, z);
        deferred_covers_aru = omega (arith, f.unled, z);
        old_safe = omega (arith, up, same, l, n_is);
      }

  pub into_recovery : {r : RecoveryState A} → Recovers (recovery_opened_by c last_sent k n) r
      → IsRunningCore (recovery_opened_by c last_sent k n) gather (window_after_forget window n) (history_with_raise visit n) (Some r)
  into_recovery now = record {
    runs = refl;
    gather_me = m.gather_me;
    gather_floor = λ e. absurd (recovery_not_gather e);
    member = m.member;
    kept = old_part;
    below = below_wider below (omega arith);
    older = m.older;
    apart = λ e. m.apart (ap is_forming a.state);
    same = λ e. absurd (recovery_not_operational e);
    recovery_state = λ e. now;
    over = λ n. absurd (n refl);
  }
