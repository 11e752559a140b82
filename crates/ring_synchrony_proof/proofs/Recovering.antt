-- In every world a core in Recovery has a plan, and after each ring change a core holds all that was reported.

-- In Recovery a transitional member reported each number that the core holds of the old ring, and each wrapped number
-- is in the plan; after each ring change that stays so.
use Rattle.std.proofs.Common.{◌≡◌, ℕ, zero, suc, ◌<◌, ◌≤◌, ◌⊎◌, inl, inr, true, ◌&&◌, ◌==◌, List, [], ◌∷◌, ◌++◌, Some, refl, ap, sym, ◌∙◌, subst, arith}
use Rattle.std.specs.Prelude.{slice_get, reverse}
use Rattle.ring_base.specs.Members.{has_member, only_members}
use Rattle.std.specs.List.{AllByRecursion as Each}
use Rattle.std.proofs.lemmas.Bool.{cond_both, and_parts, or_cases, false≢true, eqb-true}
use Rattle.ring_base.specs.Processors.{has, at, only}
use Rattle.ring_base.specs.Rings.{same_ring}
use Rattle.ring_base.specs.declared.ring_id.RingId.{RingId}
use Rattle.ring_base.specs.declared.state.State.{State}
use Rattle.ring_base.specs.declared.state.State.TheVariants.{Gather, Commit, Recovery, Operational, Stopped}
use Rattle.ring_base.proofs.Each.{each-weaker, each-append}
use Rattle.ring_payload.specs.PayloadKinds.{is_user}
use Rattle.ring_payload.specs.declared.content.Payload.{Payload}
use Rattle.ring_payload.specs.declared.content.Payload.TheVariants.{Call, Wrapped, End, Head, Part, Pack, Snap}
use Rattle.ring_payload.specs.declared.content.Wrapped.{Wrapped as WrappedMessage}
use Rattle.ring_wire.specs.declared.commit.CommitToken.{CommitToken}
use Rattle.ring_wire.specs.declared.entries.CommitEntry.{CommitEntry}
use Rattle.ring_wire.specs.declared.frame.Frame.{Frame}
use Rattle.ring_wire.specs.declared.frame.Frame.TheVariants.{Message as MessageFrame}
use Rattle.ring_wire.specs.declared.message.Message.{Message}
use Rattle.ring_wire.specs.declared.token.Token.{Token}
use Rattle.ring_core_spec.specs.Windows.{is_numbered, holds, is_new}
use Rattle.ring_base.proofs.SameRing.{ring_same}
use Rattle.ring_core_spec.specs.Tokens.{TokenVisit, visits_in_ring, VisitBy, numbered}
use Rattle.ring_core_spec.specs.Commits.{position_of_hop, Configuration}
use Rattle.ring_core_spec.specs.Recoveries.{Plan, plan_of, is_known, inner_messages, inner_message}
use Rattle.ring_core_spec.specs.State.{Core, Report, floor, opening, opening_ring}
use Rattle.ring_core_spec.specs.Views.{mark}
use Rattle.ring_core_spec.specs.Transitions.{old_ring_messages, message_taken}
use Rattle.ring_core_spec.specs.Giving.{install}
use Rattle.ring_core_proof.specs.FactWords.{IsIn, SomeIs}
use Rattle.ring_core_proof.specs.LawConditions.{IsFalling}
use Rattle.ring_core_proof.specs.Worlds.{Transmission, with_core, transmissions_from, run, unformed}
use Rattle.ring_core_proof.specs.declared.event.RingEvent.{RingEvent}
use Rattle.ring_core_proof.specs.Moves.{Move, Idles, Enters, Learns, Visits, Takes, Installs, core_after_move, sends_of, MayMove}
use Rattle.ring_core_proof.specs.Moves.{MayVisit, MayTake, IsReceivedFrame, AllAreUsers, IsWrapping}
use Rattle.ring_core_proof.proofs.InLists.{in-each, each-in, in-left, in-right, in-reverse, in-filtered}
use Rattle.ring_core_proof.proofs.Rises.{Rising, moved_rises, runs_in, alone_rises}
use Rattle.ring_core_proof.proofs.WithinWindow.{IsCoreInWindow, moved_fits}
use Rattle.ring_core_proof.proofs.Lifting.{IsKeptInWorlds, kept_run}
use Rattle.ring_chain_proof.specs.ChainWords.{IsGenuine}
use Rattle.ring_chain_proof.proofs.FactsGrow.{put-each, moved_grows}
use Rattle.ring_chain_proof.proofs.Rings.{came_right}
use Rattle.ring_chain_proof.proofs.OneText.{numbered_in}
use Rattle.ring_chain_proof.proofs.Safety.{in_picked}
use Rattle.ring_chain_proof.proofs.AllLayers.{Holds}
use Rattle.ring_chain_proof.proofs.Plans.{IsPlan, HoldsPlans, learned_plan as learned_plan_is, plans_moved, one_plan, plans_hold}
use Rattle.ring_core_spec.proofs.Windows.{found-holds}
use Rattle.ring_synchrony_proof.specs.LifeOfCore.{plan_into}
use Rattle.ring_synchrony_proof.proofs.Ordered.{Ordered, moved_ordered, opening_ordered}
use Rattle.ring_synchrony_proof.proofs.Keeps.{Keeps, IsStill, all_same, visited_same, moved_keeps}
use Rattle.ring_synchrony_proof.proofs.TransitionalMembersReported.{has_at}
use Rattle.ring_synchrony_proof.proofs.KnownReports.{IsReach, own_reach}
use Rattle.ring_synchrony_proof.proofs.Planned.{HasPlan, learned_plan, plan_stays, complete_stays, HasChanged, HaveChanged, AllChanged}

-- Facts of one core

pub record IsLocal {A : Type 0} (c : Core A) : Type 0 where
  pub fit : IsCoreInWindow c
  pub ordered : Ordered c
  pub rises : Rising c
  -- each installed ring was taken part in, and the core is a member of each
  pub among : (x : Configuration) → IsIn x c.installs → IsIn x c.rings
  pub member : (x : Configuration) → IsIn x c.rings → has x.members c.me ≡ true
  -- no report reaches past the window
  pub reports : Each (λ (x : Report). IsReach x.entry) c.reports
  -- the core holds what it numbered
  pub sent : Each (λ (v : TokenVisit A). Each (λ (x : Message A). IsIn x c.held) (numbered v.received.ring c.me v.received.seq v.fresh)) c.turns

held_more : {A : Type 0} → (me : ℕ) (more held : List (Message A)) (turns : List (TokenVisit A)) →
    Each (λ (v : TokenVisit A). Each (λ (x : Message A). IsIn x held) (numbered v.received.ring me v.received.seq v.fresh)) turns →
    Each (λ (v : TokenVisit A). Each (λ (x : Message A). IsIn x (more ++ held)) (numbered v.received.ring me v.received.seq v.fresh)) turns
held_more {A} me more held turns h =
    each-weaker _ _ (λ (v : TokenVisit A) k. each-weaker (λ (x : Message A). IsIn x held)
    (λ (x : Message A). IsIn x (more ++ held)) (λ x i. in-right x more held i)
    (numbered v.received.ring me v.received.seq v.fresh) k) turns h

moved_local : {A : Type 0} → (received : Frame A → Type 0) (c : Core A) (m : Move A) → MayMove received c m → 1 ≤ c.me → IsLocal c → IsLocal (core_after_move c m)
moved_local received c (Idles state gathering last_sent queue sends) h me p =
    record {
      fit = p.fit;
      ordered = moved_ordered received c (Idles state gathering last_sent queue sends) h p.ordered;
      rises = p.rises;
      among = p.among;
      member = p.member;
      reports = p.reports;
      sent = p.sent;
    }
moved_local received c (Enters k) h me p =
    record {
      fit = moved_fits received c (Enters k) h p.fit;
      ordered = moved_ordered received c (Enters k) h p.ordered;
      rises = moved_rises received c (Enters k) h p.rises;
      among = λ x i. inr (p.among x i);
      member = λ x i. elim i [
        | inl e ↦ subst (λ (x : Configuration). has x.members c.me ≡ true) (sym e)
            (has_at k.members (position_of_hop k) c.me h.here me)
        | inr j ↦ p.member x j
      ];
      reports = (own_reach c p.fit, p.reports);
      sent = p.sent;
    }
moved_local received c (Learns k) h me p =
    record {
      fit = moved_fits received c (Learns k) h p.fit;
      ordered = moved_ordered received c (Learns k) h p.ordered;
      rises = p.rises;
      among = p.among;
      member = p.member;
      reports = p.reports;
      sent = p.sent;
    }
moved_local {A} received c (Visits t fresh requests again queue) h me p =
    let ns = numbered t.ring c.me t.seq fresh in
    record {
      fit = moved_fits received c (Visits t fresh requests again queue) h p.fit;
      ordered = moved_ordered received c (Visits t fresh requests again queue) h p.ordered;
      rises = p.rises;
      among = p.among;
      member = p.member;
      reports = p.reports;
      sent = (
        each-in (λ (x : Message A). IsIn x (reverse ns ++ c.held)) ns
            (λ x i. in-left x (reverse ns) c.held (in-reverse x ns i)),
        held_more c.me (reverse ns) c.held c.turns p.sent,
      );
    }
moved_local received c (Takes x) h me p =
    record {
      fit = moved_fits received c (Takes x) h p.fit;
      ordered = moved_ordered received c (Takes x) h p.ordered;
      rises = p.rises;
      among = p.among;
      member = p.member;
      reports = p.reports;
      sent = held_more c.me (old_ring_messages c.state c x) (x ∷ c.held) c.turns (held_more c.me (x ∷ []) c.held c.turns p.sent);
    }
moved_local received c Installs h me p =
    record {
      fit = p.fit;
      ordered = moved_ordered received c Installs h p.ordered;
      rises = p.rises;
      among = λ x i. elim i [ inl e ↦ subst (λ x. IsIn x c.rings) (sym e) (runs_in c p.rises) | inr j ↦ p.among x j ];
      member = p.member;
      reports = p.reports;
      sent = p.sent;
    }

-- Wrapped messages

-- a number that a payload of the ring wraps is known by a plan of the core
abbrev pub IsPlannedIn : {A : Type 0} → Core A → RingId → Payload A → Type 0
IsPlannedIn {A} c ring p =
    (w : WrappedMessage A) → p ≡ Wrapped w → (k : CommitToken) × IsIn k c.plans × (k.ring ≡ ring)
    × (is_known (plan_of w.ring k.members k.entries) w.number ≡ true)

abbrev pub Planned : {A : Type 0} → Core A → Type 0
Planned {A} c = Each (λ (v : TokenVisit A). Each (IsPlannedIn c v.received.ring) v.fresh) c.turns

abbrev pub Recovers : {A : Type 0} → Core A → Type 0
Recovers c = c.state ≡ Recovery → HasPlan c c.running c.installed

user_planned : {A : Type 0} → (c : Core A) (ring : RingId) (p : Payload A) → is_user p ≡ true → IsPlannedIn c ring p
user_planned {A} c ring p u w e = absurd (false≢true (subst (λ (p : Payload A). is_user p ≡ true) e u))

end_planned : {A : Type 0} → (c : Core A) (ring : RingId) → IsPlannedIn {A = A} c ring End
end_planned c ring w e = absurd (let n : ⊥ = cc in n)

wrapping_planned : {A : Type 0} → (c : Core A) (t : Token) → t.ring ≡ c.running.ring → HasPlan c c.running c.installed
    → (p : Payload A) → IsWrapping c p → IsPlannedIn c t.ring p
wrapping_planned {A} c t ring h p (w, e, on) v f =
    let same : w ≡ v = cc in
    let held : holds c.held c.installed.ring w.number ≡ true = subst (λ (r : RingId). holds c.held r w.number ≡ true)
    on.ring (found-holds c.held w.ring w.number _ on.held) in
    let known : is_known (plan_into c c.running c.installed) w.number ≡ true = h.within w.number held in
    let k = h.commit in
    let plan_is : plan_into c c.running c.installed ≡ plan_of w.ring k.members k.entries =
    ap (plan_of c.installed.ring c.running.members) h.entries ∙ ap (λ m. plan_of c.installed.ring m k.entries)
    (sym h.members) ∙ ap (λ (r : RingId). plan_of r k.members k.entries) (sym on.ring) in
    let there : is_known (plan_of w.ring k.members k.entries) w.number ≡ true = subst (λ (q : Plan). is_known q w.number ≡ true) plan_is known in
    (k, h.there, h.ring ∙ sym ring, subst (λ (v : WrappedMessage A). is_known (plan_of v.ring k.members k.entries) v.number ≡ true) same there)

visit_planned : {A : Type 0} → (received : Frame A → Type 0) (c : Core A) (t : Token) (fresh : List (Payload A))
    (again : List (Message A)) (queue : List (Payload A)) →
    MayVisit received c t fresh again queue → AllAreUsers c.queue → Recovers c → Each (IsPlannedIn c t.ring) fresh
visit_planned {A} received c t fresh again queue h users rec =
    elim (h.state) [
      | inl r ↦ (let ws = h.wraps r in
          subst (Each (IsPlannedIn c t.ring)) (sym ws.parts)
          (each-append (IsPlannedIn c t.ring) ws.wraps ws.ends (each-weaker (IsWrapping c) (IsPlannedIn c t.ring)
          (wrapping_planned c t h.ring (rec r)) ws.wraps ws.handed)
          (elim (ws.ended) [
            | inl none ↦ subst (Each (IsPlannedIn c t.ring)) (sym none) tt
            | inr end ↦ subst
                (Each (IsPlannedIn c t.ring)) (sym end.one) (end_planned c t.ring, tt)
          ])))
      | inr o ↦ each-weaker (λ (p : Payload A). is_user p ≡ true) (IsPlannedIn c t.ring) (user_planned c t.ring) fresh (h.users o users)
    ]

moved_planned : {A : Type 0} → (received : Frame A → Type 0) (c : Core A) (m : Move A) → MayMove received c m
    → AllAreUsers c.queue → Recovers c → Planned c → Planned (core_after_move c m)
moved_planned received c (Idles state gathering last_sent queue sends) h u r p = p
moved_planned received c (Enters k) h u r p = p
moved_planned {A} received c (Learns k) h u r p =
    each-weaker _ _ (λ (v : TokenVisit A) e. each-weaker (IsPlannedIn c v.received.ring)
    (IsPlannedIn (core_after_move c (Learns k)) v.received.ring) (λ q f w g. (let s = f w g in (s.0, inr s.1, s.2, s.3)))
    v.fresh e) c.turns p
moved_planned received c (Visits t fresh requests again queue) h u r p = (visit_planned received c t fresh again queue h u r, p)
moved_planned received c (Takes x) h u r p = p
moved_planned received c Installs h u r p = p

-- Inner messages

pub record IsInner {A : Type 0} (ring : RingId) (payload : Payload A) (y : Message A) : Type 0 where
  pub wrapped : WrappedMessage A
  pub payload_is : payload ≡ Wrapped wrapped
  pub ring_is : wrapped.ring ≡ ring
  pub inner_is : y ≡ inner_message wrapped

inner_of : {A : Type 0} → (old : RingId) (m : ℕ) (held : List (Message A)) (p : Payload A) → Each (IsInner old p) (inner_messages old m held p)
inner_of {A} old m held (Wrapped w) =
    cond_both (same_ring w.ring old && is_new held m old w.number) (inner_message w ∷ []) [] (Each (IsInner old (Wrapped w)))
    (λ e. (
      record {
        wrapped = w;
        payload_is = refl;
        ring_is = ring_same w.ring old
            (and_parts (same_ring w.ring old) (is_new held m old w.number) e).0;
        inner_is = refl;
      },
      tt,
    )) (λ e. tt)
inner_of old m held (Call call) = tt
inner_of old m held End = tt
inner_of old m held (Head head) = tt
inner_of old m held (Part part) = tt
inner_of old m held (Pack pack) = tt
inner_of old m held (Snap snap) = tt

pub gives_inner : {A : Type 0} → (s : State) (c : Core A) (x : Message A) → Each (IsInner c.installed.ring x.payload) (old_ring_messages s c x)
gives_inner Recovery c x = inner_of c.installed.ring (mark c c.installed.ring) c.held x.payload
gives_inner Gather c x = tt
gives_inner Commit c x = tt
gives_inner Operational c x = tt
gives_inner Stopped c x = tt

-- a number held among more messages is one of these, or was held
holds-parts : {A : Type 0} → (xs ys : List (Message A)) (ring : RingId) (n : ℕ) → holds (xs ++ ys) ring n ≡ true →
    ((x : Message A) × IsIn x xs × (x.ring ≡ ring) × (x.number ≡ n)) ⊎ (holds ys ring n ≡ true)
holds-parts [] ys ring n h = inr h
holds-parts {A} (x ∷ xs) ys ring n h =
    elim (or_cases (is_numbered ring n x) (holds (xs ++ ys) ring n) h) [
      | inl e ↦ (let p = and_parts (same_ring x.ring ring) (x.number == n) e in inl (x, inl refl, ring_same x.ring ring p.0, eqb-true x.number n p.1))
      | inr e ↦ elim (holds-parts xs ys ring n e) [ inl (y, i, r, m) ↦ inl (y, inr i, r, m) | inr k ↦ inr k ]
    ]

-- the processor that numbered a genuine message
some_of : {X : Type 0} (P : X → Type 0) (xs : List X) → SomeIs P xs → (x : X) × IsIn x xs × P x
some_of P [] h = absurd h
some_of P (x ∷ xs) (inl p) = (x, inl refl, p)
some_of P (x ∷ xs) (inr h) = (let r = some_of P xs h in (r.0, inr r.1, r.2))

pub record IsNumberedBy {A : Type 0} (cores : ℕ → Core A) (x : Message A) : Type 0 where
  pub turn : TokenVisit A
  pub there : IsIn turn (cores x.sender).turns
  pub ring_is : turn.received.ring ≡ x.ring
  pub numbered_there : IsIn x (numbered turn.received.ring x.sender turn.received.seq turn.fresh)

pub numbered_by : {A : Type 0} → (cores : ℕ → Core A) (frames : List (Transmission A)) (h : Holds cores frames)
    (x : Message A) → IsGenuine h.visits x → IsNumberedBy cores x
numbered_by {A} cores frames h x g =
    let s = some_of (λ (v : VisitBy A). IsIn x (numbered x.ring v.who v.turn.received.seq v.turn.fresh)) (h.visits x.ring) g in
    let v = s.0 in
    let f = numbered_in x.ring v.who v.turn.received.seq v.turn.fresh x s.2 in
    let picked_there : IsIn v.turn (visits_in_ring x.ring (cores v.who).turns) =
    subst (λ (ts : List (TokenVisit A)). IsIn v.turn ts) (sym (h.chains.turns v.who x.ring))
    (in_picked v (h.visits x.ring) s.1) in
    let own = in-filtered (λ (u : TokenVisit A). same_ring u.received.ring x.ring) v.turn (cores v.who).turns picked_there in
    let ring_is : v.turn.received.ring ≡ x.ring = ring_same v.turn.received.ring x.ring own.1 in
    record {
      turn = v.turn;
      there = subst (λ q. IsIn v.turn (cores q).turns) (sym f.sender_is) own.0;
      ring_is = ring_is;
      numbered_there = subst (λ (r : RingId). IsIn x (numbered r x.sender v.turn.received.seq v.turn.fresh)) (sym ring_is)
          (subst (λ q. IsIn x (numbered x.ring q v.turn.received.seq v.turn.fresh)) (sym f.sender_is) s.2);
    }

-- All cores

pub record Recovered {A : Type 0} (cores : ℕ → Core A) (frames : List (Transmission A)) : Type 0 where
  pub all : HoldsPlans cores frames
  pub local : (q : ℕ) → IsLocal (cores q)
  pub planned : (q : ℕ) → Planned (cores q)
  pub recovers : (q : ℕ) → Recovers (cores q)
  pub changed : (q : ℕ) → AllChanged (cores q) (cores q).installs

module _ {A : Type 0} (cores : ℕ → Core A) (frames : List (Transmission A)) (r : Recovered cores frames) (i : ℕ) (low : 1 ≤ i) where
  abbrev h : Holds cores frames
  h = (r.all).all

  abbrev c : Core A
  c = cores i

  me : 1 ≤ c.me
  me = (let e : c.me ≡ i = (h.rings).me i in omega (arith, e, low))

  -- a genuine message of the running ring wraps a number that the core's own plan knows
  pub wrapped_known : HasPlan c c.running c.installed → (x : Message A) → IsGenuine h.visits x
      → x.ring ≡ c.running.ring → (w : WrappedMessage A) → x.payload ≡ Wrapped w →
      w.ring ≡ c.installed.ring → is_known (plan_into c c.running c.installed) w.number ≡ true
  wrapped_known p x g ring w e old =
      let b = numbered_by cores frames h x g in
      let f = numbered_in b.turn.received.ring x.sender b.turn.received.seq b.turn.fresh x b.numbered_there in
      let q = in-each (IsPlannedIn (cores x.sender) b.turn.received.ring) x.payload b.turn.fresh
      (in-each _ b.turn (cores x.sender).turns (r.planned x.sender) b.there) f.payload_in w e in
      let k = q.0 in
      let m = p.commit in
      let same_name : k.ring ≡ m.ring = q.2 ∙ b.ring_is ∙ ring ∙ sym p.ring in
      let one = one_plan cores h.rings h.filed k m (in-each (IsPlan cores) k (cores x.sender).plans
      ((r.all).plans x.sender) q.1) (in-each (IsPlan cores) m c.plans ((r.all).plans i) p.there) same_name in
      let plan_is : plan_of w.ring k.members k.entries ≡ plan_into c c.running c.installed =
      ap (λ (s : RingId). plan_of s k.members k.entries) old ∙ ap (λ n. plan_of c.installed.ring n k.entries)
      (one.0 ∙ p.members) ∙ ap (plan_of c.installed.ring c.running.members) (one.1 ∙ sym p.entries) in
      subst (λ (s : Plan). is_known s w.number ≡ true) plan_is q.3

  pub not_installed : c.state ≡ Recovery → c.running.ring ≡ c.installed.ring → ⊥
  not_installed s e =
      let a : c.installed.ring.seq < floor c = ((r.local i).ordered).apart (inr s) in
      let b : floor c ≡ c.installed.ring.seq = ap (λ (r : RingId). r.seq) e in
      omega (arith, a, b)

  take_plan : (x : Message A) → MayTake (IsReceivedFrame frames i) c x → c.state ≡ Recovery → HasPlan (message_taken c x) c.running c.installed
  take_plan x may s =
      let p = r.recovers i s in
      let f = came_right h.visits cores frames i (MessageFrame x) ((h.sent).right) may.from in
      let from : x.ring ≡ c.running.ring = elim (may.ring)
      [ inl t ↦ t.ring | inr l ↦ absurd (let q : Gather ≡ Recovery = sym l.state ∙ s in let n : ⊥ = cc in n) ] in
      record {
        commit = p.commit;
        there = p.there;
        ring = p.ring;
        members = p.members;
        entries = p.entries;
        transitional_member = p.transitional_member;
        marked = p.marked;
        within = λ n t. elim (holds-parts (old_ring_messages c.state c x) (x ∷ c.held) c.installed.ring n t) [
          | inl (y, j, yr, yn) ↦ (let inner = in-each (IsInner c.installed.ring x.payload) y (old_ring_messages c.state c x) (gives_inner c.state c x) j in
              let w = inner.wrapped in
              let known : is_known (plan_into c c.running c.installed) w.number ≡ true = wrapped_known p x f.3 from w inner.payload_is inner.ring_is in
              let number : w.number ≡ n = sym (ap (λ (z : Message A). z.number) inner.inner_is) ∙ yn in
              subst (λ k. is_known (plan_into c c.running c.installed) k ≡ true) number known)
          | inr k ↦ elim (holds-parts (x ∷ []) c.held c.installed.ring n k) [
            | inl (y, j, yr, yn) ↦ absurd (elim j [ inl e ↦ not_installed s (sym from ∙ ap (λ (z : Message A). z.ring) (sym e) ∙ yr) | inr none ↦ none ])
            | inr old ↦ p.within n old
          ]
        ];
        reach = p.reach;
        sound = p.sound;
      }

  pub positive : (x : Message A) → IsIn x c.held → 1 ≤ x.number
  positive x j =
      let g = in-each (IsGenuine h.visits) x c.held ((h.texts).held i) j in
      let b = numbered_by cores frames h x g in
      let above = (numbered_in b.turn.received.ring x.sender b.turn.received.seq b.turn.fresh x b.numbered_there).above in
      omega (arith, above)

  entry_reach : (k : CommitToken) → IsPlan cores k → (e : CommitEntry) → IsIn e k.entries → IsReach e
  entry_reach k p e j =
      let g = in_got k.entries e j in
      in-each (λ (x : Report). IsReach x.entry) (record { ring = k.ring; entry = e })
      (cores (at k.members g.0)).reports ((r.local (at k.members g.0)).reports) (p.reports g.0 e g.1)
    where
      in_got : (xs : List CommitEntry) (e : CommitEntry) → IsIn e xs → (n : ℕ) × (slice_get xs n ≡ Some e)
      in_got [] e j = absurd j
      in_got (x ∷ xs) e (inl q) = (0, ap Some (sym q))
      in_got (x ∷ xs) e (inr j) = (let t = in_got xs e j in (suc t.0, t.1))

  moved_recovers : (m : Move A) → MayMove (IsReceivedFrame frames i) c m
      → (came_plan : (k : CommitToken) → MayMove (IsReceivedFrame frames i) c (Learns k) → IsPlan cores k) → Recovers (core_after_move c m)
  moved_recovers (Idles state gathering last_sent queue sends) may cp s =
      elim (may.leaves) [
        | inl e ↦ (let p = r.recovers i (sym e ∙ s) in record {
          commit = p.commit;
          there = p.there;
          ring = p.ring;
          members = p.members;
          entries = p.entries;
          transitional_member = p.transitional_member;
          marked = p.marked;
          within = p.within;
          reach = p.reach;
          sound = p.sound;
        })
        | inr (inl e) ↦ absurd (let q : Gather ≡ Recovery = sym e ∙ s in let n : ⊥ = cc in n)
        | inr (inr e) ↦ absurd (let q : Stopped ≡ Recovery = sym e ∙ s in let n : ⊥ = cc in n)
      ]
  moved_recovers (Enters k) may cp s = absurd (let q : Commit ≡ Recovery = s in let n : ⊥ = cc in n)
  moved_recovers (Learns k) may cp s = learned_plan c (IsReceivedFrame frames i) k may ((r.local i).fit) me positive (entry_reach k (cp k may))
  moved_recovers (Visits t fresh requests again queue) may cp s =
      plan_stays c (core_after_move c (Visits t fresh requests again queue)) c.running c.installed refl (λ k j. j) refl
      (visited_same c t fresh requests again queue c.installed.ring (λ e. not_installed s (sym may.ring ∙ e))) (r.recovers i s)
  moved_recovers (Takes x) may cp s = take_plan x may s
  moved_recovers Installs may cp s = absurd (let q : Operational ≡ Recovery = s in let n : ⊥ = cc in n)

  -- earlier ring changes stay as they are
  changes_stay : (d : Core A) → Keeps c d → d.me ≡ c.me → ((k : CommitToken) → IsIn k c.plans → IsIn k d.plans)
      → (next : Configuration) (older : List Configuration) →
      next.ring.seq ≤ c.installed.ring.seq → IsFalling (next ∷ older) → HaveChanged c next older → HaveChanged d next older
  changes_stay d k e more next [] l f x = tt
  changes_stay d k e more next (old ∷ older) l f x =
      let under : old.ring.seq < c.installed.ring.seq = (let a : old.ring.seq < next.ring.seq = f.0 in omega (arith, a, l)) in (
        record {
          plan = plan_stays c d next old e more (k.entries next.ring l) (k.left old.ring under) (x.0).plan;
          complete = complete_stays c d next old (k.entries next.ring l) (k.left old.ring under) (x.0).complete;
        },
        changes_stay d k e more old older (omega (arith, under)) f.1 x.1,
      )

  still_changed : (m : Move A) → MayMove (IsReceivedFrame frames i) c m → IsStill m → AllChanged (core_after_move c m) (core_after_move c m).installs
  still_changed m may still =
      let o = (r.local i).ordered in
      let k = moved_keeps (IsReceivedFrame frames i) c m may o still in
      let g = moved_grows c m in
      let before : HaveChanged c c.installed o.older = subst (AllChanged c) o.newest (r.changed i) in
      let after : HaveChanged (core_after_move c m) c.installed o.older = changes_stay (core_after_move c m) k g.me g.plans c.installed o.older (omega arith) o.falls before in
      subst (AllChanged (core_after_move c m)) (sym (k.installs ∙ o.newest)) after

  moved_changed : (m : Move A) → MayMove (IsReceivedFrame frames i) c m → AllChanged (core_after_move c m) (core_after_move c m).installs
  moved_changed (Idles state gathering last_sent queue sends) may = still_changed (Idles state gathering last_sent queue sends) may tt
  moved_changed (Enters k) may = still_changed (Enters k) may tt
  moved_changed (Learns k) may = still_changed (Learns k) may tt
  moved_changed (Visits t fresh requests again queue) may = still_changed (Visits t fresh requests again queue) may tt
  moved_changed (Takes x) may = still_changed (Takes x) may tt
  moved_changed Installs may =
      let o = (r.local i).ordered in
      let d = install c in
      let same : (next old : Configuration) → HasChanged c next old → HasChanged d next old =
      λ next old x. record { plan = plan_stays c d next old refl (λ k j. j) refl (all_same old.ring c d refl refl) x.plan; complete = x.complete } in
      let first : HasChanged d c.running c.installed = same c.running c.installed (record { plan = r.recovers i may.state; complete = may.complete }) in
      subst (λ xs. HaveChanged d c.running xs) (sym o.newest) (first, all_so same c.installed o.older (subst (AllChanged c) o.newest (r.changed i)))
    where
      all_so : ((next old : Configuration) → HasChanged c next old → HasChanged (install c) next old)
          → (next : Configuration) (older : List Configuration) → HaveChanged c next older →
          HaveChanged (install c) next older
      all_so f next [] x = tt
      all_so f next (old ∷ older) x = (f next old x.0, all_so f old older x.1)

  moved_all : (m : Move A) → MayMove (IsReceivedFrame frames i) c m → Recovered (with_core cores i (core_after_move c m)) (frames ++ transmissions_from i (sends_of c m))
  moved_all m may =
      let d = core_after_move c m in
      record {
        all = plans_moved cores frames i m low may r.all;
        local = put-each (λ q (x : Core A). IsLocal x) cores i d (λ q n. r.local q) (moved_local (IsReceivedFrame frames i) c m may me (r.local i));
        planned = put-each (λ q (x : Core A). Planned x) cores i d (λ q n. r.planned q)
            (moved_planned (IsReceivedFrame frames i) c m may ((h.texts).queued i) (r.recovers i) (r.planned i));
        recovers = put-each (λ q (x : Core A). Recovers x) cores i d (λ q n. r.recovers q)
            (moved_recovers m may (λ k learns. learned_plan_is cores frames i k h learns));
        changed = put-each (λ q (x : Core A). AllChanged x x.installs) cores i d (λ q n. r.changed q) (moved_changed m may);
      }

pub recovering : {A : Type 0} → IsKeptInWorlds (Recovered {A = A})
recovering = record { moves = λ cores frames i m low may r. moved_all cores frames r i low m may }

only_own : (i : ℕ) → has (only i) i ≡ true
only_own zero = refl
only_own (suc i) = has_member (only (suc i)) (suc i) ((only_members (suc i) (suc i) (omega arith)).1 refl)

opening_local : (A : Type 0) → (n me : ℕ) → IsLocal (opening {A = A} n me)
opening_local A n me =
    record {
      fit = record { window = tt; visits = tt; raised = tt };
      ordered = opening_ordered A n me;
      rises = alone_rises (opening_ring me);
      among = λ x i. i;
      member = λ x i. elim i [ inl e ↦ subst (λ (x : Configuration). has x.members me ≡ true) (sym e) (only_own me) | inr none ↦ absurd none ];
      reports = tt;
      sent = tt;
    }

pub opening_recovered : (A : Type 0) → (n : ℕ) → Recovered (opening {A = A} n) []
opening_recovered A n =
    record {
      all = plans_hold {A = A} n [];
      local = opening_local A n;
      planned = λ q. tt;
      recovers = λ q s. absurd (let k : Gather ≡ Recovery = s in let x : ⊥ = cc in x);
      changed = λ q. tt;
    }

pub all_recovered : {A : Type 0} → (n : ℕ) (events : List (RingEvent A)) → Recovered (run (unformed n) events).cores (run (unformed n) events).frames
all_recovered {A} n events = kept_run Recovered recovering (unformed n) events (opening_recovered A n)
