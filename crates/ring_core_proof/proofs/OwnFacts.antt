-- Each fact of a core is of a ring that it takes part in; it has no fact of a ring above all of these.
use Rattle.std.proofs.Common.{◌≡◌, ℕ, ◌<◌, ◌≤◌, ◌⊎◌, inl, inr, ◌&&◌, List, [], ◌∷◌, refl, ap, sym, ◌∙◌, subst, arith}
use Rattle.std.specs.Prelude.{reverse}
use Rattle.std.specs.List.{AllByRecursion as Each}
use Rattle.std.proofs.lemmas.Bool.{cond_both, and_parts}
use Rattle.ring_base.specs.Rings.{same_ring}
use Rattle.ring_base.specs.declared.ring_id.RingId.{RingId}
use Rattle.ring_base.specs.declared.state.State.{State}
use Rattle.ring_base.specs.declared.state.State.TheVariants.{Gather, Commit, Recovery, Operational, Stopped}
use Rattle.ring_base.proofs.Each.{each-weaker, each-append, each-reverse}
use Rattle.ring_payload.specs.declared.content.Payload.{Payload}
use Rattle.ring_payload.specs.declared.content.Payload.TheVariants.{Call, Wrapped, End, Head, Part, Pack, Snap}
use Rattle.ring_payload.specs.declared.content.Wrapped.{Wrapped as WrappedMessage}
use Rattle.ring_wire.specs.declared.commit.CommitToken.{CommitToken}
use Rattle.ring_wire.specs.declared.frame.Frame.{Frame}
use Rattle.ring_wire.specs.declared.message.Message.{Message}
use Rattle.ring_wire.specs.declared.token.Token.{Token}
use Rattle.ring_core_spec.specs.Windows.{is_new}
use Rattle.ring_base.proofs.SameRing.{ring_same}
use Rattle.ring_core_spec.specs.Tokens.{TokenVisit, MarkRaise, numbered}
use Rattle.ring_core_spec.specs.Recoveries.{inner_if_new, inner_messages}
use Rattle.ring_core_spec.specs.Commits.{Configuration}
use Rattle.ring_core_spec.specs.State.{Core, Report, floor}
use Rattle.ring_core_spec.specs.Views.{mark, own_entry}
use Rattle.ring_core_spec.specs.Transitions.{old_ring_messages}
use Rattle.ring_core_spec.proofs.Tokens.{numbered-ring}
use Rattle.ring_core_proof.specs.FactWords.{IsIn}
use Rattle.ring_core_proof.specs.Moves.{Move, Idles, Enters, Learns, Visits, Takes, Installs, core_after_move, MayEnter, MayLearn, MayVisit, MayTake, MayMove}
use Rattle.ring_core_proof.proofs.InLists.{in-each}
use Rattle.ring_core_proof.specs.CoreInvariants.{RingsFit, IsRingAmong, IsOnTheWay, IsKnownBelow, FactsFit}
use Rattle.ring_core_proof.proofs.OwnRings.{idles_in, newest_in, under_floor}

-- New messages

-- the new messages of a visit are of its token's ring
pub visited_of : {A : Type 0} → (ring : RingId) (me seq : ℕ) (ps : List (Payload A)) →
    Each (λ (x : Message A). x.ring ≡ ring) (reverse (numbered ring me seq ps))
visited_of {A} ring me seq ps = each-reverse (λ (x : Message A). x.ring ≡ ring) (numbered ring me seq ps) (numbered-ring ring me seq ps)

inner_of : {A : Type 0} → (old : RingId) (m : ℕ) (held : List (Message A)) (w : WrappedMessage A) →
    Each (λ (x : Message A). x.ring ≡ old) (inner_if_new old m held w)
inner_of {A} old m held w =
    cond_both (same_ring w.ring old && is_new held m old w.number) _ [] (Each (λ (x : Message A). x.ring ≡ old))
    (λ e. (ring_same w.ring old (and_parts (same_ring w.ring old) (is_new held m old w.number) e).0, tt)) (λ e. tt)

unwrapped_of : {A : Type 0} → (old : RingId) (m : ℕ) (held : List (Message A)) (p : Payload A) → Each (λ (x : Message A). x.ring ≡ old) (inner_messages old m held p)
unwrapped_of old m held (Wrapped w) = inner_of old m held w
unwrapped_of old m held (Call call) = tt
unwrapped_of old m held End = tt
unwrapped_of old m held (Head head) = tt
unwrapped_of old m held (Part part) = tt
unwrapped_of old m held (Pack pack) = tt
unwrapped_of old m held (Snap snap) = tt

-- an inner message is of the installed ring
pub gives_of : {A : Type 0} → (s : State) (c : Core A) (x : Message A) → Each (λ (y : Message A). y.ring ≡ c.installed.ring) (old_ring_messages s c x)
gives_of Recovery c x = unwrapped_of c.installed.ring (mark c c.installed.ring) c.held x.payload
gives_of Gather c x = tt
gives_of Commit c x = tt
gives_of Operational c x = tt
gives_of Stopped c x = tt

-- Rings

among_more : (p : Configuration) (rings : List Configuration) (ring : RingId) → IsRingAmong rings ring → IsRingAmong (p ∷ rings) ring
among_more p rings ring (members, i) = (members, inr i)

module _ {A : Type 0} (c : Core A) (rings : RingsFit c) where
  running_among : IsRingAmong c.rings c.running.ring
  running_among = (c.running.members, newest_in c.running c.rings rings.runs)

  installed_among : IsRingAmong c.installs c.installed.ring
  installed_among = (c.installed.members, newest_in c.installed c.installs rings.last)

  -- each installed ring was taken part in
  installs_among : (ring : RingId) → IsRingAmong c.installs ring → IsRingAmong c.rings ring
  installs_among ring (members, i) = (members, in-each (λ p. IsIn p c.rings) (record { ring = ring; members = members }) c.installs rings.taken_part i)

  among_low : (ring : RingId) → IsRingAmong c.rings ring → ring.seq ≤ floor c
  among_low ring (members, i) = under_floor c rings (record { ring = ring; members = members }) i

  -- all items of a list are of known rings, and so below a new one
  all_below : {X : Type 0} (ring_of : X → RingId) (number : ℕ) (xs : List X) → floor c < number → Each (λ x. IsRingAmong c.rings (ring_of x)) xs →
      Each (λ x. (ring_of x).seq < number) xs
  all_below ring_of number xs l h = each-weaker _ _ (λ x a. (let low : (ring_of x).seq ≤ floor c = among_low (ring_of x) a in omega arith)) xs h

  known_below : (number : ℕ) → floor c < number → FactsFit c → IsKnownBelow c number
  known_below number l f =
      record {
        held = all_below (λ (x : Message A). x.ring) number c.held l f.held;
        turns = all_below (λ (v : TokenVisit A). v.received.ring) number c.turns l f.turns;
        raises = all_below (λ (x : MarkRaise). x.ring) number c.raises l (each-weaker _ _ (λ (x : MarkRaise) a. installs_among x.ring a) c.raises f.raises);
        plans = all_below (λ (k : CommitToken). k.ring) number c.plans l f.plans;
      }

-- a newer fact of a ring that had none
one_more : {X : Type 0} (ring_of : X → RingId) (new : X) (xs : List X) → ((x : X) → IsIn x xs → new ≡ x ⊎ (ring_of new ≡ ring_of x → ⊥)) →
    ((x y : X) → IsIn x xs → IsIn y xs → ring_of x ≡ ring_of y → x ≡ y) → (x y : X) → IsIn x (new ∷ xs) → IsIn y (new ∷ xs) → ring_of x ≡ ring_of y → x ≡ y
one_more ring_of new xs other one x y (inl a) (inl b) e = a ∙ sym b
one_more ring_of new xs other one x y (inl a) (inr j) e = elim (other y j) [ inl s ↦ a ∙ s | inr n ↦ absurd (n (ap ring_of (sym a) ∙ e)) ]
one_more ring_of new xs other one x y (inr i) (inl b) e = elim (other x i) [ inl s ↦ sym s ∙ sym b | inr n ↦ absurd (n (ap ring_of (sym b) ∙ sym e)) ]
one_more ring_of new xs other one x y (inr i) (inr j) e = one x y i j e

-- Moves

pub running_not_commit : (s : State) → (s ≡ Recovery) ⊎ (s ≡ Operational) → s ≡ Commit → ⊥
running_not_commit s (inl e) k = (let q : Recovery ≡ Commit = sym e ∙ k in let n : ⊥ = cc in n)
running_not_commit s (inr e) k = (let q : Operational ≡ Commit = sym e ∙ k in let n : ⊥ = cc in n)

pub takes_not_commit : {A : Type 0} → (received : Frame A → Type 0) (c : Core A) (x : Message A) → MayTake received c x → c.state ≡ Commit → ⊥
takes_not_commit received c x h k =
    elim (h.ring) [ inl r ↦ running_not_commit c.state r.state k | inr r ↦ (let q : Gather ≡ Commit = sym r.state ∙ k in let n : ⊥ = cc in n) ]

entered_facts : {A : Type 0} → (received : Frame A → Type 0) (c : Core A) (k : CommitToken) → MayEnter received c k → RingsFit c → FactsFit c →
    FactsFit (core_after_move c (Enters k))
entered_facts {A} received c k h rings f =
    let p : Configuration = record { ring = k.ring; members = k.members } in
    let above : floor c < k.ring.seq = h.above in
    let old : IsRingAmong c.rings c.installed.ring = installs_among c rings c.installed.ring (installed_among c rings) in
    let low : c.installed.ring.seq ≤ floor c = among_low c rings c.installed.ring old in
    let below : IsKnownBelow c k.ring.seq = known_below c rings k.ring.seq above f in
    record {
      held = each-weaker _ _ (λ (x : Message A) a. among_more p c.rings x.ring a) c.held f.held;
      turns = each-weaker _ _ (λ (v : TokenVisit A) a. among_more p c.rings v.received.ring a) c.turns f.turns;
      raises = f.raises;
      plans = each-weaker _ _ (λ (l : CommitToken) a. among_more p c.rings l.ring a) c.plans f.plans;
      reports = (
        record { into = (k.members, inl refl); from = installed_among c rings; newer = omega arith },
        each-weaker _ _ (λ (x : Report) w. record { into = among_more p c.rings x.ring w.into; from = w.from; newer = w.newer }) c.reports f.reports,
      );
      one_report = one_more (λ (x : Report). x.ring) (record { ring = k.ring; entry = own_entry c }) c.reports
          (λ x i. inr (λ e. (let w : IsOnTheWay c.rings c.installs x = in-each (IsOnTheWay c.rings c.installs) x c.reports f.reports i in
          let at : x.ring.seq ≤ floor c = among_low c rings x.ring w.into in
          let same : k.ring.seq ≡ x.ring.seq = ap (λ (r : RingId). r.seq) e in
          omega arith)))
          f.one_report;
      one_plan = f.one_plan;
      unknown = λ s. record { held = below.held; turns = below.turns; raises = below.raises; plans = below.plans };
    }

learned_facts : {A : Type 0} → (received : Frame A → Type 0) (c : Core A) (k : CommitToken) → MayLearn received c k → RingsFit c → FactsFit c →
    FactsFit (core_after_move c (Learns k))
learned_facts {A} received c k h rings f =
    let below : IsKnownBelow c (floor c) = f.unknown h.state in
    let same : k.ring.seq ≡ floor c = ap (λ (r : RingId). r.seq) h.ring in
    record {
      held = f.held;
      turns = f.turns;
      raises = (installed_among c rings, f.raises);
      plans = (subst (IsRingAmong c.rings) (sym h.ring) (running_among c rings), f.plans);
      reports = f.reports;
      one_report = f.one_report;
      one_plan = one_more (λ (l : CommitToken). l.ring) k c.plans
          (λ l i. inr (λ e. (let low : l.ring.seq < floor c = in-each (λ (l : CommitToken). l.ring.seq < floor c) l c.plans below.plans i in
          let here : k.ring.seq ≡ l.ring.seq = ap (λ (r : RingId). r.seq) e in
          omega arith)))
          f.one_plan;
      unknown = λ s. absurd (let q : Recovery ≡ Commit = s in let n : ⊥ = cc in n);
    }

visited_facts : {A : Type 0} →
    (received : Frame A → Type 0) (c : Core A) (t : Token) (fresh : List (Payload A)) (requests : List ℕ) (again : List (Message A)) (queue : List (Payload A)) →
    MayVisit received c t fresh again queue → RingsFit c → FactsFit c → FactsFit (core_after_move c (Visits t fresh requests again queue))
visited_facts {A} received c t fresh requests again queue h rings f =
    let here : IsRingAmong c.rings t.ring = subst (IsRingAmong c.rings) (sym h.ring) (running_among c rings) in
    let new = reverse (numbered t.ring c.me t.seq fresh) in
    let Among : Message A → Type 0 = λ x. IsRingAmong c.rings x.ring in
    let all_new : Each Among new =
    each-weaker (λ (x : Message A). x.ring ≡ t.ring) Among (λ x e. subst (IsRingAmong c.rings) (sym e) here) new (visited_of t.ring c.me t.seq fresh) in
    record {
      held = each-append Among new c.held all_new f.held;
      turns = (here, f.turns);
      raises = f.raises;
      plans = f.plans;
      reports = f.reports;
      one_report = f.one_report;
      one_plan = f.one_plan;
      unknown = λ s. absurd (running_not_commit c.state h.state s);
    }

took_facts : {A : Type 0} → (received : Frame A → Type 0) (c : Core A) (x : Message A) → MayTake received c x → RingsFit c → FactsFit c → FactsFit (core_after_move c (Takes x))
took_facts {A} received c x h rings f =
    let old : IsRingAmong c.rings c.installed.ring = installs_among c rings c.installed.ring (installed_among c rings) in
    let here : IsRingAmong c.rings x.ring = elim (h.ring) [
      | inl r ↦ subst (IsRingAmong c.rings) (sym r.ring) (running_among c rings)
      | inr r ↦ subst (IsRingAmong c.rings) (sym r.ring) old
    ] in
    let inner = old_ring_messages c.state c x in
    let Among : Message A → Type 0 = λ y. IsRingAmong c.rings y.ring in
    let all_inner : Each Among inner =
    each-weaker (λ (y : Message A). y.ring ≡ c.installed.ring) Among (λ y e. subst (IsRingAmong c.rings) (sym e) old) inner (gives_of c.state c x) in
    record {
      held = each-append Among inner (x ∷ c.held) all_inner (here, f.held);
      turns = f.turns;
      raises = f.raises;
      plans = f.plans;
      reports = f.reports;
      one_report = f.one_report;
      one_plan = f.one_plan;
      unknown = λ s. absurd (takes_not_commit received c x h s);
    }

pub moved_facts : {A : Type 0} → (received : Frame A → Type 0) (c : Core A) (m : Move A) → MayMove received c m → RingsFit c → FactsFit c → FactsFit (core_after_move c m)
moved_facts received c (Enters k) h rings f = entered_facts received c k h rings f
moved_facts received c (Learns k) h rings f = learned_facts received c k h rings f
moved_facts received c (Visits t fresh requests again queue) h rings f = visited_facts received c t fresh requests again queue h rings f
moved_facts received c (Takes x) h rings f = took_facts received c x h rings f
moved_facts received c (Idles state gathering last_sent queue sends) h rings f =
    record {
      held = f.held;
      turns = f.turns;
      raises = f.raises;
      plans = f.plans;
      reports = f.reports;
      one_report = f.one_report;
      one_plan = f.one_plan;
      unknown = λ s. (let u = f.unknown (idles_in c.state state Commit h.leaves s (λ q. cc) (λ q. cc)) in
          record { held = u.held; turns = u.turns; raises = u.raises; plans = u.plans });
    }
moved_facts {A} received c Installs h rings f =
    record {
      held = f.held;
      turns = f.turns;
      raises = each-weaker _ _ (λ (x : MarkRaise) a. among_more c.running c.installs x.ring a) c.raises f.raises;
      plans = f.plans;
      reports = each-weaker _ _
          (λ (x : Report) w. record { into = w.into; from = among_more c.running c.installs x.entry.old w.from; newer = w.newer }) c.reports f.reports;
      one_report = f.one_report;
      one_plan = f.one_plan;
      unknown = λ s. absurd (let q : Operational ≡ Commit = s in let n : ⊥ = cc in n);
    }
