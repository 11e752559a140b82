-- The processors that go on by a ring change: the members of the new ring whose report names the old one, and that
-- installed none between the two.
use Rattle.std.proofs.Common.{◌≡◌, ℕ, ◌<◌, ◌≤◌, ◌⊎◌, inl, inr, true, List, ◌∷◌, length, Some, ap, sym, ◌∙◌, subst, arith}
use Rattle.std.specs.Prelude.{slice_get}
use Rattle.std.specs.List.{AllByRecursion as Each}
use Rattle.ring_base.specs.Processors.{IsMember, has, at, elements, size, position_of}
use Rattle.ring_base.specs.Elements.{elements_members, position_of-inside, at-position_of}
use Rattle.ring_base.specs.Members.{member_had}
use Rattle.ring_base.specs.Rings.{same_ring}
use Rattle.ring_base.specs.declared.ring_id.RingId.{RingId}
use Rattle.ring_base.specs.declared.state.State.TheVariants.{Gather, Commit}
use Rattle.ring_base.proofs.SameRing.{ring_same, same-self}
use Rattle.ring_base.proofs.ListPlaces.{has-place}
use Rattle.ring_wire.specs.declared.commit.CommitToken.{CommitToken}
use Rattle.ring_wire.specs.declared.entries.CommitEntry.{CommitEntry}
use Rattle.ring_wire.specs.declared.frame.Frame.{Frame}
use Rattle.ring_core_spec.specs.Commits.{Configuration}
use Rattle.ring_core_spec.specs.Recoveries.{plan_of, transitional_members_among}
use Rattle.ring_core_spec.specs.State.{Core, Report, floor, opening}
use Rattle.ring_core_proof.specs.FactWords.{IsIn}
use Rattle.ring_core_proof.specs.CoreInvariants.{IsRingAmong, IsOnTheWay}
use Rattle.ring_core_proof.specs.declared.event.RingEvent.{RingEvent}
use Rattle.ring_core_proof.specs.Worlds.{World, run, unformed}
use Rattle.ring_core_proof.specs.Moves.{Move, Idles, Enters, Learns, Visits, Takes, Installs, core_after_move, MayMove}
use Rattle.ring_core_proof.proofs.InLists.{in-each, each-in, in-contains}
use Rattle.ring_core_proof.proofs.KeptByMoves.{IsKeptByMoves, everywhere}
use Rattle.ring_core_proof.proofs.OwnEverywhere.{local_everywhere}
use Rattle.ring_core_proof.proofs.Rises.{all_below, one_ring}
use Rattle.ring_chain_proof.proofs.Filed.{Filed, moved_filed}
use Rattle.ring_chain_proof.proofs.Plans.{IsPlan}
use Rattle.ring_synchrony_proof.specs.LifeOfCore.{plan_into}
use Rattle.ring_synchrony_proof.proofs.Ordered.{Ordered, moved_ordered, opening_ordered}
use Rattle.ring_synchrony_proof.proofs.TransitionalMembersReported.{has_at, is_transitional_member, mate_reports, at_place}
use Rattle.ring_synchrony_proof.proofs.Planned.{HasChanged}
use Rattle.ring_synchrony_proof.proofs.Recovering.{Recovered, all_recovered}

-- One core

-- none of these rings is between the two
abbrev pub AreBeside : RingId → RingId → List Configuration → Type 0
AreBeside old new rings = (b : Configuration) → IsIn b rings → (b.ring.seq ≤ old.seq) ⊎ (new.seq ≤ b.ring.seq)

-- so no installed ring is between a reported ring and the one for which it was reported
record IsStraight {A : Type 0} (c : Core A) : Type 0 where
  pub ordered : Ordered c
  pub filed : Filed c
  pub beside : Each (λ (x : Report). AreBeside x.entry.old x.ring c.installs) c.reports

installed_low : {A : Type 0} → (c : Core A) → Ordered c → (b : Configuration) → IsIn b c.installs → b.ring.seq ≤ c.installed.ring.seq
installed_low c o b i =
    elim (subst (λ xs. IsIn b xs) o.newest i) [
      | inl e ↦ (let q : b.ring.seq ≡ c.installed.ring.seq = ap (λ (p : Configuration). p.ring.seq) e in omega (arith, q))
      | inr k ↦ (let l : b.ring.seq < c.installed.ring.seq = all_below c.installed o.older o.falls b k in omega (arith, l))
    ]

beside_after : {A : Type 0} → (received : Frame A → Type 0) (c : Core A) (m : Move A) → MayMove received c m → IsStraight c →
    Each (λ (x : Report). AreBeside x.entry.old x.ring (core_after_move c m).installs) (core_after_move c m).reports
beside_after received c (Enters k) h s = (λ b i. inl (installed_low c s.ordered b i), s.beside)
beside_after received c Installs h s =
    each-in (λ (x : Report). AreBeside x.entry.old x.ring (c.running ∷ c.installs)) c.reports
    (λ x j b i. elim i [
      | inl e ↦ (let low : x.ring.seq ≤ floor c = in-each (λ (x : Report). x.ring.seq ≤ floor c) x c.reports (s.filed).reports_low j in
          let q : b.ring.seq ≡ floor c = ap (λ (p : Configuration). p.ring.seq) e in inr (omega (arith, low, q)))
      | inr k ↦ in-each (λ (x : Report). AreBeside x.entry.old x.ring c.installs) x c.reports s.beside j b k
    ])
beside_after received c (Idles state gathering last_sent queue sends) h s = s.beside
beside_after received c (Learns k) h s = s.beside
beside_after received c (Visits t fresh requests again queue) h s = s.beside
beside_after received c (Takes x) h s = s.beside

straight : {A : Type 0} → IsKeptByMoves (IsStraight {A = A})
straight = record {
  moves = λ received c m h s. record {
    ordered = moved_ordered received c m h s.ordered;
    filed = moved_filed received c m h s.filed;
    beside = beside_after received c m h s;
  };
}

opening_straight : (A : Type 0) → (n me : ℕ) → IsStraight (opening {A = A} n me)
opening_straight A n me =
    record {
      ordered = opening_ordered A n me;
      filed = record {
        reports_low = tt;
        one_report = λ x y i. absurd i;
        plans_low = tt;
        unplanned = λ s. absurd (let q : Gather ≡ Commit = s in let n : ⊥ = cc in n);
      };
      beside = tt;
    }

-- A change in a run

-- the report of a processor on the way into a ring
record HasReported {A : Type 0} (c : Core A) (new : RingId) (e : CommitEntry) : Type 0 where
  pub way : IsOnTheWay c.rings c.installs (record { ring = new; entry = e })
  pub beside : AreBeside e.old new c.installs

-- it came directly from the old ring
pub record HasCome {A : Type 0} (c : Core A) (next old : Configuration) (q : ℕ) : Type 0 where
  pub from : IsRingAmong c.installs old.ring
  pub newer : old.ring.seq < next.ring.seq
  pub beside : AreBeside old.ring next.ring c.installs
  pub entering : has next.members q ≡ true

module _ {A : Type 0} (n : ℕ) (events : List (RingEvent A)) (i : ℕ) (next old : Configuration) (a : HasChanged ((run (unformed n) events).cores i) next old) where
  abbrev w : World A
  w = run (unformed n) events

  abbrev k : CommitToken
  k = (a.plan).commit

  r : Recovered w.cores w.frames
  r = all_recovered n events

  is_plan : IsPlan w.cores k
  is_plan = in-each (IsPlan w.cores) k (w.cores i).plans ((r.all).plans i) (a.plan).there

  transitional_members_are : (plan_into (w.cores i) next old).transitional_members ≡ transitional_members_among old.ring (elements k.members) k.entries
  transitional_members_are =
      ap (λ (es : List CommitEntry). (plan_of old.ring next.members es).transitional_members) (a.plan).entries
      ∙ ap (λ ms. transitional_members_among old.ring (elements ms) k.entries) (sym (a.plan).members)

  reported : (q x : ℕ) (e : CommitEntry) → at k.members x ≡ q → slice_get k.entries x ≡ Some e → HasReported (w.cores q) next.ring e
  reported q x e here got =
      let c = w.cores q in
      let there : IsIn (record { ring = k.ring; entry = e }) c.reports =
      subst (λ p. IsIn (record { ring = k.ring; entry = e }) (w.cores p).reports) here (is_plan.reports x e got) in
      let mine : IsIn (record { ring = next.ring; entry = e }) c.reports =
      subst (λ (s : RingId). IsIn (record { ring = s; entry = e }) c.reports) (a.plan).ring there in
      record {
        way = in-each (IsOnTheWay c.rings c.installs) (record { ring = next.ring; entry = e }) c.reports ((local_everywhere n q events).facts).reports mine;
        beside = in-each (λ (x : Report). AreBeside x.entry.old x.ring c.installs) (record { ring = next.ring; entry = e }) c.reports
            (everywhere IsStraight straight (unformed n) events (λ p. opening_straight A n p) q).beside mine;
      }

  came_by : (q : ℕ) → IsMember (plan_into (w.cores i) next old).transitional_members q → HasCome (w.cores q) next old q
  came_by q m =
      let s = mate_reports old.ring k.members k.entries q (subst (λ ms. IsMember ms q) transitional_members_are m) in
      let here : at k.members s.place ≡ q = at_place k.members s.place q s.member in
      let h = reported q s.place s.entry here s.reported in
      let same : (s.entry).old ≡ old.ring = ring_same (s.entry).old old.ring s.from in
      record {
        from = subst (λ (t : RingId). IsRingAmong (w.cores q).installs t) same (h.way).from;
        newer = subst (λ (t : RingId). t.seq < next.ring.seq) same (h.way).newer;
        beside = subst (λ (t : RingId). AreBeside t next.ring (w.cores q).installs) same h.beside;
        entering = subst (λ ms. has ms q ≡ true) (a.plan).members (has_at k.members s.place q here m.0);
      }

  -- each transitional member came so
  pub mate_came : (q : ℕ) → IsIn q (elements (plan_into (w.cores i) next old).transitional_members) → HasCome (w.cores q) next old q
  mate_came q m =
      let transitional_members = (plan_into (w.cores i) next old).transitional_members in
      came_by q ((elements_members transitional_members q).0 (in-contains (elements transitional_members) q m)).1

  newer : 1 ≤ i → old.ring.seq < next.ring.seq
  newer low =
      let transitional_members = (plan_into (w.cores i) next old).transitional_members in
      let me : (w.cores i).me ≡ i = (((r.all).all).rings).me i in
      let mine : has transitional_members i ≡ true = subst (λ q. has transitional_members q ≡ true) me (a.plan).transitional_member in
      (came_by i (member_had transitional_members i low mine)).newer

  -- each member of the new ring that came so is a transitional member
  pub came_mate : 1 ≤ i → (q : ℕ) → IsIn q (elements next.members) → IsIn old (w.cores q).installs → AreBeside old.ring next.ring (w.cores q).installs →
      has (plan_into (w.cores i) next old).transitional_members q ≡ true
  came_mate low q m there beside =
      let c = w.cores q in
      let p = (elements_members next.members q).0 (in-contains (elements next.members) q m) in
      let proc = p.0 in
      let x = position_of next.members q in
      let here : at k.members x ≡ q = subst (λ ms. at ms x ≡ q) (sym (a.plan).members) (at-position_of next.members q p.0 p.1) in
      let inside : x < size k.members = subst (λ ms. x < size ms) (sym (a.plan).members) (position_of-inside next.members q p.0 p.1) in
      let many : length k.entries ≡ size k.members = is_plan.count in
      let got = has-place k.entries x (omega (arith, inside, many)) in
      let e = got.0 in
      let h = reported q x e here got.1 in
      let b : Configuration = record { ring = e.old; members = ((h.way).from).0 } in
      let mine : IsIn b c.installs = ((h.way).from).1 in
      let up : old.ring.seq < next.ring.seq = newer low in
      let newer_own : e.old.seq < next.ring.seq = (h.way).newer in
      let under : e.old.seq ≤ old.ring.seq = elim (beside b mine) [ inl l ↦ l | inr u ↦ absurd (omega (arith, u, newer_own)) ] in
      let over : old.ring.seq ≤ e.old.seq = elim (h.beside old there) [ inl l ↦ l | inr u ↦ absurd (omega (arith, u, up)) ] in
      let same : b ≡ old = one_ring c ((r.local q).rises) b old ((r.local q).among b mine) ((r.local q).among old there) (omega (arith, under, over)) in
      let named : same_ring e.old old.ring ≡ true = subst (λ (t : RingId). same_ring e.old t ≡ true) (ap (λ (z : Configuration). z.ring) same) (same-self e.old) in
      subst (λ ms. has ms q ≡ true) (sym transitional_members_are) (is_transitional_member old.ring k.members k.entries x q e here (proc.0) got.1 named)
