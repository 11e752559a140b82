-- The plan by which a core goes from one ring to another is one of the core's plans.

-- The core is one of its transitional members, the core's mark of the old ring is the greatest reported, and one of
-- these members reported each number that the core holds of it.
use Rattle.std.proofs.Common.{◌≡◌, ℕ, ◌+◌, ◌≤◌, inl, inr, Bool, true, ◌&&◌, ◌==◌, List, [], ◌∷◌, Some, refl, ap, sym, ◌∙◌, subst, arith}
use Rattle.std.specs.Prelude.{slice_get, is_some, nat_le}
use Rattle.std.specs.List.{list_all}
use Rattle.std.proofs.Math.Path.{fun_ext}
use Rattle.std.proofs.lemmas.Bool.{cond-true, cases_Bool, and_parts, or_cases, false≢true, eqb-true}
use Rattle.ring_base.specs.Numbers.{window_size}
use Rattle.ring_base.specs.Processors.{has, at}
use Rattle.ring_base.specs.Rings.{same_ring}
use Rattle.ring_base.specs.declared.ring_id.RingId.{RingId}
use Rattle.ring_base.proofs.SameRing.{same-self}
use Rattle.ring_wire.specs.declared.commit.CommitToken.{CommitToken}
use Rattle.ring_wire.specs.declared.entries.CommitEntry.{CommitEntry}
use Rattle.ring_wire.specs.declared.frame.Frame.{Frame}
use Rattle.ring_wire.specs.declared.message.Message.{Message}
use Rattle.ring_core_spec.specs.Windows.{is_numbered, found, holds, front_of}
use Rattle.ring_core_spec.specs.Commits.{safe_of, position_of_hop, Configuration}
use Rattle.ring_core_spec.specs.Recoveries.{Plan, plan_of, safe, low, is_known, known_above_safe, is_complete}
use Rattle.ring_core_spec.specs.State.{Core}
use Rattle.ring_core_spec.specs.Views.{mark, own_entry, entries_for}
use Rattle.ring_core_spec.proofs.Recoveries.{safe_low}
use Rattle.ring_core_proof.specs.FactWords.{IsIn}
use Rattle.ring_core_proof.specs.Moves.{Learns, core_after_move, MayLearn}
use Rattle.ring_core_proof.proofs.WithinWindow.{IsCoreInWindow}
use Rattle.ring_synchrony_proof.specs.LifeOfCore.{plan_into}
use Rattle.ring_synchrony_proof.proofs.Keeps.{IsSameOf}
use Rattle.ring_synchrony_proof.proofs.TransitionalMembersReported.{is_transitional_member, got_in}
use Rattle.ring_synchrony_proof.proofs.KnownReports.{own_is, IsReach, held_reported, safe_most, in_reports, reports_in, known_by, known_reach, raised_is}

pub record HasPlan {A : Type 0} (c : Core A) (next old : Configuration) : Type 0 where
  pub commit : CommitToken
  pub there : IsIn commit c.plans
  pub ring : commit.ring ≡ next.ring
  pub members : commit.members ≡ next.members
  pub entries : entries_for next.ring c.plans ≡ commit.entries
  pub transitional_member : has (plan_into c next old).transitional_members c.me ≡ true
  pub marked : mark c old.ring ≡ safe (plan_into c next old)
  pub within : (n : ℕ) → holds c.held old.ring n ≡ true → is_known (plan_into c next old) n ≡ true
  pub reach : (n : ℕ) → is_known (plan_into c next old) n ≡ true → n ≤ safe (plan_into c next old) + window_size
  pub sound : safe (plan_into c next old) ≤ low (plan_into c next old)

-- When Recovery begins

module _ {A : Type 0} (c : Core A) (received : Frame A → Type 0) (k : CommitToken) (h : MayLearn received c k) (fit : IsCoreInWindow c) (me : 1 ≤ c.me) where
  abbrev own : CommitEntry
  own = own_entry c

  abbrev d : Core A
  d = core_after_move c (Learns k)

  abbrev p : Plan
  p = plan_of c.installed.ring c.running.members k.entries

  own_there : slice_get k.entries (position_of_hop k) ≡ Some own
  own_there = own_is own (slice_get k.entries (position_of_hop k)) h.own

  own_in : IsIn own p.reports
  own_in = in_reports c.installed.ring own k.entries (got_in k.entries (position_of_hop k) own own_there) (same-self c.installed.ring)

  newest_entries : entries_for c.running.ring (k ∷ c.plans) ≡ k.entries
  newest_entries = cond-true (same_ring k.ring c.running.ring) k.entries (entries_for c.running.ring c.plans)
      (subst (λ r. same_ring k.ring r ≡ true) h.ring (same-self k.ring))

  plan_is : plan_into d c.running c.installed ≡ p
  plan_is = ap (plan_of c.installed.ring c.running.members) newest_entries

  mark_is : mark d c.installed.ring ≡ safe p
  mark_is = raised_is (record { ring = c.installed.ring; mark = safe_of p.reports }) c.turns c.raises (safe_most own p.reports own_in)

  pub learned_plan : ((x : Message A) → IsIn x c.held → 1 ≤ x.number) → ((e : CommitEntry) → IsIn e k.entries → IsReach e) → HasPlan d c.running c.installed
  learned_plan positive reaches =
      record {
        commit = k;
        there = inl refl;
        ring = h.ring;
        members = h.members;
        entries = newest_entries;
        transitional_member = subst (λ (q : Plan). has q.transitional_members c.me ≡ true) (sym plan_is)
            (is_transitional_member c.installed.ring c.running.members k.entries (position_of_hop k) c.me own
            (subst (λ m. at m (position_of_hop k) ≡ c.me) h.members h.here) me own_there (same-self c.installed.ring));
        marked = mark_is ∙ ap safe (sym plan_is);
        within = λ n t. subst (λ (q : Plan). is_known q n ≡ true) (sym plan_is)
            (known_by p n own own_in (held_reported c fit n (held_low c.held c.installed.ring n positive t) t));
        reach = subst (λ (q : Plan). (n : ℕ) → is_known q n ≡ true → n ≤ safe q + window_size) (sym plan_is)
            (known_reach p (λ e i. reaches e (reports_in c.installed.ring e k.entries i)));
        sound = subst (λ (q : Plan). safe q ≤ low q) (sym plan_is) (safe_low p.reports h.sound);
      }
    where
      held_low : (held : List (Message A)) (ring : RingId) (n : ℕ) → ((x : Message A) → IsIn x held → 1 ≤ x.number) → holds held ring n ≡ true → 1 ≤ n
      held_low [] ring n f t = absurd (false≢true t)
      held_low (x ∷ held) ring n f t =
          elim (or_cases (is_numbered ring n x) (holds held ring n) t) [
            | inl e ↦ (let q = eqb-true x.number n
                (and_parts (same_ring x.ring ring) (x.number == n) e).1 in let l : 1 ≤ x.number =
                f x (inl refl) in omega (arith, q, l))
            | inr e ↦ held_low held ring n (λ y i. f y (inr i)) e
          ]

-- While the core goes on

-- a message that is found is held
holds_is : {A : Type 0} → (held : List (Message A)) (ring : RingId) (n : ℕ) → holds held ring n ≡ is_some (found held ring n)
holds_is [] ring n = refl
holds_is {A} (x ∷ held) ring n =
    elim (cases_Bool (is_numbered ring n x)) [ inl t ↦ rw t refl | inr f ↦ rw (f, holds_is held ring n) refl ]

pub holds_same : {A : Type 0} → (a b : List (Message A)) (ring : RingId) → ((n : ℕ) → found a ring n ≡ found b ring n)
    → (n : ℕ) → holds a ring n ≡ holds b ring n
holds_same a b ring h n = holds_is a ring n ∙ ap is_some (h n) ∙ sym (holds_is b ring n)

pub plan_same : {A : Type 0} → (c d : Core A) (next old : Configuration) → entries_for next.ring d.plans
    ≡ entries_for next.ring c.plans → plan_into d next old ≡ plan_into c next old
plan_same c d next old e = ap (plan_of old.ring next.members) e

-- for a ring for which nothing changes, the plan stays
pub plan_stays : {A : Type 0} → (c d : Core A) (next old : Configuration) → d.me ≡ c.me → ((k : CommitToken) → IsIn k c.plans → IsIn k d.plans) →
    entries_for next.ring d.plans ≡ entries_for next.ring c.plans → IsSameOf old.ring c d → HasPlan c next old → HasPlan d next old
plan_stays {A} c d next old me more e s h =
    let q : plan_into d next old ≡ plan_into c next old = plan_same c d next old e in
    record {
      commit = h.commit;
      there = more h.commit h.there;
      ring = h.ring;
      members = h.members;
      entries = e ∙ h.entries;
      transitional_member = subst (λ (p : Plan). has p.transitional_members d.me ≡ true) (sym q) (subst (λ i. has (plan_into c next old).transitional_members i ≡ true) (sym me) h.transitional_member);
      marked = s.mark_is ∙ h.marked ∙ ap safe (sym q);
      within = λ n t. subst (λ (p : Plan). is_known p n ≡ true) (sym q) (h.within n (sym (holds_same d.held c.held old.ring s.found_is n) ∙ t));
      reach = subst (λ (p : Plan). (n : ℕ) → is_known p n ≡ true → n ≤ safe p + window_size) (sym q) h.reach;
      sound = subst (λ (p : Plan). safe p ≤ low p) (sym q) h.sound;
    }

pub complete_stays : {A : Type 0} → (c d : Core A) (next old : Configuration) → entries_for next.ring d.plans
    ≡ entries_for next.ring c.plans → IsSameOf old.ring c d →
    is_complete (plan_into c next old) c.held ≡ true → is_complete (plan_into d next old) d.held ≡ true
complete_stays {A} c d next old e s h =
    let q : plan_into d next old ≡ plan_into c next old = plan_same c d next old e in
    let p = plan_into c next old in
    let same : holds d.held old.ring ≡ holds c.held old.ring = fun_ext (holds_same d.held c.held old.ring s.found_is) in
    let there : is_complete p d.held ≡ is_complete p c.held =
    ap (λ n. nat_le (safe p) n && list_all (holds d.held old.ring) (known_above_safe p)) s.front_is
    ∙ ap (λ (f : ℕ → Bool). nat_le (safe p) (front_of c.held old.ring) && list_all f (known_above_safe p)) same in
    ap (λ (p : Plan). is_complete p d.held) q ∙ there ∙ h

-- Each ring change of a core

pub record HasChanged {A : Type 0} (c : Core A) (next old : Configuration) : Type 0 where
  pub plan : HasPlan c next old
  pub complete : is_complete (plan_into c next old) c.held ≡ true

abbrev pub HaveChanged : {A : Type 0} → Core A → Configuration → List Configuration → Type 0
HaveChanged c next [] = Unit {0}
HaveChanged c next (old ∷ older) = HasChanged c next old × HaveChanged c old older

abbrev pub AllChanged : {A : Type 0} → Core A → List Configuration → Type 0
AllChanged c [] = Unit {0}
AllChanged c (newest ∷ older) = HaveChanged c newest older
