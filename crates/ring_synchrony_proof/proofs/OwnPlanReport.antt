-- In Recovery a core's plan has its own report of the installed ring: its front there is at least the reported one,
-- and it holds all that it reported.
use Rattle.std.proofs.Common.{◌≡◌, ℕ, ◌≤◌, inl, inr, true, [], ◌∷◌, Some, refl, ap, sym, ◌∙◌, subst, arith}
use Rattle.std.specs.Prelude.{slice_get, reverse}
use Rattle.std.proofs.lemmas.Bool.{cond-true}
use Rattle.ring_base.specs.Processors.{at}
use Rattle.ring_base.specs.Rings.{same_ring}
use Rattle.ring_base.specs.declared.state.State.TheVariants.{Gather, Commit, Recovery, Operational, Stopped}
use Rattle.ring_base.proofs.SameRing.{same-self}
use Rattle.ring_wire.specs.declared.commit.CommitToken.{CommitToken}
use Rattle.ring_wire.specs.declared.entries.CommitEntry.{CommitEntry}
use Rattle.ring_wire.specs.declared.frame.Frame.{Frame}
use Rattle.ring_core_spec.specs.Windows.{holds}
use Rattle.ring_core_spec.specs.Tokens.{numbered}
use Rattle.ring_core_spec.specs.Commits.{position_of_hop}
use Rattle.ring_core_spec.specs.Recoveries.{plan_of, is_reported}
use Rattle.ring_core_spec.specs.State.{Core}
use Rattle.ring_core_spec.specs.Views.{front, own_entry, entries_for, plan}
use Rattle.ring_core_spec.specs.Transitions.{old_ring_messages}
use Rattle.ring_core_proof.specs.FactWords.{IsIn}
use Rattle.ring_core_proof.specs.Moves.{Move, Idles, Enters, Learns, Visits, Takes, Installs, core_after_move, MayMove, MayLearn}
use Rattle.ring_core_proof.proofs.WithinWindow.{IsCoreInWindow}
use Rattle.ring_chain_proof.proofs.FactsGrow.{moved_grows}
use Rattle.ring_core_proof.proofs.OwnMessages.{AreFit}
use Rattle.ring_core_proof.proofs.OwnReports.{exact_now}
use Rattle.ring_core_spec.proofs.Windows.{holds-more}
use Rattle.ring_synchrony_proof.proofs.KnownReports.{own_is}

pub record HasOwn {A : Type 0} (c : Core A) : Type 0 where
  pub commit : CommitToken
  pub there : IsIn commit c.plans
  pub ring : commit.ring ≡ c.running.ring
  pub members : commit.members ≡ c.running.members
  pub entries : entries_for c.running.ring c.plans ≡ commit.entries
  pub place : ℕ
  pub own : CommitEntry
  pub here : slice_get commit.entries place ≡ Some own
  pub mine : at commit.members place ≡ c.me
  pub old : own.old ≡ c.installed.ring
  pub front_is : own.front ≤ front c c.installed.ring
  pub held : (u : ℕ) → is_reported u own ≡ true → holds c.held c.installed.ring u ≡ true

abbrev pub KnowsOwn : {A : Type 0} → Core A → Type 0
KnowsOwn c = c.state ≡ Recovery → HasOwn c

-- the plan with which it recovers
pub plan_is : {A : Type 0} → (c : Core A) (o : HasOwn c) → plan c ≡ plan_of c.installed.ring o.commit.members o.commit.entries
plan_is c o = ap (plan_of c.installed.ring c.running.members) o.entries ∙ ap (λ m. plan_of c.installed.ring m o.commit.entries) (sym o.members)

learned_own : {A : Type 0} → (received : Frame A → Type 0) (c : Core A) (k : CommitToken) → MayLearn received c k → IsCoreInWindow c → AreFit c.held → HasOwn (core_after_move c (Learns k))
learned_own {A} received c k h fit are =
    let own = own_entry c in
    let newest : entries_for c.running.ring (k ∷ c.plans) ≡ k.entries =
    cond-true (same_ring k.ring c.running.ring) k.entries (entries_for c.running.ring c.plans)
    (subst (λ r. same_ring k.ring r ≡ true) h.ring (same-self k.ring)) in
    record {
      commit = k;
      there = inl refl;
      ring = h.ring;
      members = h.members;
      entries = newest;
      place = position_of_hop k;
      own = own;
      here = own_is own (slice_get k.entries (position_of_hop k)) h.own;
      mine = h.here;
      old = refl;
      front_is = omega arith;
      held = λ u e. sym (exact_now c fit are u) ∙ e;
    }

pub moved_own : {A : Type 0} → (received : Frame A → Type 0) (c : Core A) (m : Move A) → MayMove received c m → IsCoreInWindow c → AreFit c.held → KnowsOwn c →
    KnowsOwn (core_after_move c m)
moved_own received c (Learns k) h fit are o s = learned_own received c k h fit are
moved_own received c (Enters k) h fit are o s = absurd (let q : Commit ≡ Recovery = s in let n : ⊥ = cc in n)
moved_own received c Installs h fit are o s = absurd (let q : Operational ≡ Recovery = s in let n : ⊥ = cc in n)
moved_own received c (Idles state gathering last_sent queue sends) h fit are o s =
    elim (h.leaves) [
      | inl e ↦ (let p = o (sym e ∙ s) in
          record {
            commit = p.commit;
            there = p.there;
            ring = p.ring;
            members = p.members;
            entries = p.entries;
            place = p.place;
            own = p.own;
            here = p.here;
            mine = p.mine;
            old = p.old;
            front_is = p.front_is;
            held = p.held;
          })
      | inr (inl e) ↦ absurd (let q : Gather ≡ Recovery = sym e ∙ s in let n : ⊥ = cc in n)
      | inr (inr e) ↦ absurd (let q : Stopped ≡ Recovery = sym e ∙ s in let n : ⊥ = cc in n)
    ]
moved_own {A} received c (Visits t fresh requests again queue) h fit are o s =
    let p = o s in
    let g = (moved_grows c (Visits t fresh requests again queue)).fronts c.installed.ring in
    let f = p.front_is in
    record {
      commit = p.commit;
      there = p.there;
      ring = p.ring;
      members = p.members;
      entries = p.entries;
      place = p.place;
      own = p.own;
      here = p.here;
      mine = p.mine;
      old = p.old;
      front_is = omega (arith, f, g);
      held = λ u e. holds-more (reverse (numbered t.ring c.me t.seq fresh)) c.held c.installed.ring u (p.held u e);
    }
moved_own {A} received c (Takes x) h fit are o s =
    let p = o s in
    let g = (moved_grows c (Takes x)).fronts c.installed.ring in
    let f = p.front_is in
    record {
      commit = p.commit;
      there = p.there;
      ring = p.ring;
      members = p.members;
      entries = p.entries;
      place = p.place;
      own = p.own;
      here = p.here;
      mine = p.mine;
      old = p.old;
      front_is = omega (arith, f, g);
      held = λ u e. holds-more (old_ring_messages c.state c x) (x ∷ c.held) c.installed.ring u (holds-more (x ∷ []) c.held c.installed.ring u (p.held u e));
    }
