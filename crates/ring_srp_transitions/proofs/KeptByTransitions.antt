-- A core's invariant is kept by each transition.
use Rattle.std.proofs.Common.{◌≡◌, ℕ, suc, ◌<◌, ◌≤◌, List, [], ◌∷◌, Option, Some, None, refl, ◌∙◌, sym, arith}
use Rattle.std.specs.List.{AllByRecursion}
use Rattle.std.proofs.lemmas.Bool.{true≢false}
use Rattle.ring_base.specs.Processors.{IsMember}
use Rattle.ring_base.specs.declared.ring_id.RingId.{RingId}
use Rattle.ring_base.specs.declared.state.State.{State}
use Rattle.ring_base.specs.declared.state.State.TheVariants.{Gather, Commit, Recovery, Operational, Stopped}
use Rattle.ring_payload.specs.declared.content.Payload.{Payload}
use Rattle.ring_wire.specs.declared.commit.CommitToken.{CommitToken}
use Rattle.ring_wire.specs.declared.message.Message.{Message}
use Rattle.ring_window.specs.Windows.{WindowHistory}
use Rattle.ring_token.specs.TokenVisits.{TokenVisit, MarkRaise}
use Rattle.ring_token.specs.Histories.{TokenHistory}
use Rattle.ring_join.specs.Gatherers.{Gatherer}
use Rattle.ring_join.specs.Gathering.{Gathering}
use Rattle.ring_commit.specs.declared.configuration.Configuration.{Configuration}
use Rattle.ring_srp_state.specs.declared.recovery_state.RecoveryState.{RecoveryState}
use Rattle.ring_core_spec.specs.State.{Core, OutgoingFrame, Report, floor}
use Rattle.ring_srp_transitions.specs.RunningCores.{core_of, IsPart, IsBelow, held_ring_bound, IsRecovering, IsRunningCore}

-- Numbers below a bound are below a higher one

held_wider : {A : Type 0} (m n : ℕ) (xs : List (Message A)) → m ≤ n
    → AllByRecursion (λ (x : Message A). x.ring.seq < m) xs → AllByRecursion (λ (x : Message A). x.ring.seq < n) xs
held_wider m n [] l h = tt
held_wider m n (x ∷ xs) l h = (omega (arith, h.0), held_wider m n xs l h.1)

turns_wider : {A : Type 0} (m n : ℕ) (vs : List (TokenVisit A)) → m ≤ n
    → AllByRecursion (λ (v : TokenVisit A). v.received.ring.seq < m) vs → AllByRecursion (λ (v : TokenVisit A). v.received.ring.seq < n) vs
turns_wider m n [] l h = tt
turns_wider m n (v ∷ vs) l h = (omega (arith, h.0), turns_wider m n vs l h.1)

raises_wider : (m n : ℕ) (xs : List MarkRaise) → m ≤ n → AllByRecursion (λ (x : MarkRaise). x.ring.seq < m) xs → AllByRecursion (λ (x : MarkRaise). x.ring.seq < n) xs
raises_wider m n [] l h = tt
raises_wider m n (x ∷ xs) l h = (omega (arith, h.0), raises_wider m n xs l h.1)

-- the part of a ring, and the facts below a number, depend on the core's number, the messages held, the visits and
-- the marks alone
module _ {A : Type 0} {c : Core A} {total : ℕ} {state : State} {running installed : Configuration} {gathering : Gathering} {last_sent : Option (OutgoingFrame A)}
    {queue : List (Payload A)} {rings installs : List Configuration} {reports : List Report} {plans : List CommitToken} where
  pub part_as : {ring : RingId} {window : WindowHistory A} {visit : TokenHistory A} → IsPart c ring window visit
      → IsPart (core_of c.me total state running installed gathering last_sent queue c.held
      (record { rings = rings; installs = installs; turns = c.turns; raises = c.raises; reports = reports; plans = plans })) ring window visit
  part_as p = record { window_is = p.window_is; visit_is = p.visit_is; reached = p.reached; near = p.near; led = p.led }

  pub below_wider : {m n : ℕ} → IsBelow c m → m ≤ n
      → IsBelow (core_of c.me total state running installed gathering last_sent queue c.held
      (record { rings = rings; installs = installs; turns = c.turns; raises = c.raises; reports = reports; plans = plans })) n
  below_wider {m} {n} b l = record {
    held = held_wider m n c.held l b.held;
    turns = turns_wider m n c.turns l b.turns;
    raises = raises_wider m n c.raises l b.raises;
  }

pub bound_short : (s : State) (n : ℕ) → held_ring_bound s n ≤ suc n
bound_short Gather n = omega arith
bound_short Commit n = omega arith
bound_short Recovery n = omega arith
bound_short Operational n = omega arith
bound_short Stopped n = omega arith

-- a state differs from any other

not_operational : Gather ≡ Operational → ⊥
not_operational e = (let q : Gather ≡ Operational = e in cc)

not_recovery : Gather ≡ Recovery → ⊥
not_recovery e = (let q : Gather ≡ Recovery = e in cc)

commit_not_gather : Commit ≡ Gather → ⊥
commit_not_gather e = (let q : Commit ≡ Gather = e in cc)

commit_not_operational : Commit ≡ Operational → ⊥
commit_not_operational e = (let q : Commit ≡ Operational = e in cc)

commit_not_recovery : Commit ≡ Recovery → ⊥
commit_not_recovery e = (let q : Commit ≡ Recovery = e in cc)

-- the part of the running ring doesn't depend on Gather or the queue
recovering_as : {A : Type 0} (c : Core A) (gathering : Gathering) (queue : List (Payload A)) (recovery : Option (RecoveryState A)) → IsRecovering c recovery
    → IsRecovering (record c { gathering = gathering; queue = queue }) recovery
recovering_as c gathering queue None i = i
recovering_as c gathering queue (Some r) m = record {
  part = part_as m.part;
  plan_is = m.plan_is;
  ends_is = m.ends_is;
  deferred_is = m.deferred_is;
  deferred_in_front = m.deferred_in_front;
  deferred_covers_mark = m.deferred_covers_mark;
  deferred_covers_aru = m.deferred_covers_aru;
  old_safe = m.old_safe;
}

-- a core with the same rings, in the same state
abbrev pub changed : {A : Type 0} → Core A → Gathering → Option (OutgoingFrame A) → List (Payload A) → List (Message A) → List (TokenVisit A) → Core A
changed c gathering last_sent queue held turns =
    record c { gathering = gathering; last_sent = last_sent; queue = queue; held = held; turns = turns }

module _ {A : Type 0} {c : Core A} {gather : Gatherer} {window : WindowHistory A} {visit : TokenHistory A} {recovery : Option (RecoveryState A)}
    (m : IsRunningCore c gather window visit recovery) where
  -- the parts of its rings, with the states of Gather and Recovery, are all that the invariant needs
  pub machine_as : {gathering : Gathering} {last_sent : Option (OutgoingFrame A)} {queue : List (Payload A)} {held : List (Message A)} {turns : List (TokenVisit A)}
      {gather' : Gatherer} {window' : WindowHistory A} {visit' : TokenHistory A} {recovery' : Option (RecoveryState A)}
      → gather'.me ≡ gather.me → gather'.floor ≡ gather.floor
      → IsPart (changed c gathering last_sent queue held turns) c.installed.ring window' visit'
      → IsBelow (changed c gathering last_sent queue held turns) (held_ring_bound c.state (floor c))
      → (c.state ≡ Recovery → IsRecovering (changed c gathering last_sent queue held turns) recovery') → ((c.state ≡ Recovery → ⊥) → recovery' ≡ None)
      → IsRunningCore (changed c gathering last_sent queue held turns) gather' window' visit' recovery'
  machine_as one least kept below recovery_state over = record {
    runs = m.runs;
    gather_me = one ∙ m.gather_me;
    gather_floor = λ e. least ∙ m.gather_floor e;
    member = m.member;
    kept = kept;
    below = below;
    older = m.older;
    apart = m.apart;
    same = m.same;
    recovery_state = recovery_state;
    over = over;
  }

  -- the queue changes, or the sets in Gather
  pub stands_on : {gathering : Gathering} {queue : List (Payload A)} {gather' : Gatherer} → gather'.me ≡ gather.me → gather'.floor ≡ gather.floor
      → IsRunningCore (record c { gathering = gathering; queue = queue }) gather' window visit recovery
  stands_on {gathering} {queue} one least =
      machine_as one least (part_as m.kept) (below_wider m.below (omega arith)) (λ e. recovering_as c gathering queue recovery (m.recovery_state e)) m.over

  -- Gather is entered
  pub into_gather : {gathering : Gathering} {last_sent : Option (OutgoingFrame A)} {queue : List (Payload A)} {gather' : Gatherer} {recovery' : Option (RecoveryState A)}
      → gather'.me ≡ c.me → gather'.floor ≡ floor c → recovery' ≡ None
      → IsRunningCore (record c { state = Gather; gathering = gathering; last_sent = last_sent; queue = queue }) gather' window visit recovery'
  into_gather one least none = record {
    runs = refl;
    gather_me = one;
    gather_floor = λ e. least;
    member = m.member;
    kept = part_as m.kept;
    below = below_wider m.below (bound_short c.state (floor c));
    older = m.older;
    apart = λ e. absurd (true≢false (sym e));
    same = λ e. absurd (not_operational e);
    recovery_state = λ e. absurd (not_recovery e);
    over = λ e. none;
  }

  -- a newer ring is taken part in
  pub into_commit : {running : Configuration} {last_sent : Option (OutgoingFrame A)} {rings : List Configuration} {reports : List Report}
      → c.state ≡ Gather → floor c < running.ring.seq → IsMember running.members c.me
      → IsRunningCore (record c { state = Commit; running = running; last_sent = last_sent; rings = rings; reports = reports }) gather window visit recovery
  into_commit gathers newer member = record {
    runs = refl;
    gather_me = m.gather_me;
    gather_floor = λ e. absurd (commit_not_gather e);
    member = member;
    kept = part_as m.kept;
    below = below_wider m.below (omega (arith, bound_short c.state (floor c), newer));
    older = omega (arith, m.older, newer);
    apart = λ e. omega (arith, m.older, newer);
    same = λ e. absurd (commit_not_operational e);
    recovery_state = λ e. absurd (commit_not_recovery e);
    over = λ e. m.over (λ q. not_recovery (sym gathers ∙ q));
  }
