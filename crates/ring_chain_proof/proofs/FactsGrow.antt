-- A move only adds to a core's facts, and facts about all cores stay true as one of them grows.
use Rattle.std.proofs.Common.{◌≡◌, ℕ, ◌≤◌, inl, inr, ◌==◌, List, [], ◌∷◌, refl, sym, subst, arith}
use Rattle.std.specs.Prelude.{reverse}
use Rattle.std.proofs.lemmas.Bool.{cond_both, eqb-true, eqb-false}
use Rattle.ring_base.specs.Rings.{same_ring}
use Rattle.ring_base.specs.declared.ring_id.RingId.{RingId}
use Rattle.ring_base.proofs.Each.{each-weaker}
use Rattle.ring_wire.specs.declared.commit.CommitToken.{CommitToken}
use Rattle.ring_wire.specs.declared.frame.Frame.{Frame}
use Rattle.ring_wire.specs.declared.frame.Frame.TheVariants.{Message as MessageFrame, Token as TokenFrame, Join as JoinFrame}
use Rattle.ring_wire.specs.declared.frame.Frame.TheVariants.{Commit as CommitFrame}
use Rattle.ring_wire.specs.declared.message.Message.{Message}
use Rattle.ring_wire.specs.declared.token.Token.{Token}
use Rattle.ring_core_spec.specs.Tokens.{TokenVisit, VisitBy, numbered}
use Rattle.ring_core_spec.specs.Commits.{Configuration}
use Rattle.ring_core_spec.specs.State.{Core, Report}
use Rattle.ring_core_spec.specs.Views.{front}
use Rattle.ring_core_spec.specs.Transitions.{old_ring_messages}
use Rattle.ring_core_proof.specs.FactWords.{IsIn, SomeIs}
use Rattle.ring_core_proof.specs.Worlds.{Transmission, with_core}
use Rattle.ring_core_proof.specs.Moves.{Move, Idles, Enters, Learns, Visits, Takes, Installs, core_after_move, turn_with}
use Rattle.ring_core_proof.proofs.WithinWindow.{front-append}
use Rattle.ring_chain_proof.specs.ChainWords.{Chains, IsSafe, IsGenuine}
use Rattle.ring_chain_proof.proofs.GenuineFrames.{HasArrived, IsRight, AreRight, visits_after}

-- One core

pub record HasGrown {A : Type 0} (c d : Core A) : Type 0 where
  pub me : d.me ≡ c.me
  pub rings : (p : Configuration) → IsIn p c.rings → IsIn p d.rings
  pub reports : (x : Report) → IsIn x c.reports → IsIn x d.reports
  pub plans : (k : CommitToken) → IsIn k c.plans → IsIn k d.plans
  pub turns : (v : TokenVisit A) → IsIn v c.turns → IsIn v d.turns
  pub fronts : (r : RingId) → front c r ≤ front d r

pub grown_same : {A : Type 0} → (c : Core A) → HasGrown c c
grown_same c = record { me = refl; rings = λ p h. h; reports = λ x h. h; plans = λ k h. h; turns = λ v h. h; fronts = λ r. omega arith }

pub moved_grows : {A : Type 0} → (c : Core A) (m : Move A) → HasGrown c (core_after_move c m)
moved_grows c (Idles state gathering last_sent queue sends) = record {
  me = refl;
  rings = λ p h. h;
  reports = λ x h. h;
  plans = λ k h. h;
  turns = λ v h. h;
  fronts = λ r. omega arith;
}
moved_grows c (Enters k) = record { me = refl; rings = λ p h. inr h; reports = λ x h. inr h; plans = λ k h. h; turns = λ v h. h; fronts = λ r. omega arith }
moved_grows c (Learns k) = record { me = refl; rings = λ p h. h; reports = λ x h. h; plans = λ k h. inr h; turns = λ v h. h; fronts = λ r. omega arith }
moved_grows c (Visits t fresh requests again queue) = record {
  me = refl;
  rings = λ p h. h;
  reports = λ x h. h;
  plans = λ k h. h;
  turns = λ v h. inr h;
  fronts = λ r. front-append (reverse (numbered t.ring c.me t.seq fresh))
      c.held r;
}
moved_grows c (Takes x) =
    record {
      me = refl;
      rings = λ p h. h;
      reports = λ x h. h;
      plans = λ k h. h;
      turns = λ v h. h;
      fronts = λ r. (let a = front-append (x ∷ []) c.held r in let b = front-append (old_ring_messages c.state c x) (x ∷ c.held) r in omega (arith, a, b));
    }
moved_grows c Installs = record { me = refl; rings = λ p h. h; reports = λ x h. h; plans = λ k h. h; turns = λ v h. h; fronts = λ r. omega arith }

-- All cores

-- a property of each core also holds with the new core in its place
pub put-each : {A : Type 0} → (Q : ℕ → Core A → Type 0) (cores : ℕ → Core A) (i : ℕ) (d : Core A) → ((q : ℕ) → (q ≡ i → ⊥) → Q q (cores q)) → Q i d →
    (q : ℕ) → Q q (with_core cores i d q)
put-each Q cores i d old new q =
    cond_both (q == i) d (cores q) (Q q) (λ e. subst (λ x. Q x d) (sym (eqb-true q i e)) new) (λ e. old q (eqb-false q i e))

abbrev pub AllGrown : {A : Type 0} → (ℕ → Core A) → (ℕ → Core A) → Type 0
AllGrown old new = (q : ℕ) → HasGrown (old q) (new q)

pub put_grows : {A : Type 0} → (cores : ℕ → Core A) (i : ℕ) (d : Core A) → HasGrown (cores i) d → AllGrown cores (with_core cores i d)
put_grows cores i d h = put-each (λ q x. HasGrown (cores q) x) cores i d (λ q n. grown_same (cores q)) h

-- each ring's visits are the same, or one more
pub record ChainsGrow {A : Type 0} (old new : Chains A) : Type 0 where
  pub token_arrived : (r : RingId) (t : Token) → HasArrived r t (old r) → HasArrived r t (new r)
  pub genuine : (x : Message A) → IsGenuine old x → IsGenuine new x

pub visits_grow : {A : Type 0} → (visits : Chains A) (i : ℕ) (c : Core A) (m : Move A) → ChainsGrow visits (visits_after visits i c m)
visits_grow {A} visits i c (Visits t fresh requests again queue) =
    let v : VisitBy A = record { who = i; turn = turn_with c t fresh requests } in
    record {
      token_arrived = λ r u h. cond_both (same_ring t.ring r) (v ∷ visits r) (visits r) (λ vs. HasArrived r u vs) (λ e. inr h) (λ e. h);
      genuine = λ x h. cond_both (same_ring t.ring x.ring) (v ∷ visits x.ring) (visits x.ring)
          (λ vs. SomeIs (λ (v : VisitBy A). IsIn x (numbered x.ring v.who v.turn.received.seq v.turn.fresh)) vs)
          (λ e. inr h) (λ e. h);
    }
visits_grow visits i c (Idles state gathering last_sent queue sends) = record { token_arrived = λ r u h. h; genuine = λ x h. h }
visits_grow visits i c (Enters k) = record { token_arrived = λ r u h. h; genuine = λ x h. h }
visits_grow visits i c (Learns k) = record { token_arrived = λ r u h. h; genuine = λ x h. h }
visits_grow visits i c (Takes x) = record { token_arrived = λ r u h. h; genuine = λ x h. h }
visits_grow visits i c Installs = record { token_arrived = λ r u h. h; genuine = λ x h. h }

-- a safe number stays safe
pub safe_grows : {A : Type 0} → (old new : ℕ → Core A) → AllGrown old new → (r : RingId) (s : ℕ) → IsSafe old r s → IsSafe new r s
safe_grows old new g r s (inl e) = inl e
safe_grows old new g r s (inr (members, known, safe)) =
    inr (members, (g r.rep).rings _ known, λ p proc m. (let a = safe p proc m in let b = (g p).fronts r in omega (arith, a, b)))

-- a valid frame stays valid
pub right_grows : {A : Type 0} → (visits visits' : Chains A) (old new : ℕ → Core A) → ChainsGrow visits visits' → AllGrown old new →
    (from to : ℕ) (f : Frame A) → IsRight visits old from to f → IsRight visits' new from to f
right_grows visits visits' old new c g from to (MessageFrame x) h = c.genuine x h
right_grows visits visits' old new c g from to (TokenFrame t) h =
    record { members = h.members; ring_of = (g t.ring.rep).rings _ h.ring_of; some = h.some; sent_to = h.sent_to; token_arrived = c.token_arrived t.ring t h.token_arrived }
right_grows visits visits' old new c g from to (CommitFrame k) h =
    record {
      ring_of = (g k.ring.rep).rings _ h.ring_of;
      sent_to = h.sent_to;
      sent_by = h.sent_by;
      low = h.low;
      high = h.high;
      count = h.count;
      reports = λ x e s. (g _).reports _ (h.reports x e s);
    }
right_grows visits visits' old new c g from to (JoinFrame j) h = tt

pub all_right_grow : {A : Type 0} → (visits visits' : Chains A) (old new : ℕ → Core A) → ChainsGrow visits visits' → AllGrown old new →
    (frames : List (Transmission A)) → AreRight visits old frames → AreRight visits' new frames
all_right_grow {A} visits visits' old new c g frames h =
    each-weaker _ _ (λ (f : Transmission A) k. right_grows visits visits' old new c g f.from f.to f.frame k) frames h
