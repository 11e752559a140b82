-- Each hop of a ring is taken at most once.

-- A core that takes a hop keeps a fact that shows it: in the first round the ring, in the second the plan, at the end
-- the visit of the first token. With that fact it would ignore the same hop.
use Rattle.std.proofs.Common.{◌≡◌, ℕ, ◌*◌, ◌%◌, ◌<◌, ◌≤◌, ◌⊎◌, inl, inr, Bool, true, false, ◌&&◌, ◌==◌, List, [], ◌∷◌}
use Rattle.std.proofs.Common.{◌++◌, Option, Some, None, refl, ap, sym, ◌∙◌, subst, arith}
use Rattle.std.specs.Prelude.{not, nat_lt, nat_le, filter}
use Rattle.std.specs.List.{list_all}
use Rattle.std.proofs.lemmas.Bool.{cond_both, cases_Bool, and_from, and_parts, eqb-true, ltb-true, both_ways}
use Rattle.std.proofs.lemmas.List.Folds.{list_all-append}
use Rattle.ring_base.specs.Rings.{same_ring}
use Rattle.ring_base.specs.Processors.{has, at, size}
use Rattle.ring_base.specs.declared.ring_id.RingId.{RingId}
use Rattle.ring_wire.specs.declared.commit.CommitToken.{CommitToken}
use Rattle.ring_wire.specs.declared.frame.Frame.{Frame}
use Rattle.ring_wire.specs.declared.frame.Frame.TheVariants.{Message as MessageFrame, Token as TokenFrame, Join as JoinFrame}
use Rattle.ring_wire.specs.declared.frame.Frame.TheVariants.{Commit as CommitFrame}
use Rattle.ring_wire.specs.declared.token.Token.{Token}
use Rattle.ring_core_spec.specs.Windows.{highest}
use Rattle.ring_base.proofs.SameRing.{ring_same, same-self}
use Rattle.ring_core_spec.specs.Tokens.{TokenVisit, is_newer}
use Rattle.ring_core_spec.specs.Joins.{candidates}
use Rattle.ring_core_spec.specs.Commits.{receiver, is_of}
use Rattle.ring_core_spec.specs.declared.input.Input.{Input}
use Rattle.ring_core_spec.specs.declared.input.Input.TheVariants.{Frame as FrameInput}
use Rattle.ring_core_spec.specs.declared.out.Out.{Out}
use Rattle.ring_core_spec.specs.State.{Core, TransitionResult, floor, frame_at}
use Rattle.ring_core_spec.specs.Visiting.{accepts}
use Rattle.ring_core_spec.specs.Joining.{proposes}
use Rattle.ring_core_spec.specs.Giving.{may_install, with_installation_if}
use Rattle.ring_core_spec.specs.Deciding.{Transition, Ignore, Enqueue, Repeat, Announce, Invite, GiveUp, EnterGather, Agree, MergeJoin}
use Rattle.ring_core_spec.specs.Deciding.{EnterGatherAndAgree, EnterGatherAndMergeJoin, Take, Visit, Fill, Learn, decide}
use Rattle.ring_core_spec.specs.Transitions.{apply_transition, may_propose_after, with_proposal_if}
use Rattle.ring_core_spec.specs.Stepping.{ring_step}
use Rattle.ring_core_proof.specs.LawConditions.{HasPassed, IsInputOf}
use Rattle.ring_core_proof.specs.FactWords.{IsIn}
use Rattle.ring_core_proof.specs.declared.event.RingEvent.{RingEvent}
use Rattle.ring_core_proof.specs.declared.event.RingEvent.TheVariants.{Send, Deliver, Timeout, Stop}
use Rattle.ring_core_proof.specs.Worlds.{Transmission, World, is_node, stepped_if, handed_if, handed, world_after_event, run, unformed}
use Rattle.ring_core_proof.specs.CommitRounds.{CommitRounds, all_pairs, Taking, is_ignored, taken_unless, taken_at, taken_if}
use Rattle.ring_core_proof.specs.CommitRounds.{taken_of, taken_in, takings, are_other_hops}
use Rattle.ring_core_proof.specs.Moves.{Enters, Installs, core_after_move, IsReceivedFrame}
use Rattle.ring_core_proof.proofs.Guards.{guarded, one_position}
use Rattle.ring_core_proof.proofs.Causes.{caused}
use Rattle.ring_core_proof.proofs.StepsAreMoves.{learns, proposed_token}
use Rattle.ring_core_proof.proofs.Rises.{Rising, below_floor}
use Rattle.ring_core_proof.proofs.Rounds.{all_taken, all_rise}
use Rattle.ring_core_proof.proofs.InLists.{in-each}
use Rattle.ring_core_proof.proofs.Lifting.{IsKeptInWorlds, kept_run, put-here, came_at}
use Rattle.ring_core_proof.proofs.Rounds.{not_ignored}
use Rattle.ring_chain_proof.specs.ChainWords.{IsRingOf}
use Rattle.ring_chain_proof.proofs.GenuineFrames.{IsHop}
use Rattle.ring_chain_proof.proofs.FactsGrow.{HasGrown, AllGrown, grown_same, moved_grows, put_grows}
use Rattle.ring_chain_proof.proofs.Filed.{Filed}
use Rattle.ring_chain_proof.proofs.Rings.{came_right, one_members}
use Rattle.ring_chain_proof.proofs.Hops.{hops_of_runs, members_of_runs}
use Rattle.ring_chain_proof.proofs.AllLayers.{Holds, holding, opening_holds, unformed_holds}

-- Facts grow

grown_then : {A : Type 0} → (a b c : Core A) → HasGrown a b → HasGrown b c → HasGrown a c
grown_then a b c g h =
    record {
      me = h.me ∙ g.me;
      rings = λ p i. h.rings p (g.rings p i);
      reports = λ x i. h.reports x (g.reports x i);
      plans = λ k i. h.plans k (g.plans k i);
      turns = λ v i. h.turns v (g.turns v i);
      fronts = λ r. (let x = g.fronts r in let y = h.fronts r in omega (arith, x, y));
    }

proposed_grows : {A : Type 0} → (b : Bool) (d : TransitionResult A) → HasGrown d.core (with_proposal_if b d).core
proposed_grows false d = grown_same d.core
proposed_grows true d = moved_grows d.core (Enters (proposed_token d.core))

settled_grows : {A : Type 0} → (b : Bool) (c : Core A) (outs : List (Out A)) → HasGrown c (with_installation_if b c outs).core
settled_grows false c outs = grown_same c
settled_grows true c outs = moved_grows c Installs

-- after its transition a step only adds facts
step_grows : {A : Type 0} → (c : Core A) (input : Input A) → HasGrown (apply_transition c (decide c input)).core (ring_step c input).core
unfolding ring_step
step_grows c input =
    let d = apply_transition c (decide c input) in
    let e = with_proposal_if (may_propose_after (decide c input) && proposes d.core) d in
    grown_then d.core e.core _ (proposed_grows (may_propose_after (decide c input) && proposes d.core) d) (settled_grows (may_install e.core) e.core _)

growing : {A : Type 0} → (base : ℕ → Core A) → IsKeptInWorlds (λ cores frames. AllGrown base cores)
growing base = record {
  moves = λ cores frames i m low h g. λ q. grown_then (base q) (cores q) _ (g q)
      (put_grows cores i (core_after_move (cores i) m) (moved_grows (cores i) m) q);
}

pub event_grows : {A : Type 0} → (w : World A) (e : RingEvent A) → AllGrown w.cores (world_after_event w e).cores
event_grows w e = kept_run (λ cores frames. AllGrown w.cores cores) (growing w.cores) w (e ∷ []) (λ q. grown_same (w.cores q))

pub event_holds : {A : Type 0} → (w : World A) (e : RingEvent A) → Holds w.cores w.frames → Holds (world_after_event w e).cores (world_after_event w e).frames
event_holds w e p = kept_run Holds holding w (e ∷ []) p

-- The fact that shows that a hop was taken

abbrev HasPlan : {A : Type 0} → Core A → RingId → Type 0
HasPlan c ring = (p : CommitToken) × IsIn p c.plans × (p.ring ≡ ring)

abbrev HasFirst : {A : Type 0} → Core A → RingId → Type 0
HasFirst {A} c ring = (v : TokenVisit A) × IsIn v c.turns × (v.received.ring ≡ ring) × (v.received.number ≡ 0)

abbrev Took : {A : Type 0} → Core A → RingId → ℕ → ℕ → Type 0
Took c ring hop members =
    ((hop < size members) × IsIn (record { ring = ring; members = members }) c.rings) ⊎
    (((size members ≤ hop) × (hop < 2 * size members) × HasPlan c ring) ⊎ ((hop ≡ 2 * size members) × HasFirst c ring))

took_grows : {A : Type 0} → (c d : Core A) → HasGrown c d → (ring : RingId) (hop members : ℕ) → Took c ring hop members → Took d ring hop members
took_grows c d g ring hop members (inl t) = inl (t.0, g.rings _ t.1)
took_grows c d g ring hop members (inr (inl t)) = inr (inl (t.0, t.1, (t.2.0, g.plans t.2.0 t.2.1, t.2.2)))
took_grows c d g ring hop members (inr (inr t)) = inr (inr (t.0, (t.1.0, g.turns t.1.0 t.1.1, t.1.2, t.1.3)))

-- A commit token that is taken

first_hop : {A : Type 0} → (c : Core A) (k : CommitToken) → HasPassed c (Fill k) → (k.hop < size k.members) × (floor c < k.ring.seq)
first_hop c k g =
    let p = and_parts (nat_lt k.hop (size k.members) && (k.members == candidates c.gathering)) (nat_lt (floor c) k.ring.seq) g.passes in
    (ltb-true _ _ (and_parts (nat_lt k.hop (size k.members)) (k.members == candidates c.gathering) p.0).0, ltb-true _ _ p.1)

start_hop : {A : Type 0} → (c : Core A) (input : Input A) (t : Token) (s : Rattle.ring_core_proof.specs.LawConditions.StartsWith c input t) →
    s.commit.hop ≡ 2 * size s.commit.members
start_hop c input t s = eqb-true _ _ (and_parts (s.commit.hop == 2 * size s.commit.members) (is_of c.running s.commit) s.starts).0

acted_took : {A : Type 0} → (c : Core A) (k : CommitToken) (a : Transition A) → HasPassed c a → IsInputOf c (FrameInput (CommitFrame k)) a → (a ≡ Ignore → ⊥) →
    Took (apply_transition c a).core k.ring k.hop k.members
acted_took c k Ignore g h n = absurd (n refl)
acted_took c k (Fill j) g h n =
    let same : j ≡ k = cc in
    subst (λ (k : CommitToken). Took (apply_transition c (Fill j)).core k.ring k.hop k.members) same (inl ((first_hop c j g).0, inl refl))
acted_took c k (Learn j) g h n =
    let same : j ≡ k = cc in
    let m = learns c (FrameInput (CommitFrame k)) j g h in
    subst (λ (k : CommitToken). Took (apply_transition c (Learn j)).core k.ring k.hop k.members) same (inr (inl (m.second, m.last, (j, inl refl, refl))))
acted_took c k (Visit t) g (inl h) n = absurd (let x : ⊥ = cc in x)
acted_took c k (Visit t) g (inr s) n =
    let same : s.commit ≡ k = (let e = s.received in cc) in
    let ring : t.ring ≡ s.commit.ring = ap (λ (t : Token). t.ring) s.first in
    let number : t.number ≡ 0 = ap (λ (t : Token). t.number) s.first in
    subst (λ (k : CommitToken). Took (apply_transition c (Visit t)).core k.ring k.hop k.members) same
    (inr (inr (start_hop c (FrameInput (CommitFrame k)) t s, (_, inl refl, ring, number))))
acted_took c k (Enqueue p) g h n = absurd (let x : ⊥ = cc in x)
acted_took c k Repeat g h n = absurd (let x : ⊥ = cc in x)
acted_took c k Announce g h n = absurd (let x : ⊥ = cc in x)
acted_took c k Invite g h n = absurd (let x : ⊥ = cc in x)
acted_took c k GiveUp g h n = absurd (let x : ⊥ = cc in x)
acted_took c k EnterGather g (inl h) n = absurd (let x : ⊥ = cc in x)
acted_took c k EnterGather g (inr l) n = absurd (let e = l.received in let x : ⊥ = cc in x)
acted_took c k (Agree j) g h n = absurd (let x : ⊥ = cc in x)
acted_took c k (MergeJoin j) g h n = absurd (let x : ⊥ = cc in x)
acted_took c k (EnterGatherAndAgree j) g h n = absurd (let x : ⊥ = cc in x)
acted_took c k (EnterGatherAndMergeJoin j) g h n = absurd (let x : ⊥ = cc in x)
acted_took c k (Take y) g h n = absurd (let x : ⊥ = cc in x)

step_took : {A : Type 0} → (c : Core A) (k : CommitToken) → (decide c (FrameInput (CommitFrame k)) ≡ Ignore → ⊥) →
    Took (ring_step c (FrameInput (CommitFrame k))).core k.ring k.hop k.members
step_took c k n =
    let input = FrameInput (CommitFrame k) in
    took_grows _ _ (step_grows c input) k.ring k.hop k.members (acted_took c k (decide c input) (guarded c input) (caused c input) n)

-- with the fact it is ignored

newer_all : {A : Type 0} → (n : ℕ) (p : TokenVisit A → Bool) (v : TokenVisit A) (vs : List (TokenVisit A)) →
    list_all (λ (v : TokenVisit A). nat_lt v.received.number n) (filter p vs) ≡ true → IsIn v vs → p v ≡ true → v.received.number < n
newer_all n p v [] h i e = absurd i
newer_all {A} n p v (u ∷ vs) h i e =
    let test : TokenVisit A → Bool = λ v. nat_lt v.received.number n in
    cond_both (p u) (u ∷ filter p vs) (filter p vs) (λ (us : List (TokenVisit A)). list_all test us ≡ true → v.received.number < n)
    (λ t k. (let q = and_parts (test u) (list_all test (filter p vs)) k in elim i [
      | inl s ↦ ltb-true v.received.number n (subst (λ (u : TokenVisit A). test u ≡ true) (sym s) q.0)
      | inr j ↦ newer_all n p v vs q.1 j e
    ]))
    (λ t k. elim i [ inl s ↦ absurd (both_ways (p u) t (subst (λ (u : TokenVisit A). p u ≡ true) s e)) | inr j ↦ newer_all n p v vs k j e ])
    h

visited_again : {A : Type 0} → (c : Core A) (t : Token) → accepts c t ≡ true → (v : TokenVisit A) → IsIn v c.turns → v.received.ring ≡ t.ring → v.received.number < t.number
visited_again c t h v i e =
    let p = and_parts ((same_ring t.ring c.running.ring && is_newer c.turns t)
    && nat_lt t.number Rattle.ring_base.specs.Numbers.max_number) (nat_le (highest c.held t.ring) t.seq) h in
    let q = and_parts (same_ring t.ring c.running.ring && is_newer c.turns t) (nat_lt t.number Rattle.ring_base.specs.Numbers.max_number) p.0 in
    let r = and_parts (same_ring t.ring c.running.ring) (is_newer c.turns t) q.0 in
    newer_all t.number (λ (v : TokenVisit _). same_ring v.received.ring t.ring) v c.turns r.1 i (subst (λ r. same_ring r t.ring ≡ true) (sym e) (same-self t.ring))

not_again : {A : Type 0} → (c : Core A) → Rising c → Filed c → (k : CommitToken) (a : Transition A) → HasPassed c a → IsInputOf c (FrameInput (CommitFrame k)) a →
    (a ≡ Ignore → ⊥) → Took c k.ring k.hop k.members → ⊥
not_again c r f k Ignore g h n t = n refl
not_again c r f k (Fill j) g h n t =
    let same : k ≡ j = cc in
    let hop = first_hop c j g in
    elim (subst (λ (k : CommitToken). Took c k.ring k.hop k.members) same t) [
      | inl x ↦ (let l : j.ring.seq ≤ floor c = below_floor c r _ x.1 in omega (arith, l, hop.1))
      | inr y ↦ elim y [ inl x ↦ omega (arith, x.0, hop.0) | inr x ↦ omega (arith, x.0, hop.0) ]
    ]
not_again c r f k (Learn j) g h n t =
    let same : k ≡ j = cc in
    let m = learns c (FrameInput (CommitFrame k)) j g h in
    elim (subst (λ (k : CommitToken). Took c k.ring k.hop k.members) same t) [
      | inl x ↦ omega (arith, x.0, m.second)
      | inr y ↦ elim y [
        | inl x ↦ (let l = in-each (λ (p : CommitToken). p.ring.seq < floor c) x.2.0 c.plans (f.unplanned m.state) x.2.1 in
            let e : x.2.0.ring.seq ≡ floor c = ap (λ (r : RingId). r.seq) (x.2.2 ∙ m.ring) in omega (arith, l, e))
        | inr x ↦ omega (arith, x.0, m.last)
      ]
    ]
not_again c r f k (Visit u) g (inl h) n t = absurd (let x : ⊥ = cc in x)
not_again c r f k (Visit u) g (inr s) n t =
    let same : k ≡ s.commit = (let e = s.received in cc) in
    let hop = start_hop c (FrameInput (CommitFrame k)) u s in
    elim (subst (λ (k : CommitToken). Took c k.ring k.hop k.members) same t) [
      | inl x ↦ omega (arith, x.0, hop)
      | inr y ↦ elim y [
        | inl x ↦ omega (arith, x.1, hop)
        | inr x ↦ (let l = visited_again c u g.1 x.1.0 x.1.1 (x.1.2 ∙ sym (ap (λ (t : Token). t.ring) s.first)) in
            let z : u.number ≡ 0 = ap (λ (t : Token). t.number) s.first in omega (arith, l, z))
      ]
    ]
not_again c r f k (Enqueue p) g h n t = absurd (let x : ⊥ = cc in x)
not_again c r f k Repeat g h n t = absurd (let x : ⊥ = cc in x)
not_again c r f k Announce g h n t = absurd (let x : ⊥ = cc in x)
not_again c r f k Invite g h n t = absurd (let x : ⊥ = cc in x)
not_again c r f k GiveUp g h n t = absurd (let x : ⊥ = cc in x)
not_again c r f k EnterGather g (inl h) n t = absurd (let x : ⊥ = cc in x)
not_again c r f k EnterGather g (inr l) n t = absurd (let e = l.received in let x : ⊥ = cc in x)
not_again c r f k (Agree j) g h n t = absurd (let x : ⊥ = cc in x)
not_again c r f k (MergeJoin j) g h n t = absurd (let x : ⊥ = cc in x)
not_again c r f k (EnterGatherAndAgree j) g h n t = absurd (let x : ⊥ = cc in x)
not_again c r f k (EnterGatherAndMergeJoin j) g h n t = absurd (let x : ⊥ = cc in x)
not_again c r f k (Take y) g h n t = absurd (let x : ⊥ = cc in x)

-- The commit tokens taken in an event

record IsTaking {A : Type 0} (w : World A) (e : RingEvent A) (t : Taking) : Type 0 where
  pub i : ℕ
  pub who : t.who ≡ (w.cores i).me
  pub taken : decide (w.cores i) (FrameInput (CommitFrame t.commit)) ≡ Ignore → ⊥
  pub received : IsReceivedFrame w.frames i (CommitFrame t.commit)
  pub after : (world_after_event w e).cores i ≡ (ring_step (w.cores i) (FrameInput (CommitFrame t.commit))).core

abbrev TakesOne : {A : Type 0} → World A → RingEvent A → List Taking → Type 0
TakesOne w e ts = (ts ≡ []) ⊎ ((t : Taking) × (ts ≡ t ∷ []) × IsTaking w e t)

module _ {A : Type 0} (w : World A) (i n : ℕ) where
  taking_unless : (b : Bool) (k : CommitToken) → is_ignored (decide (w.cores i) (FrameInput (CommitFrame k))) ≡ b → IsReceivedFrame w.frames i (CommitFrame k) →
      (world_after_event w (Deliver i n)).cores i ≡ (ring_step (w.cores i) (FrameInput (CommitFrame k))).core → TakesOne w (Deliver i n) (taken_unless b (w.cores i) k)
  taking_unless true k e received after = inl refl
  taking_unless false k e received after =
      inr (_, refl, record { i = i; who = refl; taken = not_ignored (decide (w.cores i) (FrameInput (CommitFrame k))) e; received = received; after = after })

  taking_frame : (frame : Frame A) → IsReceivedFrame w.frames i frame → (world_after_event w (Deliver i n)).cores i ≡ (ring_step (w.cores i) (FrameInput frame)).core →
      TakesOne w (Deliver i n) (taken_at (w.cores i) frame)
  taking_frame (CommitFrame k) received after = taking_unless (is_ignored (decide (w.cores i) (FrameInput (CommitFrame k)))) k refl received after
  taking_frame (MessageFrame x) received after = inl refl
  taking_frame (TokenFrame t) received after = inl refl
  taking_frame (JoinFrame j) received after = inl refl

  stepped_here : (f : Transmission A) → frame_at w.frames n ≡ Some f → has f.to i ≡ true → is_node w i ≡ true →
      (world_after_event w (Deliver i n)).cores i ≡ (ring_step (w.cores i) (FrameInput f.frame)).core
  stepped_here f e h k =
      ap (λ o. (handed w i o).cores i) e ∙ ap (λ b. (handed_if b w i f.frame).cores i) h
      ∙ ap (λ b. (stepped_if b w i (FrameInput f.frame)).cores i) k ∙ put-here w.cores i
      (ring_step (w.cores i) (FrameInput f.frame)).core

  taking_if : (b : Bool) (f : Transmission A) → frame_at w.frames n ≡ Some f → (has f.to i && is_node w i) ≡ b →
      TakesOne w (Deliver i n) (taken_if b (w.cores i) f.frame)
  taking_if false f e h = inl refl
  taking_if true f e h =
      let p = and_parts (has f.to i) (is_node w i) h in
      taking_frame f.frame (came_at w.frames i n f e p.0) (stepped_here f e p.0 p.1)

  taking_of : (o : Option (Transmission A)) → frame_at w.frames n ≡ o → TakesOne w (Deliver i n) (taken_of w i o)
  taking_of None e = inl refl
  taking_of (Some f) e = taking_if (has f.to i && is_node w i) f e refl

taking_in : {A : Type 0} → (w : World A) (e : RingEvent A) → TakesOne w e (taken_in w e)
taking_in w (Deliver i n) = taking_of w i n (frame_at w.frames n) refl
taking_in w (Send i payload) = inl refl
taking_in w (Timeout i kind) = inl refl
taking_in w (Stop i) = inl refl

-- At most once

record HasTaken {A : Type 0} (cores : ℕ → Core A) (t : Taking) : Type 0 where
  pub ring_of : IsRingOf cores t.commit.ring t.commit.members
  pub here : receiver t.commit ≡ t.who
  pub took : Took (cores t.who) t.commit.ring t.commit.hop t.commit.members

taken_grows : {A : Type 0} → (old new : ℕ → Core A) → AllGrown old new → (t : Taking) → HasTaken old t → HasTaken new t
taken_grows old new g t h = record {
  ring_of = (g _).rings _ h.ring_of;
  here = h.here;
  took = took_grows (old t.who)
      (new t.who) (g t.who) t.commit.ring t.commit.hop t.commit.members h.took;
}

module _ {A : Type 0} (w : World A) (p : Holds w.cores w.frames) (e : RingEvent A) (u : Taking) (new : IsTaking w e u) where
  new_ring : IsRingOf w.cores u.commit.ring u.commit.members
  new_ring = (let f = came_right p.visits w.cores w.frames new.i (CommitFrame u.commit)
      p.sent.right new.received in let hop : IsHop w.cores f.0 f.1 u.commit = f.3 in hop.ring_of)

  new_here : receiver u.commit ≡ new.i
  new_here = one_position (w.cores new.i) u.commit new.taken ∙ p.rings.me new.i

  new_taken : HasTaken (world_after_event w e).cores u
  new_taken =
      let who : u.who ≡ new.i = new.who ∙ p.rings.me new.i in
      record {
        ring_of = (event_grows w e u.commit.ring.rep).rings _ new_ring;
        here = new_here ∙ sym who;
        took = subst (λ q. Took ((world_after_event w e).cores q) u.commit.ring u.commit.hop u.commit.members) (sym who)
            (subst (λ (c : Core A). Took c u.commit.ring u.commit.hop u.commit.members) (sym new.after) (step_took (w.cores new.i) u.commit new.taken));
      }

  other : (t : Taking) → HasTaken w.cores t → (same_ring t.commit.ring u.commit.ring && (t.commit.hop == u.commit.hop)) ≡ true → ⊥
  other t h same =
      let q = and_parts (same_ring t.commit.ring u.commit.ring) (t.commit.hop == u.commit.hop) same in
      let ring : t.commit.ring ≡ u.commit.ring = ring_same t.commit.ring u.commit.ring q.0 in
      let hop : t.commit.hop ≡ u.commit.hop = eqb-true _ _ q.1 in
      let members : t.commit.members ≡ u.commit.members = one_members w.cores p.rings u.commit.ring t.commit.members
      u.commit.members (subst (λ r. IsRingOf w.cores r t.commit.members) ring h.ring_of) new_ring in
      let who : t.who ≡ new.i = sym h.here ∙ ap (λ n. at t.commit.members (n % size t.commit.members)) hop
      ∙ ap (λ m. at m (u.commit.hop % size m)) members ∙ new_here in
      let c = w.cores new.i in
      let took : Took c u.commit.ring u.commit.hop u.commit.members =
      subst (λ m. Took c u.commit.ring u.commit.hop m) members
      (subst (λ n. Took c u.commit.ring n t.commit.members) hop
      (subst (λ r. Took c r t.commit.hop t.commit.members) ring
      (subst (λ q. Took (w.cores q) t.commit.ring t.commit.hop t.commit.members) who h.took))) in
      let input = FrameInput (CommitFrame u.commit) in
      not_again c (p.rings.rising new.i) (p.filed new.i) u.commit (decide c input) (guarded c input) (caused c input) new.taken took

others_of : {A : Type 0} → (w : World A) → Holds w.cores w.frames → (e : RingEvent A) (t : Taking) → HasTaken w.cores t → (ts : List Taking) →
    TakesOne w e ts → list_all (are_other_hops t) ts ≡ true
others_of w p e t h ts (inl q) = subst (λ ts. list_all (are_other_hops t) ts ≡ true) (sym q) refl
others_of w p e t h ts (inr (u, q, new)) =
    subst (λ ts. list_all (are_other_hops t) ts ≡ true) (sym q)
    (and_from (are_other_hops t u) true
    (elim (cases_Bool (same_ring t.commit.ring u.commit.ring && (t.commit.hop == u.commit.hop)))
    [ inl same ↦ absurd (other w p e u new t h same) | inr differ ↦ ap not differ ]) refl)

others : {A : Type 0} → (w : World A) → Holds w.cores w.frames → (t : Taking) → HasTaken w.cores t → (events : List (RingEvent A)) →
    list_all (are_other_hops t) (takings w events) ≡ true
others w p t h [] = refl
others w p t h (e ∷ events) =
    list_all-append (are_other_hops t) (taken_in w e) (takings (world_after_event w e) events)
    ∙ and_from (list_all (are_other_hops t) (taken_in w e)) (list_all (are_other_hops t) (takings (world_after_event w e) events))
    (others_of w p e t h (taken_in w e) (taking_in w e))
    (others (world_after_event w e) (event_holds w e p) t (taken_grows w.cores (world_after_event w e).cores (event_grows w e) t h) events)

pub once_in : {A : Type 0} → (w : World A) → Holds w.cores w.frames → (events : List (RingEvent A)) → all_pairs are_other_hops (takings w events) ≡ true
once_in w p [] = refl
once_in {A} w p (e ∷ events) =
    let rest = takings (world_after_event w e) events in
    let after = event_holds w e p in
    elim (taking_in w e) [
      | inl none ↦ subst (λ ts. all_pairs are_other_hops (ts ++ rest) ≡ true) (sym none) (once_in (world_after_event w e) after events)
      | inr one ↦ subst (λ ts. all_pairs are_other_hops (ts ++ rest) ≡ true) (sym one.1)
          (and_from (list_all (are_other_hops one.0) rest) (all_pairs are_other_hops rest)
          (others (world_after_event w e) after one.0 (new_taken w p e one.0 one.2) events)
          (once_in (world_after_event w e) after events))
    ]

-- All five facts of the commit token's rounds
pub rounds_of_runs : {A : Type 0} → (n : ℕ) (events : List (RingEvent A)) → CommitRounds (unformed n) events
rounds_of_runs n events =
    record {
      rings = all_rise n events;
      hops = hops_of_runs (run (unformed n) events) (unformed_holds n events);
      members = members_of_runs (run (unformed n) events) (unformed_holds n events);
      taken = all_taken (unformed n) events;
      once = once_in (unformed n) (opening_holds n) events;
    }
