-- At the end of each step a ring that is ready is installed: in Recovery the step tries it last, and for the other
-- rings nothing changes.
use Rattle.std.proofs.Common.{◌≡◌, ℕ, ◌<◌, ◌≤◌, ◌⊎◌, inl, inr, Bool, true, false, ◌&&◌, List, [], ◌∷◌, ◌++◌, refl, ap, sym, ◌∙◌, subst, arith, mod-lt}
use Rattle.std.specs.Prelude.{filter_map}
use Rattle.std.proofs.Math.Path.{fun_ext}
use Rattle.std.proofs.lemmas.Bool.{cases_Bool, and_parts, false≢true}
use Rattle.ring_base.specs.Numbers.{numbers_from}
use Rattle.ring_base.specs.Processors.{at, size}
use Rattle.ring_base.specs.Rings.{same_ring}
use Rattle.ring_base.specs.declared.ring_id.RingId.{RingId}
use Rattle.ring_base.specs.declared.state.State.TheVariants.{Gather, Recovery, Operational}
use Rattle.ring_wire.specs.declared.commit.CommitToken.{CommitToken}
use Rattle.ring_wire.specs.declared.frame.Frame.{Frame}
use Rattle.ring_wire.specs.declared.message.Message.{Message}
use Rattle.ring_core_spec.specs.Windows.{found, front_of}
use Rattle.ring_base.proofs.SameRing.{ring_same, same-self}
use Rattle.ring_core_spec.specs.Commits.{position_of_hop, Configuration}
use Rattle.ring_core_spec.specs.Recoveries.{is_complete, in_front, is_ready, is_ready_by}
use Rattle.ring_core_spec.specs.declared.input.Input.{Input}
use Rattle.ring_core_spec.specs.declared.input.Input.TheVariants.{Frame as FrameInput}
use Rattle.ring_core_spec.specs.declared.out.Out.{Out}
use Rattle.ring_core_spec.specs.State.{Core, TransitionResult, floor}
use Rattle.ring_core_spec.specs.Views.{mark, plan}
use Rattle.ring_core_spec.specs.Transitions.{old_ring_messages, transition_and_proposal, may_propose_after, with_proposal_if}
use Rattle.ring_core_spec.specs.Deciding.{decide}
use Rattle.ring_core_spec.specs.Giving.{may_install, installs_in, ready_then_complete, with_installation_if, sent, agreed_and_safe_of_step}
use Rattle.ring_core_spec.specs.Joining.{proposes}
use Rattle.ring_core_spec.specs.Stepping.{ring_step}
use Rattle.ring_core_proof.specs.FactWords.{IsIn}
use Rattle.ring_core_proof.specs.Moves.{Move, Idles, Enters, Learns, Visits, Takes, Installs, core_after_move, move_result, MayMove, MayEnter, MayTake}
use Rattle.ring_core_proof.proofs.Causes.{caused}
use Rattle.ring_core_proof.proofs.Guards.{guarded}
use Rattle.ring_core_proof.proofs.InLists.{in-each}
use Rattle.ring_core_proof.proofs.Rises.{Rising, moved_rises, one_ring, runs_in, below_floor}
use Rattle.ring_core_proof.proofs.StepsAreMoves.{move_of, acted, asked_by, may_act, may_propose, proposed_token}
use Rattle.ring_chain_proof.proofs.FactsGrow.{moved_grows}
use Rattle.ring_chain_proof.proofs.OtherRings.{front_other, raises_other, gives_other}
use Rattle.ring_core_proof.proofs.OwnEverywhere.{Holds, moved_holds}
use Rattle.ring_core_proof.proofs.OwnRings.{newest_in}
use Rattle.ring_synchrony_proof.proofs.Keeps.{IsSameOf, IsStill, all_same, visited_same, found_past, other_not, still_of}
use Rattle.ring_synchrony_proof.proofs.Unwrapped.{ready_ends}
use Rattle.ring_synchrony_proof.specs.InstallReadiness.{ReadyIsComplete, ReadyIsInstalled}
use Rattle.ring_synchrony_proof.proofs.Complete.{member_place}

-- a ring that is ready is installed, or it is the one in Recovery
abbrev pub ReadyOrRecovers : {A : Type 0} → Core A → Type 0
ReadyOrRecovers c =
    (x : Configuration) → IsIn x c.rings → 0 < x.ring.seq → is_ready c.held x.ring x.members (mark c x.ring) ≡ true →
    IsIn x c.installs ⊎ ((c.state ≡ Recovery) × (x ≡ c.running))

-- a ring for which nothing changes
ready_same : {A : Type 0} → (ring : RingId) (members : ℕ) (c d : Core A) → IsSameOf ring c d →
    is_ready d.held ring members (mark d ring) ≡ is_ready c.held ring members (mark c ring)
ready_same {A} ring members c d s =
    let front : in_front d.held ring ≡ in_front c.held ring =
    ap (λ n. filter_map (found d.held ring) (numbers_from 1 n)) s.front_is
    ∙ ap (λ f. filter_map f (numbers_from 1 (front_of c.held ring))) (fun_ext s.found_is) in
    ap (λ (xs : List (Message A)). is_ready_by xs members (mark d ring)) front ∙ ap (is_ready_by (in_front c.held ring) members) s.mark_is

ring_or : (a b : RingId) → (a ≡ b) ⊎ (a ≡ b → ⊥)
ring_or a b =
    elim (cases_Bool (same_ring a b)) [
      | inl t ↦ inl (ring_same a b t)
      | inr f ↦ inr (λ e. false≢true (sym f ∙ subst (λ r. same_ring a r ≡ true) e (same-self a)))
    ]

-- Each move but an installation

module _ {A : Type 0} (received : Frame A → Type 0) (c : Core A) (me : 1 ≤ c.me) (rises : Rising c) (local : Holds c) (ready : ReadyIsInstalled c) where
  installed_in : IsIn c.installed c.installs
  installed_in = newest_in c.installed c.installs ((local.rings).last)

  -- a ring of that number is the installed one
  is_installed : (x : Configuration) → IsIn x c.rings → x.ring.seq ≡ c.installed.ring.seq → IsIn x c.installs
  is_installed x i e =
      let there : IsIn c.installed c.rings = in-each (λ p. IsIn p c.rings) c.installed c.installs ((local.rings).taken_part) installed_in in
      let same : x ≡ c.installed = one_ring c rises x c.installed i there e in
      subst (λ (p : Configuration). IsIn p c.installs) (sym same) installed_in

  is_running : (x : Configuration) → IsIn x c.rings → x.ring ≡ c.running.ring → x ≡ c.running
  is_running x i e = one_ring c rises x c.running i (runs_in c rises) (ap (λ (r : RingId). r.seq) e)

  running_or : (x : Configuration) → IsIn x c.rings → x.ring ≡ c.running.ring → (c.state ≡ Recovery) ⊎ (c.state ≡ Operational) →
      IsIn x c.installs ⊎ ((c.state ≡ Recovery) × (x ≡ c.running))
  running_or x i e (inl r) = inr (r, is_running x i e)
  running_or x i e (inr o) =
      (let same : c.running ≡ c.installed = (local.rings).operating o in
      inl (is_installed x i (ap (λ (r : RingId). r.seq) e ∙ ap (λ (p : Configuration). p.ring.seq) same)))

  -- nothing is held of a ring that the core enters
  entered_not : (k : CommitToken) → MayEnter received c k →
      is_ready (core_after_move c (Enters k)).held k.ring k.members (mark (core_after_move c (Enters k)) k.ring) ≡ true → ⊥
  entered_not k h t =
      let d = core_after_move c (Enters k) in
      let first = h.first me in
      let some : 0 < size k.members = omega (arith, first) in
      let end = ready_ends d t (at k.members (position_of_hop k)) (member_place k.members (position_of_hop k) (mod-lt k.hop some)) in
      let among = in-each _ end.message c.held ((local.facts).held) end.held in
      let low : (end.message).ring.seq ≤ floor c = below_floor c rises (record { ring = (end.message).ring; members = among.0 }) among.1 in
      let q : (end.message).ring.seq ≡ k.ring.seq = ap (λ (r : RingId). r.seq) end.ring_is in
      let above = h.above in
      omega (arith, low, q, above)

  took_ready : (x : Message A) → MayTake received c x → ReadyOrRecovers (core_after_move c (Takes x))
  took_ready x h p i l t =
      elim (ring_or p.ring c.installed.ring) [
        | inl e ↦ inl (is_installed p i (ap (λ (r : RingId). r.seq) e))
        | inr other ↦ elim (h.ring) [
          | inl from ↦ elim (ring_or p.ring c.running.ring) [
            | inl e ↦ running_or p i e from.state
            | inr away ↦ inl (ready p i l (sym (ready_same p.ring p.members c (core_after_move c (Takes x)) (same_of (λ e. away (sym e ∙ from.ring)) other)) ∙ t))
          ]
          | inr late ↦ inl (ready p i l (sym (ready_same p.ring p.members c (core_after_move c (Takes x)) (same_of (λ e. other (sym e ∙ late.ring)) other)) ∙ t))
        ]
      ]
    where
      same_of : (x.ring ≡ p.ring → ⊥) → (p.ring ≡ c.installed.ring → ⊥) → IsSameOf p.ring c (core_after_move c (Takes x))
      same_of away other =
          let more = old_ring_messages c.state c x in
          let others = gives_other c.state c x p.ring other in
          record {
            found_is = λ n. found_past more (x ∷ c.held) p.ring n (other_not p.ring n more others)
                ∙ found_past (x ∷ []) c.held p.ring n (other_not p.ring n (x ∷ []) (away, tt));
            front_is = front_other more (x ∷ c.held) p.ring others ∙ front_other (x ∷ []) c.held p.ring (away, tt);
            mark_is = refl;
          }

  pub moved_ready : (m : Move A) → MayMove received c m → IsStill m → ReadyOrRecovers (core_after_move c m)
  moved_ready (Idles state gathering last_sent queue sends) h still p i l t = inl (ready p i l t)
  moved_ready (Enters k) h still p (inl e) l t =
      absurd
      (entered_not k h (subst (λ (x : Configuration). is_ready (core_after_move c (Enters k)).held x.ring x.members (mark (core_after_move c (Enters k)) x.ring) ≡ true) e t))
  moved_ready (Enters k) h still p (inr i) l t = inl (ready p i l t)
  moved_ready (Learns k) h still p i l t =
      elim (ring_or p.ring c.installed.ring) [
        | inl e ↦ inl (is_installed p i (ap (λ (r : RingId). r.seq) e))
        | inr other ↦ inl (ready p i l (sym (ready_same p.ring p.members c (core_after_move c (Learns k))
            (all_same p.ring c (core_after_move c (Learns k)) refl (raises_other {A = A} _ c.turns c.raises p.ring (λ e. other (sym e))))) ∙ t))
      ]
  moved_ready (Visits s fresh requests again queue) h still p i l t =
      elim (ring_or p.ring c.running.ring) [
        | inl e ↦ running_or p i e h.state
        | inr away ↦ inl (ready p i l (sym (ready_same p.ring p.members c (core_after_move c (Visits s fresh requests again queue))
            (visited_same c s fresh requests again queue p.ring (λ e. away (sym e ∙ h.ring)))) ∙ t))
      ]
  moved_ready (Takes x) h still p i l t = took_ready x h p i l t
  moved_ready Installs h still p i l t = absurd still

-- A step

then_proposed : {A : Type 0} → (c : Core A) (m : Move A) → 1 ≤ (core_after_move c m).me → Rising (core_after_move c m) → Holds (core_after_move c m) → ReadyOrRecovers (core_after_move c m) →
    (b : Bool) →
    (b ≡ true → proposes (core_after_move c m) ≡ true) → ReadyOrRecovers (with_proposal_if b (move_result c m)).core
then_proposed c m me rises local r false p = r
then_proposed {A} c m me rises local r true p =
    let d = core_after_move c m in
    let received : Frame A → Type 0 = λ frame. Unit {0} in
    let may = may_propose received d (p refl) in
    moved_ready received d me rises local
    (λ x i l t. elim (r x i l t) [ inl k ↦ k | inr (s, e) ↦ absurd (let q : Gather ≡ Recovery = sym may.state ∙ s in let n : ⊥ = cc in n) ])
    (Enters (proposed_token d)) may tt

done_ready : {A : Type 0} → (c : Core A) (input : Input A) → 1 ≤ c.me → Rising c → Holds c → ReadyIsInstalled c → ReadyOrRecovers (transition_and_proposal c (decide c input)).core
done_ready {A} c input me rises local ready =
    let a = decide c input in
    let m = move_of c a in
    let received : Frame A → Type 0 = λ frame. input ≡ FrameInput frame in
    let may : MayMove received c m = may_act c input a (guarded c input) (caused c input) (asked_by c input a refl (caused c input)) in
    let same : (core_after_move c m).me ≡ c.me = (moved_grows c m).me in
    let first : ReadyOrRecovers (core_after_move c m) = moved_ready received c me rises local ready m may (still_of c a) in
    subst (λ (d : TransitionResult A). ReadyOrRecovers (with_proposal_if (may_propose_after a && proposes d.core) d).core) (sym (acted c a))
    (then_proposed c m (omega (arith, me, same)) (moved_rises received c m may rises)
    (moved_holds received c m may local) first (may_propose_after a && proposes (core_after_move c m)) (λ e. (and_parts (may_propose_after a) (proposes (core_after_move c m)) e).1))

may_of : {A : Type 0} → (d : Core A) → d.state ≡ Recovery → is_ready d.held d.running.ring d.running.members (mark d d.running.ring) ≡ true →
    is_complete (plan d) d.held ≡ true →
    may_install d ≡ true
may_of d s r k = subst (λ t. installs_in t d ≡ true) (sym s) (subst (λ b. ready_then_complete b d ≡ true) (sym r) k)

settled_ready : {A : Type 0} → (b : Bool) (d : Core A) (outs : List (Out A)) → may_install d ≡ b → ReadyOrRecovers d → ReadyIsComplete (with_installation_if b d outs).core →
    ReadyIsInstalled (with_installation_if b d outs).core
settled_ready false d outs e r whole x i l t =
    elim (r x i l t) [
      | inl k ↦ k
      | inr (s, same) ↦ absurd (let now = subst (λ (x : Configuration). is_ready d.held x.ring x.members (mark d x.ring) ≡ true) same t in
          false≢true (sym e ∙ may_of d s now (whole s now)))
    ]
settled_ready true d outs e r whole x i l t = elim (r x i l t) [ inl k ↦ inr k | inr (s, same) ↦ inl same ]

pub step_ready : {A : Type 0} → (c : Core A) (input : Input A) → 1 ≤ c.me → Rising c → Holds c → ReadyIsInstalled c → ReadyIsComplete (ring_step c input).core →
    ReadyIsInstalled (ring_step c input).core
unfolding ring_step
step_ready {A} c input me rises local ready whole =
    let d = transition_and_proposal c (decide c input) in
    settled_ready (may_install d.core) d.core (sent d.sends ++ agreed_and_safe_of_step c d.core) refl (done_ready c input me rises local ready) whole
