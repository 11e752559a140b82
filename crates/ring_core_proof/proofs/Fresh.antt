-- The new messages of each visit: in Operational those made of a queue, in Recovery the Wrapped and the End.
use Rattle.std.proofs.Common.{◌≡◌, ℕ, ◌≤◌, Bool, true, false, ◌&&◌, List, [], ◌∷◌, ◌++◌, length, refl, sym, ap, subst, ◌∙◌, inl, inr, ◌⊎◌, arith, append_assoc}
use Rattle.std.specs.Prelude.{reverse}
use Rattle.ring_base.specs.declared.ring_id.RingId.{RingId}
use Rattle.ring_base.specs.declared.state.State.{State}
use Rattle.ring_base.specs.declared.state.State.TheVariants.{Gather, Commit, Recovery, Operational, Stopped}
use Rattle.ring_base.proofs.Each.{each-weaker, each-push}
use Rattle.ring_payload.specs.declared.content.Payload.{Payload}
use Rattle.ring_payload.specs.Packing.{is_queued, AreQueued}
use Rattle.ring_wire.specs.declared.message.Message.{Message}
use Rattle.ring_wire.specs.declared.token.Token.{Token}
use Rattle.ring_core_spec.specs.Tokens.{TokenVisit}
use Rattle.ring_core_spec.specs.declared.input.Input.{Input}
use Rattle.ring_core_spec.specs.declared.out.Out.{Out}
use Rattle.ring_core_spec.specs.State.{Core, TransitionResult, opening}
use Rattle.ring_core_spec.specs.Views.{plan}
use Rattle.ring_core_spec.specs.Visiting.{accepts, room_at, payloads_to_send, new_payloads, new_messages, held_after, turn_of}
use Rattle.ring_core_spec.specs.Joining.{proposes}
use Rattle.ring_core_spec.specs.Giving.{with_installation_if}
use Rattle.ring_core_spec.specs.Deciding.{Transition, Ignore, Enqueue, Repeat, Announce, Invite, GiveUp, EnterGather, Agree, MergeJoin}
use Rattle.ring_core_spec.specs.Deciding.{EnterGatherAndAgree, EnterGatherAndMergeJoin, Take, Visit, Fill, Learn, decide}
use Rattle.ring_core_spec.specs.Transitions.{old_ring_messages, apply_transition, may_propose_after, with_proposal_if}
use Rattle.ring_core_spec.specs.Stepping.{ring_step, after_inputs}
use Rattle.ring_core_spec.proofs.States.{accepted_ring}
use Rattle.ring_core_proof.specs.LawConditions.{HasPassed, AreOfQueue, AreOfRecovery, IsFreshOf, AreFreshOf}
use Rattle.ring_core_proof.proofs.Guards.{guarded}
use Rattle.ring_core_proof.proofs.StepsAreMoves.{fresh_few, queue_each}
use Rattle.ring_core_proof.proofs.KeptByMoves.{IsStepKept, after_all}

-- the queue holds only payloads that a send queues, and each visit's new messages are made in one of the two ways
pub record IsMade {A : Type 0} (me : ℕ) (held : List (Message A)) (queue : List (Payload A)) (turns : List (TokenVisit A)) : Type 0 where
  pub queued : AreQueued queue
  pub fresh : AreFreshOf me held turns

abbrev pub Made : {A : Type 0} → Core A → Type 0
Made c = IsMade c.me c.held c.queue c.turns

-- More messages keep it

still_recovered : {A : Type 0} → (me : ℕ) (ring : RingId) (xs held : List (Message A)) (fresh : List (Payload A)) → AreOfRecovery me ring held fresh →
    AreOfRecovery me ring (xs ++ held) fresh
still_recovered me ring xs held fresh r =
    record {
      count = r.count;
      plan = r.plan;
      later = xs ++ r.later;
      before = r.before;
      grown = append_assoc xs r.later r.before ∙ ap (λ ys. xs ++ ys) r.grown;
      made = r.made;
    }

still_either : {A : Type 0} → (me : ℕ) (ring : RingId) (xs held : List (Message A)) (fresh : List (Payload A)) →
    AreOfQueue fresh ⊎ AreOfRecovery me ring held fresh → AreOfQueue fresh ⊎ AreOfRecovery me ring (xs ++ held) fresh
still_either me ring xs held fresh h = elim h [ inl q ↦ inl q | inr r ↦ inr (still_recovered me ring xs held fresh r) ]

still_fresh : {A : Type 0} → (me : ℕ) (xs held : List (Message A)) (turns : List (TokenVisit A)) → AreFreshOf me held turns → AreFreshOf me (xs ++ held) turns
still_fresh {A} me xs held turns h =
    each-weaker (IsFreshOf me held) (IsFreshOf me (xs ++ held))
    (λ (v : TokenVisit A) f. record { few = f.few; numbered = f.numbered; made = still_either me v.received.ring xs held v.fresh f.made }) turns h

-- Visits

offered : {A : Type 0} → (s : State) (c : Core A) (xs : List (Message A)) (count : ℕ) → AreQueued c.queue →
    AreOfQueue (payloads_to_send s c count) ⊎ AreOfRecovery c.me c.running.ring (xs ++ c.held) (payloads_to_send s c count)
offered Operational c xs count q = inl (record { count = count; queue = c.queue; queued = q; made = refl })
offered Recovery c xs count q = inr (record { count = count; plan = plan c; later = xs; before = c.held; grown = refl; made = refl })
offered Gather c xs count q = inl (record { count = 0; queue = []; queued = tt; made = refl })
offered Commit c xs count q = inl (record { count = 0; queue = []; queued = tt; made = refl })
offered Stopped c xs count q = inl (record { count = 0; queue = []; queued = tt; made = refl })

fresh_of : {A : Type 0} → (c : Core A) (t : Token) → accepts c t ≡ true → AreQueued c.queue → IsFreshOf c.me (held_after c t) (turn_of c t)
fresh_of {A} c t a q =
    let few : length (new_payloads c t) ≤ room_at c t = fresh_few c t in
    record {
      few = omega arith;
      numbered = omega arith;
      made = subst (λ (r : RingId). AreOfQueue (new_payloads c t) ⊎ AreOfRecovery c.me r (held_after c t)
          (new_payloads c t)) (sym (accepted_ring c t a)) (offered c.state c (reverse (new_messages c t))
          (room_at c t) q);
    }

-- Each transition, and a step

act_made : {A : Type 0} → (c : Core A) (a : Transition A) → HasPassed c a → Made c → Made (apply_transition c a).core
act_made c Ignore g m = m
act_made c (Enqueue p) g m = record { queued = each-push (λ (p : Payload _). is_queued p ≡ true) c.queue p m.queued g.1; fresh = m.fresh }
act_made c Repeat g m = m
act_made c Announce g m = m
act_made c Invite g m = m
act_made c GiveUp g m = m
act_made c EnterGather g m = record { queued = tt; fresh = m.fresh }
act_made c (Agree j) g m = m
act_made c (MergeJoin j) g m = m
act_made c (EnterGatherAndAgree j) g m = record { queued = tt; fresh = m.fresh }
act_made c (EnterGatherAndMergeJoin j) g m = record { queued = tt; fresh = m.fresh }
act_made c (Take x) g m =
    record { queued = m.queued; fresh = still_fresh c.me (old_ring_messages c.state c x) (x ∷ c.held) c.turns (still_fresh c.me (x ∷ []) c.held c.turns m.fresh) }
act_made c (Visit t) g m =
    record {
      queued = queue_each (λ (p : Payload _). is_queued p ≡ true) c.state (room_at c t) c.queue m.queued;
      fresh = (fresh_of c t g.1 m.queued, still_fresh c.me (reverse (new_messages c t)) c.held c.turns m.fresh);
    }
act_made c (Fill k) g m = m
act_made c (Learn k) g m = m

proposed_made : {A : Type 0} → (b : Bool) (did : TransitionResult A) → Made did.core → Made (with_proposal_if b did).core
proposed_made false did m = m
proposed_made true did m = m

settled_made : {A : Type 0} → (b : Bool) (c : Core A) (outs : List (Out A)) → Made c → Made (with_installation_if b c outs).core
settled_made false c outs m = m
settled_made true c outs m = m

step_made : {A : Type 0} → (c : Core A) (input : Input A) → Made c → Made (ring_step c input).core
unfolding ring_step
step_made c input m =
    settled_made _ _ _ (proposed_made (may_propose_after (decide c input) && proposes
    (apply_transition c (decide c input)).core) _ (act_made c (decide c input) (guarded c input) m))

pub making : {A : Type 0} → IsStepKept (Made {A = A})
making = record { steps = step_made; stops = λ c m. m }

pub opening_made : {A : Type 0} → (n me : ℕ) → Made (opening {A = A} n me)
opening_made n me = record { queued = tt; fresh = tt }

pub all_made : {A : Type 0} → (n me : ℕ) (inputs : List (Input A)) →
    AreFreshOf (after_inputs (opening n me) inputs).me (after_inputs (opening n me) inputs).held (after_inputs (opening n me) inputs).turns
all_made n me inputs = (after_all Made making (opening n me) inputs (opening_made n me)).fresh
