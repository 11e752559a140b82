-- Each transition of a core keeps the limits, where the frame that arrived keeps them; so do a proposal, an
-- installation, and a step.
use Rattle.std.proofs.Common.{◌≡◌, ◌+◌, ◌%◌, ◌^◌, ◌<◌, ◌≤◌, min, inl, inr, Bool, true, false, ◌&&◌, ◌==◌, List, [], ◌∷◌}
use Rattle.std.proofs.Common.{◌++◌, length, Option, Some, None, refl, ap, sym, subst, arith, length-take, mod-lt}
use Rattle.std.specs.Prelude.{nat_lt, nat_le, reverse, not, take}
use Rattle.std.specs.List.{AllByRecursion as Each}
use Rattle.std.proofs.lemmas.Bool.{cond_both, and_parts, eqb-true, ltb-true, leb-true}
use Rattle.ring_base.proofs.Taking.{smallest_some}
use Rattle.ring_base.specs.Numbers.{max_number, merged_ascending}
use Rattle.ring_base.specs.Processors.{IsMember, nobody, only, everybody, size, smallest, less}
use Rattle.ring_base.specs.Members.{everybody_members}
use Rattle.ring_base.specs.Elements.{at_member}
use Rattle.ring_base.specs.Rings.{same_ring}
use Rattle.ring_base.specs.declared.ring_id.RingId.{RingId}
use Rattle.ring_base.specs.declared.state.State.TheVariants.{Operational}
use Rattle.ring_base.proofs.Each.{each-weaker, each-append, each-push, each-map, each-reverse, each-filter}
use Rattle.ring_payload.specs.PayloadKinds.{is_user}
use Rattle.ring_payload.specs.Payloads.{PayloadFits}
use Rattle.ring_payload.proofs.Packing.{packed_payloads-fits}
use Rattle.ring_payload.specs.declared.content.Payload.{Payload}
use Rattle.ring_wire.specs.Commits.{CommitFits}
use Rattle.ring_wire.specs.Frames.{FrameFits}
use Rattle.ring_wire.specs.Joins.{JoinFits}
use Rattle.ring_wire.specs.Messages.{MessageFits}
use Rattle.ring_wire.specs.Tokens.{TokenFits}
use Rattle.ring_wire.specs.declared.commit.CommitToken.{CommitToken}
use Rattle.ring_wire.specs.declared.frame.Frame.{Frame}
use Rattle.ring_wire.specs.declared.frame.Frame.TheVariants.{Message as MessageFrame}
use Rattle.ring_wire.specs.declared.join.Join.{Join}
use Rattle.ring_wire.specs.declared.message.Message.{Message}
use Rattle.ring_wire.specs.declared.token.Token.{Token}
use Rattle.ring_core_spec.specs.Windows.{holds, highest, missing}
use Rattle.ring_core_spec.specs.Tokens.{is_newer, requests_left}
use Rattle.ring_core_spec.specs.Joins.{Gathering, gathering_opening, with_agreement, join_merged, silent_given_up, candidates, new_number, has_consensus}
use Rattle.ring_core_spec.specs.Commits.{receiver, hop_with_entries}
use Rattle.ring_core_spec.specs.declared.input.Input.{Input}
use Rattle.ring_core_spec.specs.declared.input.Input.TheVariants.{Frame as FrameInput}
use Rattle.ring_core_spec.specs.declared.out.Out.{Out}
use Rattle.ring_core_spec.specs.declared.out.Out.TheVariants.{Send as SendOut, Agreed, Safe, Trans, Rest, Regular}
use Rattle.ring_core_spec.specs.State.{Core, OutgoingFrame, TransitionResult, floor}
use Rattle.ring_core_spec.specs.Views.{mark, own_entry}
use Rattle.ring_core_spec.specs.Visiting.{payloads_to_send, room_at, new_payloads, new_messages, messages_sent_again, held_after, requests_of, token_forwarded, to_others, to_next}
use Rattle.ring_core_spec.specs.Joining.{first_procs, gather_entered, with_gathering, join_announcement, proposes, proposes_in}
use Rattle.ring_core_spec.specs.CommitSteps.{commit_sent_on, ring_joined, after_proposal}
use Rattle.ring_core_spec.specs.Giving.{sends_with_receivers, sent, may_install, install, agreed_and_safe_of_step, installation_outputs, with_installation_if}
use Rattle.ring_core_spec.specs.Deciding.{Transition, Ignore, Enqueue, Repeat, Announce, Invite, GiveUp, EnterGather, Agree, MergeJoin}
use Rattle.ring_core_spec.specs.Deciding.{EnterGatherAndAgree, EnterGatherAndMergeJoin, Take, Visit, Fill, Learn, decide}
use Rattle.ring_core_spec.specs.Transitions.{old_ring_messages, last_sent_repeated, apply_transition, may_propose_after, with_proposal_if, transition_and_proposal}
use Rattle.ring_core_spec.specs.Stepping.{ring_step}
use Rattle.ring_core_proof.specs.FactWords.{IsIn}
use Rattle.ring_core_proof.specs.LawConditions.{HasPassed, IsInputOf}
use Rattle.ring_core_proof.specs.Moves.{Enters, Learns, Takes, MayEnter, MayMove}
use Rattle.ring_core_proof.specs.WindowBounds.{HasRingOrder}
use Rattle.ring_core_proof.proofs.Causes.{caused}
use Rattle.ring_core_proof.proofs.Ended.{installed_below, moved_placed}
use Rattle.ring_core_proof.proofs.WithinWindow.{moved_fits}
use Rattle.ring_core_proof.proofs.Guards.{guarded}
use Rattle.ring_core_proof.proofs.Lifting.{IsTold, told_from, told_configured}
use Rattle.ring_core_proof.proofs.InLists.{in-each}
use Rattle.ring_core_proof.proofs.StepsAreMoves.{move_of, IsAsked, asked_by, may_act, may_propose, may_installs, proposed_token}
use Rattle.ring_core_proof.proofs.StepsAreMoves.{fresh_few, queue_each, all_repeats}
use Rattle.ring_core_proof.proofs.VisitsByRules.{front_within}
use Rattle.ring_core_proof.specs.Limits.{InputFits, OutFits, GatheringFits, QueueFits, CoreFits, SentFits}
use Rattle.ring_core_proof.proofs.SetLimits.{everybody_lt, less_le, entered_fits, agreed_fits, given_up_fits, widened_fits, widens_other, join_fits}
use Rattle.ring_core_proof.proofs.SetLimits.{invite_fits}
use Rattle.ring_core_proof.proofs.ReportLimits.{entry_fits, entry_reports}
use Rattle.ring_core_proof.proofs.CommitLimits.{filled_fits, learned_fits, proposal_fits}
use Rattle.ring_core_proof.proofs.TokenLimits.{MayGo, came_goes, first_goes, requests_climb, token_fits}
use Rattle.ring_core_proof.proofs.MessageLimits.{MayCarry, numbered_fit, users_carry, wraps_carry, gives_fit}

pub record ActFits {A : Type 0} (d : TransitionResult A) : Type 0 where
  pub core : CoreFits d.core
  pub sends : Each SentFits d.sends

-- a frame that is sent and becomes the kept token
one_shown : {A : Type 0} → (u s : OutgoingFrame A) → FrameFits u.frame → Some u ≡ Some s → FrameFits s.frame
one_shown u s f e = (let same : u ≡ s = cc in subst SentFits same f)

-- Joins

module _ {A : Type 0} (c : Core A) (f : CoreFits c) where
  floor_most : floor c ≤ max_number
  floor_most = f.running.ring.seq

  with_sets : (g : Gathering) → GatheringFits c.me g → CoreFits (with_gathering c g)
  with_sets g h =
      record {
        me = f.me;
        among = f.among;
        total = f.total;
        running = f.running;
        installed = f.installed;
        own = f.own;
        gathering = h;
        queue = f.queue;
        held = f.held;
        last_sent = f.last_sent;
        window = f.window;
        placed = record { stands = f.placed.stands; turns = f.placed.turns };
      }

  announced_fits : SentFits (join_announcement c)
  announced_fits = join_fits c.me (floor c) c.gathering f.me floor_most f.gathering

  first_fits : GatheringFits c.me (gathering_opening (first_procs c))
  first_fits =
      cond_both (c.installed.ring.seq == 0) (everybody c.total) c.installed.members (λ set. GatheringFits c.me (gathering_opening set))
      (λ e. entered_fits c.me (everybody c.total) (everybody_lt c.total f.total) ((everybody_members c.total c.me).1 (f.me.0, f.among)))
      (λ e. entered_fits c.me c.installed.members f.installed.members f.installed.mine)

  regathered_fits : CoreFits (gather_entered c)
  regathered_fits =
      record {
        me = f.me;
        among = f.among;
        total = f.total;
        running = f.running;
        installed = f.installed;
        own = f.own;
        gathering = first_fits;
        queue = record { each = tt; users = tt };
        held = f.held;
        last_sent = λ s e. absurd (let x : ⊥ = cc in x);
        window = f.window;
        placed = record { stands = installed_below c.state c.running c.installed c.turns f.placed.stands; turns = f.placed.turns };
      }

-- other sets, and a join that carries them
joins : {A : Type 0} → (c : Core A) → CoreFits c → (g : Gathering) → GatheringFits c.me g →
    ActFits (record { core = with_gathering c g; sends = join_announcement (with_gathering c g) ∷ [] })
joins c f g h = record { core = with_sets c f g h; sends = (announced_fits (with_gathering c g) (with_sets c f g h), tt) }

-- Messages and tokens

module _ {A : Type 0} (c : Core A) (f : CoreFits c) where
  taken_fits : (received : Frame A → Type 0) (x : Message A) → MessageFits x → MayMove received c (Takes x) → CoreFits (apply_transition c (Take x)).core
  taken_fits received x h v =
      let p = moved_placed received c (Takes x) v f.placed in
      record {
        me = f.me;
        among = f.among;
        total = f.total;
        running = f.running;
        installed = f.installed;
        own = f.own;
        gathering = f.gathering;
        queue = f.queue;
        held = each-append MessageFits (old_ring_messages c.state c x) (x ∷ c.held) (gives_fit c.state c x h.payload) (h, f.held);
        last_sent = f.last_sent;
        window = moved_fits received c (Takes x) v f.window;
        placed = record { stands = p.stands; turns = p.turns };
      }

  module _ (received : Frame A → Type 0) (t : Token) (goes : MayGo t) (v : MayMove received c (move_of c (Visit t))) where
    abbrev fresh : List (Payload A)
    fresh = new_payloads c t

    room_kept : t.seq + length fresh ≤ max_number
    room_kept = (let few = fresh_few c t in let seq : t.seq ≤ max_number = goes.seq in omega (arith, few, seq))

    queued_carry : c.state ≡ Operational → Each PayloadFits fresh
    queued_carry o = subst (λ s. Each PayloadFits (payloads_to_send s c (room_at c t))) (sym o) (packed_payloads-fits (room_at c t) c.queue f.queue.each)

    carry : Each (MayCarry t.ring) fresh
    carry =
        elim (v.state) [
          | inl r ↦ (let below : c.installed.ring.seq < floor c = subst (λ s. HasRingOrder s c.running c.installed c.turns) r f.placed.stands in
              let same : t.ring.seq ≡ floor c = ap (λ (r : RingId). r.seq) v.ring in
              wraps_carry c t.ring fresh f.held (omega arith) (v.wraps r))
          | inr o ↦ users_carry t.ring fresh (queued_carry o) (v.users o f.queue.users)
        ]

    new_fit : Each MessageFits (new_messages c t)
    new_fit = numbered_fit t.ring c.me t.seq fresh goes.ring goes.ring_counted f.me room_kept carry

    again_fit : Each MessageFits (messages_sent_again c t)
    again_fit = each-weaker (λ (x : Message A). IsIn x c.held) MessageFits (λ x i. in-each MessageFits x c.held f.held i) (messages_sent_again c t) (all_repeats c t)

    forwarded_fits : TokenFits (token_forwarded c t)
    forwarded_fits =
        let seq = t.seq + length fresh in
        let remaining_requests = requests_left (mark c t.ring) (holds c.held t.ring) t.requests in
        let lacks = missing (held_after c t) t.ring (mark c t.ring) seq in
        let few : length (take 32 (merged_ascending remaining_requests lacks)) ≡ min 32 (length (merged_ascending remaining_requests lacks)) = length-take 32 (merged_ascending remaining_requests lacks) in
        token_fits c.me _ (length fresh) (requests_of c t (held_after c t) seq) t f.me goes (front_within c t fresh v.ahead) room_kept (omega (arith, few))
        (requests_climb (held_after c t) t.ring (mark c t.ring) (holds c.held t.ring) t.requests t.seq seq (omega arith) goes.each)

    pub visited_fits : ActFits (apply_transition c (Visit t))
    visited_fits =
        let p = moved_placed received c (move_of c (Visit t)) v f.placed in
        let xs = messages_sent_again c t ++ new_messages c t in
        record {
          core = record {
            me = f.me;
            among = f.among;
            total = f.total;
            running = f.running;
            installed = f.installed;
            own = f.own;
            gathering = f.gathering;
            queue = record { each = queue_each PayloadFits c.state (room_at c t) c.queue f.queue.each; users = v.queued f.queue.users };
            held = each-append MessageFits (reverse (new_messages c t)) c.held (each-reverse MessageFits (new_messages c t) new_fit) f.held;
            last_sent = λ s e. one_shown (to_next c (token_forwarded c t)) s forwarded_fits e;
            window = moved_fits received c (move_of c (Visit t)) v f.window;
            placed = record { stands = p.stands; turns = p.turns };
          };
          sends = each-append SentFits (to_others c xs) (to_next c (token_forwarded c t) ∷ [])
              (each-map SentFits (λ x. record { to = less c.running.members (only c.me); frame = MessageFrame x }) xs
              (each-append MessageFits (messages_sent_again c t) (new_messages c t) again_fit new_fit))
              (forwarded_fits, tt);
        }

-- Commit tokens

module _ {A : Type 0} (c : Core A) (f : CoreFits c) (received : Frame A → Type 0) (k : CommitToken) where
  own_hop_fits : CommitFits (hop_with_entries k (own_entry c ∷ [])) → k.hop < size k.members → receiver k ≡ c.me → IsMember k.members c.me
  own_hop_fits h l here =
      let some : 0 < size k.members = omega arith in
      subst (IsMember k.members) here (at_member k.members (k.hop % size k.members) (mod-lt k.hop some)).1

  entered_with : MayEnter received c k → CommitFits (hop_with_entries k (own_entry c ∷ [])) → ActFits (ring_joined c (hop_with_entries k (own_entry c ∷ [])))
  entered_with v h =
      let p = moved_placed received c (Enters k) v f.placed in
      record {
        core = record {
          me = f.me;
          among = f.among;
          total = f.total;
          installed = f.installed;
          own = f.own;
          gathering = f.gathering;
          queue = f.queue;
          held = f.held;
          running = record { ring = h.ring; members = h.members; mine = own_hop_fits h (v.first f.me.0) v.here };
          last_sent = λ s e. one_shown (commit_sent_on (hop_with_entries k (own_entry c ∷ []))) s h e;
          window = f.window;
          placed = record { stands = p.stands; turns = p.turns };
        };
        sends = (h, tt);
      }

  above_installed : MayEnter received c k → c.installed.ring.seq < k.ring.seq
  above_installed v =
      let below : c.installed.ring.seq ≤ floor c = installed_below c.state c.running c.installed c.turns f.placed.stands in
      let above : floor c < k.ring.seq = v.above in
      omega arith

  filled_with : MayEnter received c k → CommitFits k → ActFits (apply_transition c (Fill k))
  filled_with v h = entered_with v (filled_fits k c.me (own_entry c) h (v.first f.me.0) v.here (entry_fits c f) (entry_reports c f k.ring (above_installed v)))

  learned_with : MayMove received c (Learns k) → CommitFits k → ActFits (apply_transition c (Learn k))
  learned_with v h =
      let p = moved_placed received c (Learns k) v f.placed in
      let next = learned_fits k h v.second v.last in
      record {
        core = record {
          me = f.me;
          among = f.among;
          total = f.total;
          running = f.running;
          installed = f.installed;
          own = f.own;
          gathering = f.gathering;
          queue = f.queue;
          held = f.held;
          last_sent = λ s e. one_shown (commit_sent_on (hop_with_entries k [])) s next e;
          window = moved_fits received c (Learns k) v f.window;
          placed = record { stands = p.stands; turns = p.turns };
        };
        sends = (next, tt);
      }

-- Each transition

shown_fit : {A : Type 0} → (last_sent : Option (OutgoingFrame A)) → ((s : OutgoingFrame A) → last_sent ≡ Some s → FrameFits s.frame) → Each SentFits (last_sent_repeated last_sent)
shown_fit None h = tt
shown_fit (Some s) h = (h s refl, tt)

-- a token that is visited arrived, or is the first of a ring whose commit token arrived
token_goes : {A : Type 0} → (c : Core A) (input : Input A) (t : Token) → InputFits input → HasPassed c (Visit t) → IsInputOf c input (Visit t) → MayGo t
token_goes {A} c input t w g (inl e) =
    let p = and_parts ((same_ring t.ring c.running.ring && is_newer c.turns t) && nat_lt t.number max_number) (nat_le (highest c.held t.ring) t.seq) g.1 in
    let q = and_parts (same_ring t.ring c.running.ring && is_newer c.turns t) (nat_lt t.number max_number) p.0 in
    came_goes t (subst InputFits e w) (ltb-true t.number max_number q.1)
token_goes {A} c input t w g (inr s) =
    let h : CommitFits s.commit = subst InputFits s.received w in
    subst MayGo (sym s.first) (first_goes s.commit.ring h.ring h.ring_counted)

module _ {A : Type 0} (c : Core A) (f : CoreFits c) (input : Input A) (w : InputFits input) where
  abbrev Came : Frame A → Type 0
  Came frame = input ≡ FrameInput frame

  kept : ActFits (record { core = c; sends = [] })
  kept = record { core = f; sends = tt }

  widens : (d : Core A) → CoreFits d → (j : Join) → JoinFits j → (d.me ≡ j.sender → ⊥) →
      ActFits (record { core = with_gathering d (join_merged d.me d.gathering j); sends = join_announcement (with_gathering d (join_merged d.me d.gathering j)) ∷ [] })
  widens d h j fit other = joins d h (join_merged d.me d.gathering j) (widened_fits d.me d.gathering j other fit h.gathering)

  pushed : (p : Payload A) → PayloadFits p → is_user p ≡ true → QueueFits (c.queue ++ p ∷ [])
  pushed p h u =
      record { each = each-push PayloadFits c.queue p f.queue.each h; users = each-push (λ (p : Payload A). is_user p ≡ true) c.queue p f.queue.users u }

  acted_fits : (a : Transition A) → HasPassed c a → IsInputOf c input a → IsAsked a → MayMove Came c (move_of c a) → ActFits (apply_transition c a)
  acted_fits Ignore g h u v = kept
  acted_fits (Enqueue p) g h u v =
      record {
        core = record {
          me = f.me;
          among = f.among;
          total = f.total;
          running = f.running;
          installed = f.installed;
          own = f.own;
          gathering = f.gathering;
          queue = pushed p (subst InputFits h w) u;
          held = f.held;
          last_sent = f.last_sent;
          window = f.window;
          placed = record { stands = f.placed.stands; turns = f.placed.turns };
        };
        sends = tt;
      }
  acted_fits Repeat g h u v = record { core = f; sends = shown_fit c.last_sent f.last_sent }
  acted_fits Announce g h u v = record { core = f; sends = (announced_fits c f, tt) }
  acted_fits Invite g h u v =
      record { core = f; sends = (invite_fits c.me (floor c) c.running.members f.me (floor_most c f) f.running.members f.running.mine, tt) }
  acted_fits GiveUp g h u v = joins c f (silent_given_up c.me c.gathering) (given_up_fits c.me c.gathering f.me.0 f.gathering)
  acted_fits EnterGather g h u v = record { core = regathered_fits c f; sends = (announced_fits (gather_entered c) (regathered_fits c f), tt) }
  acted_fits (Agree j) g h u v = record { core = with_sets c f (with_agreement c.gathering j) (agreed_fits c.me c.gathering j f.gathering); sends = tt }
  acted_fits (MergeJoin j) g h u v = widens c f j (subst InputFits h w) (widens_other c.me c.gathering j g.1)
  acted_fits (EnterGatherAndAgree j) g h u v =
      joins (gather_entered c) (regathered_fits c f) (with_agreement (gather_entered c).gathering j) (agreed_fits c.me (gather_entered c).gathering j (first_fits c f))
  acted_fits (EnterGatherAndMergeJoin j) g h u v =
      widens (gather_entered c) (regathered_fits c f) j (subst InputFits h w) (widens_other c.me (gather_entered c).gathering j g.effect_is)
  acted_fits (Take x) g h u v = record { core = taken_fits c f Came x (subst InputFits h w) v; sends = tt }
  acted_fits (Visit t) g h u v = visited_fits c f Came t (token_goes c input t w g h) v
  acted_fits (Fill k) g h u v = filled_with c f Came k v (subst InputFits h w)
  acted_fits (Learn k) g h u v = learned_with c f Came k v (subst InputFits h w)

-- A proposal

proposed_fits : {A : Type 0} → (c : Core A) → CoreFits c → proposes c ≡ true → ActFits (after_proposal c)
proposed_fits {A} c f h =
    let v = may_propose (λ (frame : Frame A). Unit {0}) c h in
    let g = c.gathering in
    let number = new_number (floor c) g in
    let k = subst (λ s. proposes_in s c ≡ true) v.state h in
    let p = and_parts (has_consensus c.me g && (smallest (candidates g) == c.me)) (nat_le number max_number) k in
    let q = and_parts (has_consensus c.me g) (smallest (candidates g) == c.me) p.0 in
    let me : smallest (candidates g) ≡ c.me = eqb-true _ _ q.1 in
    let most : number ≤ max_number = leb-true _ _ p.1 in
    let a : candidates g ≤ g.proc_set = less_le g.proc_set g.fail_set in
    let b : g.proc_set < 2 ^ 16 = f.gathering.proc_set in
    entered_with c f (λ frame. Unit {0}) (proposed_token c) v
    (proposal_fits c.me number (candidates g) (own_entry c) f.me (omega arith) most (omega arith) me (smallest_some (candidates g) c.me f.me.0 me)
    (entry_fits c f)
    (entry_reports c f (record { seq = number; rep = c.me }) (above_installed c f (λ frame. Unit {0}) (proposed_token c) v)))

then_proposed : {A : Type 0} → (d : TransitionResult A) (b : Bool) → (b ≡ true → proposes d.core ≡ true) → ActFits d → ActFits (with_proposal_if b d)
then_proposed d false p f = f
then_proposed d true p f =
    (let next = proposed_fits d.core f.core (p refl) in
    record { core = next.core; sends = each-append SentFits d.sends (after_proposal d.core).sends f.sends next.sends })

pub done_fits : {A : Type 0} → (c : Core A) (input : Input A) → CoreFits c → InputFits input → ActFits (transition_and_proposal c (decide c input))
done_fits c input f w =
    let a = decide c input in
    let v = may_act c input a (guarded c input) (caused c input) (asked_by c input a refl (caused c input)) in
    then_proposed (apply_transition c a) (may_propose_after a && proposes (apply_transition c a).core) (λ e. (and_parts (may_propose_after a) (proposes (apply_transition c a).core) e).1)
    (acted_fits c f input w a (guarded c input) (caused c input) (asked_by c input a refl (caused c input)) v)

-- An installation, and the outputs

installed_fits : {A : Type 0} → (c : Core A) → CoreFits c → may_install c ≡ true → CoreFits (install c)
installed_fits c f h =
    let s = (may_installs c h).state in
    let below : c.installed.ring.seq < floor c = subst (λ s. HasRingOrder s c.running c.installed c.turns) s f.placed.stands in
    record {
      me = f.me;
      among = f.among;
      total = f.total;
      running = f.running;
      installed = f.running;
      own = λ z. absurd (omega (arith, z, below));
      gathering = f.gathering;
      queue = f.queue;
      held = f.held;
      last_sent = f.last_sent;
      window = f.window;
      placed = record { stands = refl; turns = f.placed.turns };
    }

told_fits : {A : Type 0} → (o : Out A) → IsTold o → OutFits o
told_fits (SendOut to frame) h = absurd (let e = h 0 in let x : ⊥ = cc in x)
told_fits (Agreed ring n x) h = tt
told_fits (Safe ring upto) h = tt
told_fits (Trans old new set) h = tt
told_fits (Rest ring n x) h = tt
told_fits (Regular ring set) h = tt

sent_fit : {A : Type 0} → (sends : List (OutgoingFrame A)) → Each SentFits sends → Each OutFits (sent sends)
sent_fit sends h = each-map OutFits (λ s. SendOut s.to s.frame) (sends_with_receivers sends) (each-filter SentFits (λ s. not (s.to == nobody)) sends h)

pub record StepFits {A : Type 0} (c : Core A) (given : List (Out A)) : Type 0 where
  pub core : CoreFits c
  pub outs : Each OutFits given

settled_fits : {A : Type 0} → (c : Core A) (outs : List (Out A)) (b : Bool) → (b ≡ true → may_install c ≡ true) → CoreFits c → Each OutFits outs →
    StepFits (with_installation_if b c outs).core (with_installation_if b c outs).outs
settled_fits c outs false i f h = record { core = f; outs = h }
settled_fits c outs true i f h =
    let told = each-weaker IsTold OutFits told_fits (installation_outputs c) (told_configured c) in
    record { core = installed_fits c f (i refl); outs = each-append OutFits outs (installation_outputs c) h told }

pub step_fits : {A : Type 0} → (c : Core A) (input : Input A) → CoreFits c → InputFits input → StepFits (ring_step c input).core (ring_step c input).outs
unfolding ring_step
step_fits c input f w =
    let d = transition_and_proposal c (decide c input) in
    let h = done_fits c input f w in
    let told = each-weaker IsTold OutFits told_fits (agreed_and_safe_of_step c d.core) (told_from d.core c.installed.ring _ _) in
    settled_fits d.core (sent d.sends ++ agreed_and_safe_of_step c d.core) (may_install d.core) (λ e. e) h.core
    (each-append OutFits (sent d.sends) (agreed_and_safe_of_step c d.core) (sent_fit d.sends h.sends) told)
