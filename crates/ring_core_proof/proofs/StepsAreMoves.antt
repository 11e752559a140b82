-- Each step of the definition is a list of moves: the transition is one, a proposal after it another, and an
-- installation the last.
use Rattle.std.proofs.Common.{◌≡◌, ℕ, ◌+◌, ◌-◌, ◌*◌, ◌%◌, ◌≤◌, ◌⊎◌, inl, inr, Bool, true, false, ◌&&◌}
use Rattle.std.proofs.Common.{◌==◌, eqb, List, [], ◌∷◌, ◌++◌, length, Option, Some, None, refl, ap, sym, ◌∙◌, subst}
use Rattle.std.proofs.Common.{arith, append-nil}
use Rattle.std.specs.Prelude.{nat_lt, nat_le, slice_get}
use Rattle.std.specs.List.{AllByRecursion as Each}
use Rattle.std.proofs.lemmas.Bool.{cond_both, and_parts, eqb-true, ltb-true, leb-true, false≢true}
use Rattle.ring_base.proofs.Taking.{smallest_some}
use Rattle.ring_base.specs.Numbers.{window_size, max_number}
use Rattle.ring_base.specs.Rings.{same_ring}
use Rattle.ring_base.specs.Processors.{has, at, size, smallest}
use Rattle.ring_base.specs.declared.state.State.{State}
use Rattle.ring_base.specs.declared.state.State.TheVariants.{Gather, Commit, Recovery, Operational, Stopped}
use Rattle.ring_base.proofs.Each.{each-push, each-filter_map}
use Rattle.ring_payload.specs.PayloadKinds.{is_user}
use Rattle.ring_payload.specs.Packing.{is_queued}
use Rattle.ring_payload.proofs.Packing.{packed_payloads-users, user-queued, unpacked_rest-each}
use Rattle.ring_payload.specs.declared.content.Payload.{Payload}
use Rattle.ring_wire.specs.declared.commit.CommitToken.{CommitToken}
use Rattle.ring_wire.specs.declared.frame.Frame.{Frame}
use Rattle.ring_wire.specs.declared.frame.Frame.TheVariants.{Token as TokenFrame}
use Rattle.ring_wire.specs.declared.message.Message.{Message}
use Rattle.ring_wire.specs.declared.token.Token.{Token}
use Rattle.ring_core_spec.specs.Windows.{found, highest}
use Rattle.ring_base.proofs.SameRing.{ring_same}
use Rattle.ring_core_spec.specs.Tokens.{first_token, is_newer, above_mark}
use Rattle.ring_core_spec.specs.Joins.{Gathering, AllHaveOwnSets, candidates, new_number, has_consensus, own_join, with_agreement, join_merged, silent_given_up}
use Rattle.ring_core_spec.specs.Commits.{position_of_hop, receiver, is_of, is_own, is_sound}
use Rattle.ring_core_spec.specs.Recoveries.{is_ready, is_complete}
use Rattle.ring_core_spec.specs.declared.input.Input.{Input}
use Rattle.ring_core_spec.specs.declared.input.Input.TheVariants.{Frame as FrameInput}
use Rattle.ring_core_spec.specs.State.{Core, OutgoingFrame, TransitionResult, floor}
use Rattle.ring_core_spec.specs.Views.{mark, own_entry, plan, takes_number}
use Rattle.ring_core_spec.specs.Visiting.{messages_sent_again, room_at, payloads_to_send, new_payloads, held_after, requests_of, queue_after}
use Rattle.ring_core_spec.specs.Joining.{gather_entered, with_gathering, join_announcement, join_invitation, proposes, proposes_in}
use Rattle.ring_core_spec.specs.Giving.{ready_then_complete, installs_in, may_install, step_result}
use Rattle.ring_core_spec.specs.Deciding.{Transition, Ignore, Enqueue, Repeat, Announce, Invite, GiveUp, EnterGather, Agree, MergeJoin}
use Rattle.ring_core_spec.specs.Deciding.{EnterGatherAndAgree, EnterGatherAndMergeJoin, Take, Visit, Fill, Learn, takes_of, members_of}
use Rattle.ring_core_spec.specs.Deciding.{decide_in_operational, decide_payload, decide}
use Rattle.ring_core_spec.specs.Transitions.{last_sent_repeated, apply_transition, may_propose_after, with_proposal_if, transition_and_proposal}
use Rattle.ring_core_spec.specs.Stepping.{ring_step}
use Rattle.ring_core_spec.proofs.States.{installs_recovering, proposes_gathering, offers_few}
use Rattle.ring_core_proof.specs.LawConditions.{HasPassed, IsInputOf}
use Rattle.ring_core_proof.specs.FactWords.{IsIn}
use Rattle.ring_core_proof.specs.Moves.{Move, Idles, Enters, Learns, Visits, Takes, core_after_move, move_result, AllAreUsers, IsRepeated}
use Rattle.ring_core_proof.specs.Moves.{MayIdle, MayEnter, AreWraps, IsStart, TakesFrom, TakesLate, MayInstall, MayMove}
use Rattle.ring_core_proof.specs.Moves.{after_moves, all_sends, MayAll, IsMoved}
use Rattle.ring_core_proof.proofs.Guards.{guarded}
use Rattle.ring_core_proof.proofs.Causes.{caused}
use Rattle.ring_core_proof.proofs.WrapsAndEnd.{found_in, are_wraps}
use Rattle.ring_core_proof.proofs.Agreeing.{agreed_same, widened_same}
use Rattle.ring_core_proof.proofs.InLists.{each-in}

-- The move of each transition

abbrev pub idle : {A : Type 0} → Core A → Gathering → List (OutgoingFrame A) → Move A
idle c gathering sends = Idles c.state gathering c.last_sent c.queue sends

abbrev pub leave : {A : Type 0} → Core A → Gathering → Move A
leave c gathering = Idles Gather gathering None [] (join_announcement (with_gathering (gather_entered c) gathering) ∷ [])

abbrev pub move_of : {A : Type 0} → Core A → Transition A → Move A
move_of c Ignore = idle c c.gathering []
move_of c (Enqueue p) = Idles c.state c.gathering c.last_sent (c.queue ++ p ∷ []) []
move_of c Repeat = idle c c.gathering (last_sent_repeated c.last_sent)
move_of c Announce = idle c c.gathering (join_announcement c ∷ [])
move_of c Invite = idle c c.gathering (join_invitation c ∷ [])
move_of c GiveUp = idle c (silent_given_up c.me c.gathering) (join_announcement (with_gathering c (silent_given_up c.me c.gathering)) ∷ [])
move_of c EnterGather = leave c (gather_entered c).gathering
move_of c (Agree j) = idle c (with_agreement c.gathering j) []
move_of c (MergeJoin j) = idle c (join_merged c.me c.gathering j) (join_announcement (with_gathering c (join_merged c.me c.gathering j)) ∷ [])
move_of c (EnterGatherAndAgree j) = leave c (with_agreement (gather_entered c).gathering j)
move_of c (EnterGatherAndMergeJoin j) = leave c (join_merged c.me (gather_entered c).gathering j)
move_of c (Take x) = Takes x
move_of c (Visit t) = Visits t (new_payloads c t)
    (requests_of c t (held_after c t) (t.seq + length (new_payloads c t))) (messages_sent_again c t)
    (queue_after c.state (room_at c t) c.queue)
move_of c (Fill k) = Enters k
move_of c (Learn k) = Learns k

pub acted : {A : Type 0} → (c : Core A) (a : Transition A) → apply_transition c a ≡ move_result c (move_of c a)
acted c Ignore = refl
acted c (Enqueue p) = refl
acted c Repeat = refl
acted c Announce = refl
acted c Invite = refl
acted c GiveUp = refl
acted c EnterGather = refl
acted c (Agree j) = refl
acted c (MergeJoin j) = refl
acted c (EnterGatherAndAgree j) = refl
acted c (EnterGatherAndMergeJoin j) = refl
acted c (Take x) = refl
acted c (Visit t) = refl
acted c (Fill k) = refl
acted c (Learn k) = refl

-- A queued payload is a user's

abbrev pub IsAsked : {A : Type 0} → Transition A → Type 0
IsAsked (Enqueue p) = is_user p ≡ true
IsAsked _ = Unit {0}

asked_user : {A : Type 0} → (q : Payload A) → IsAsked (decide_in_operational q)
asked_user q = cond_both (is_queued q) (Enqueue q) Ignore (λ a. IsAsked a) (λ e. user-queued q e) (λ e. tt)

asked_payload : {A : Type 0} → (s : State) (q : Payload A) → IsAsked (decide_payload s q)
asked_payload Operational q = asked_user q
asked_payload Gather q = tt
asked_payload Commit q = tt
asked_payload Recovery q = tt
asked_payload Stopped q = tt

pub asked_by : {A : Type 0} → (c : Core A) (input : Input A) (a : Transition A) → decide c input ≡ a → IsInputOf c input a → IsAsked a
asked_by c input (Enqueue p) e h = subst (λ a. IsAsked a) (sym (ap (λ i. decide c i) h) ∙ e) (asked_payload c.state p)
asked_by c input Ignore e h = tt
asked_by c input Repeat e h = tt
asked_by c input Announce e h = tt
asked_by c input Invite e h = tt
asked_by c input GiveUp e h = tt
asked_by c input EnterGather e h = tt
asked_by c input (Agree j) e h = tt
asked_by c input (MergeJoin j) e h = tt
asked_by c input (EnterGatherAndAgree j) e h = tt
asked_by c input (EnterGatherAndMergeJoin j) e h = tt
asked_by c input (Take x) e h = tt
asked_by c input (Visit t) e h = tt
asked_by c input (Fill k) e h = tt
asked_by c input (Learn k) e h = tt

-- Idling

shown_repeats : {A : Type 0} → (last_sent : Option (OutgoingFrame A)) → Each (IsRepeated last_sent) (last_sent_repeated last_sent)
shown_repeats None = tt
shown_repeats (Some s) = (inl refl, tt)

idles : {A : Type 0} → (c : Core A) (g : Gathering) (sends : List (OutgoingFrame A)) → (AllHaveOwnSets c.gathering → AllHaveOwnSets g) → Each (IsRepeated c.last_sent) sends →
    MayIdle c c.state g c.last_sent c.queue sends
idles c g sends h s = record { leaves = inl refl; joins = h; shows = inr refl; queued = λ q. q; sent = s }

leaves : {A : Type 0} → (c : Core A) (g : Gathering) → AllHaveOwnSets g → MayIdle c Gather g None [] (join_announcement (with_gathering (gather_entered c) g) ∷ [])
leaves c g h = record { leaves = inr (inl refl); joins = λ a. h; shows = inl refl; queued = λ q. tt; sent = (inr (own_join c.me (floor c) g, refl), tt) }

-- Visiting

-- at most as many messages as a visit has room for
pub fresh_few : {A : Type 0} → (c : Core A) (t : Token) → length (new_payloads c t) ≤ room_at c t
fresh_few c t = offers_few c.state c (room_at c t)

pub fresh_short : {A : Type 0} → (c : Core A) (t : Token) → length (new_payloads c t) ≤ mark c t.ring + window_size - t.seq
fresh_short c t = omega (arith, fresh_few c t)

pub fresh_users : {A : Type 0} → (c : Core A) (t : Token) → c.state ≡ Operational → AllAreUsers c.queue → AllAreUsers (new_payloads c t)
fresh_users c t s h = subst (λ s. AllAreUsers (payloads_to_send s c (room_at c t))) (sym s) (packed_payloads-users (room_at c t) c.queue h)

fresh_wraps : {A : Type 0} → (c : Core A) (t : Token) → c.state ≡ Recovery → AreWraps c (new_payloads c t)
fresh_wraps c t s = subst (λ s. AreWraps c (payloads_to_send s c (room_at c t))) (sym s) (are_wraps c (room_at c t))

-- a property of each queued payload holds for each that is left after a visit
pub queue_each : {A : Type 0} → (P : Payload A → Type 0) (s : State) (n : ℕ) (queue : List (Payload A)) → Each P queue → Each P (queue_after s n queue)
queue_each P Operational n queue h = unpacked_rest-each P n queue h
queue_each P Gather n queue h = h
queue_each P Commit n queue h = h
queue_each P Recovery n queue h = h
queue_each P Stopped n queue h = h

pub queue_kept : {A : Type 0} → (s : State) (n : ℕ) (queue : List (Payload A)) → AllAreUsers queue → AllAreUsers (queue_after s n queue)
queue_kept {A} s n queue h = queue_each (λ (p : Payload A). is_user p ≡ true) s n queue h

pub all_repeats : {A : Type 0} → (c : Core A) (t : Token) → Each (λ (x : Message A). IsIn x c.held) (messages_sent_again c t)
all_repeats {A} c t =
    each-filter_map (λ n. Unit {0}) (λ (x : Message A). IsIn x c.held) (found c.held t.ring) (λ n x h e. (found_in c.held t.ring n x e).0)
    (above_mark (mark c t.ring) t.requests) (each-in _ _ (λ n i. tt))

double : (m : ℕ) → (2 * m) % m ≡ 0
double m = grind arith

starts : {A : Type 0} → (c : Core A) (input : Input A) (t : Token) → IsInputOf c input (Visit t) → IsStart c t ⊎ (input ≡ FrameInput (TokenFrame t))
starts c input t (inl e) = inr e
starts c input t (inr s) =
    let k = s.commit in
    let p = and_parts (eqb k.hop (2 * size k.members)) (is_of c.running k) s.starts in
    let q = and_parts (same_ring k.ring c.running.ring) (eqb k.members c.running.members) p.1 in
    let hop : k.hop ≡ 2 * size k.members = eqb-true _ _ p.0 in
    let members : k.members ≡ c.running.members = eqb-true _ _ q.1 in
    let here : receiver k ≡ c.me = eqb-true _ _ s.here in
    let zero : position_of_hop k ≡ 0 = ap (λ h. h % size k.members) hop ∙ double (size k.members) in
    inl (record {
      token = s.first ∙ ap first_token (ring_same k.ring c.running.ring q.0);
      first = ap (λ ms. at ms 0) (sym members) ∙ ap (at k.members) (sym zero) ∙ here;
    })

visits : {A : Type 0} → (c : Core A) (input : Input A) (t : Token) → HasPassed c (Visit t) → IsInputOf c input (Visit t) →
    MayMove (λ frame. input ≡ FrameInput frame) c (move_of c (Visit t))
visits c input t g h =
    let p = and_parts ((same_ring t.ring c.running.ring && is_newer c.turns t) && nat_lt t.number max_number) (nat_le (highest c.held t.ring) t.seq) g.1 in
    let q = and_parts (same_ring t.ring c.running.ring && is_newer c.turns t) (nat_lt t.number max_number) p.0 in
    let r = and_parts (same_ring t.ring c.running.ring) (is_newer c.turns t) q.0 in
    record {
      state = g.0;
      ring = ring_same t.ring c.running.ring r.0;
      newer = r.1;
      ahead = leb-true _ _ p.1;
      room = fresh_short c t;
      users = fresh_users c t;
      wraps = fresh_wraps c t;
      repeats = all_repeats c t;
      queued = queue_kept c.state (room_at c t) c.queue;
      from = starts c input t h;
    }

-- Sending on a commit token

enters : {A : Type 0} → (c : Core A) (input : Input A) (k : CommitToken) → HasPassed c (Fill k) → IsInputOf c input (Fill k) →
    MayMove (λ frame. input ≡ FrameInput frame) c (Enters k)
enters c input k g h =
    let p = and_parts (nat_lt k.hop (size k.members) && (k.members == candidates c.gathering)) (nat_lt (floor c) k.ring.seq) g.passes in
    let q = and_parts (nat_lt k.hop (size k.members)) (k.members == candidates c.gathering) p.0 in
    record { state = g.state; above = ltb-true _ _ p.1; first = λ low. ltb-true _ _ q.0; here = eqb-true _ _ g.here; from = inr h }

pub learns : {A : Type 0} → (c : Core A) (input : Input A) (k : CommitToken) → HasPassed c (Learn k) → IsInputOf c input (Learn k) →
    MayMove (λ frame. input ≡ FrameInput frame) c (Learns k)
learns c input k g h =
    let e = and_parts _ (is_sound c.installed.ring k.entries) g.passes in
    let d = and_parts _ (is_own (own_entry c) (slice_get k.entries (position_of_hop k))) e.0 in
    let b = and_parts _ (is_of c.running k) d.0 in
    let a = and_parts (nat_le (size k.members) k.hop) (nat_lt k.hop (2 * size k.members)) b.0 in
    let f = and_parts (same_ring k.ring c.running.ring) (k.members == c.running.members) b.1 in
    record {
      state = g.state;
      ring = ring_same k.ring c.running.ring f.0;
      members = eqb-true _ _ f.1;
      second = leb-true _ _ a.0;
      last = ltb-true _ _ a.1;
      here = eqb-true _ _ g.here;
      own = d.1;
      sound = e.1;
      from = h;
    }

-- Taking

taken_from : {A : Type 0} → (c : Core A) (x : Message A) (s : State) → c.state ≡ s → takes_of s c x.ring ≡ true → has (members_of s c) x.sender ≡ true →
    TakesFrom c x ⊎ TakesLate c x
taken_from c x Recovery e r m = inl (record { state = inl e; ring = ring_same _ _ r; sender = m })
taken_from c x Operational e r m = inl (record { state = inr e; ring = ring_same _ _ r; sender = m })
taken_from c x Gather e r m =
    let p = and_parts (same_ring x.ring c.installed.ring) (floor c == x.ring.seq) r in
    inr (record { state = e; ring = ring_same _ _ p.0; newest = eqb-true _ _ p.1; sender = m })
taken_from c x Commit e r m = absurd (false≢true r)
taken_from c x Stopped e r m = absurd (false≢true r)

takes : {A : Type 0} → (c : Core A) (input : Input A) (x : Message A) → HasPassed c (Take x) → IsInputOf c input (Take x) →
    MayMove (λ frame. input ≡ FrameInput frame) c (Takes x)
takes c input x g h =
    let p = and_parts (takes_of c.state c x.ring && has (members_of c.state c) x.sender) (takes_number c x.ring x.number) g in
    let q = and_parts (takes_of c.state c x.ring) (has (members_of c.state c) x.sender) p.0 in
    record { ring = taken_from c x c.state refl q.0 q.1; new = p.1; from = h }

-- Each transition meets the conditions of its move

pub may_act : {A : Type 0} → (c : Core A) (input : Input A) (a : Transition A) → HasPassed c a → IsInputOf c input a → IsAsked a →
    MayMove (λ frame. input ≡ FrameInput frame) c (move_of c a)
may_act c input Ignore g h u = idles c c.gathering [] (λ a. a) tt
may_act {A} c input (Enqueue p) g h u = record {
  leaves = inl refl;
  joins = λ a. a;
  shows = inr refl;
  queued = λ q. each-push (λ (p : Payload A). is_user p ≡ true) c.queue p q u;
  sent = tt;
}
may_act c input Repeat g h u = idles c c.gathering (last_sent_repeated c.last_sent) (λ a. a) (shown_repeats c.last_sent)
may_act c input Announce g h u = idles c c.gathering (join_announcement c ∷ []) (λ a. a) (inr (own_join c.me (floor c) c.gathering, refl), tt)
may_act c input Invite g h u = idles c c.gathering (join_invitation c ∷ []) (λ a. a) (inr (_, refl), tt)
may_act c input GiveUp g h u = idles c (silent_given_up c.me c.gathering) _ (λ a. tt) (inr (own_join c.me (floor c) (silent_given_up c.me c.gathering), refl), tt)
may_act c input EnterGather g h u = leaves c (gather_entered c).gathering tt
may_act c input (Agree j) g h u = idles c (with_agreement c.gathering j) [] (agreed_same c.me c.gathering j g.1) tt
may_act c input (MergeJoin j) g h u = idles c (join_merged c.me c.gathering j) _ (λ a. widened_same c.me c.gathering j)
    (inr (own_join c.me (floor c) (join_merged c.me c.gathering j), refl), tt)
may_act c input (EnterGatherAndAgree j) g h u = leaves c (with_agreement (gather_entered c).gathering j) (agreed_same c.me (gather_entered c).gathering j g.effect_is tt)
may_act c input (EnterGatherAndMergeJoin j) g h u = leaves c (join_merged c.me (gather_entered c).gathering j) (widened_same c.me (gather_entered c).gathering j)
may_act c input (Take x) g h u = takes c input x g h
may_act c input (Visit t) g h u = visits c input t g h
may_act c input (Fill k) g h u = enters c input k g h
may_act c input (Learn k) g h u = learns c input k g h

-- A proposal

abbrev pub proposed_token : {A : Type 0} → Core A → CommitToken
proposed_token c = record { ring = record { seq = new_number (floor c) c.gathering; rep = c.me }; members = candidates c.gathering; hop = 0; entries = [] }

pub may_propose : {A : Type 0} → (received : Frame A → Type 0) (c : Core A) → proposes c ≡ true → MayEnter received c (proposed_token c)
may_propose received c h =
    let s = proposes_gathering c.state c h in
    let k = subst (λ s. proposes_in s c ≡ true) s h in
    let p = and_parts (has_consensus c.me c.gathering && (smallest (candidates c.gathering) == c.me))
    (nat_le (new_number (floor c) c.gathering) max_number) k in
    let q = and_parts (has_consensus c.me c.gathering) (smallest (candidates c.gathering) == c.me) p.0 in
    let me : smallest (candidates c.gathering) ≡ c.me = eqb-true _ _ q.1 in
    let none : 0 % size (candidates c.gathering) ≡ 0 = grind arith in
    record {
      state = s;
      above = omega arith;
      first = λ low. smallest_some (candidates c.gathering) c.me low me;
      here = ap (at (candidates c.gathering)) none ∙ me;
      from = inl (record { hop = refl; entries = refl; rep = refl });
    }

-- An installation

both_ready : {A : Type 0} → (b : Bool) (c : Core A) → ready_then_complete b c ≡ true → (b ≡ true) × (is_complete (plan c) c.held ≡ true)
both_ready true c h = (refl, h)
both_ready false c h = absurd (false≢true h)

pub may_installs : {A : Type 0} → (c : Core A) → may_install c ≡ true → MayInstall c
may_installs c h =
    let s = installs_recovering c.state c h in
    let p = both_ready (is_ready c.held c.running.ring c.running.members (mark c c.running.ring)) c (subst (λ s. installs_in s c ≡ true) s h) in
    record { state = s; ready = p.0; complete = p.1 }

-- A step

-- the transition, and then perhaps a proposal
record DoneBy {A : Type 0} (c : Core A) (input : Input A) (d : TransitionResult A) : Type 0 where
  pub moves : List (Move A)
  pub few : length moves ≤ 2
  pub may : MayAll (λ frame. input ≡ FrameInput frame) c moves
  pub is : d ≡ record { core = after_moves c moves; sends = all_sends c moves }

then_proposed : {A : Type 0} → (c : Core A) (input : Input A) (m : Move A) → MayMove (λ frame. input ≡ FrameInput frame) c m → (b : Bool) →
    (b ≡ true → proposes (core_after_move c m) ≡ true) → DoneBy c input (with_proposal_if b (move_result c m))
then_proposed c input m h false p = record { moves = m ∷ []; few = omega arith; may = (h, tt); is = rw append-nil refl }
then_proposed c input m h true p =
    record { moves = m ∷ Enters (proposed_token (core_after_move c m)) ∷ []; few = omega arith; may = (h, (may_propose _ (core_after_move c m) (p refl), tt)); is = refl }

done_moves : {A : Type 0} → (c : Core A) (input : Input A) (a : Transition A) → MayMove (λ frame. input ≡ FrameInput frame) c (move_of c a) → DoneBy c input (transition_and_proposal c a)
done_moves c input a h =
    subst (λ d. DoneBy c input (with_proposal_if (may_propose_after a && proposes d.core) d)) (sym (acted c a))
    (then_proposed c input (move_of c a) h (may_propose_after a && proposes (core_after_move c (move_of c a))) (λ e. (and_parts (may_propose_after a) _ e).1))

pub step_moves : {A : Type 0} → (c : Core A) (input : Input A) → IsMoved c input
unfolding ring_step
step_moves c input =
    let a = decide c input in
    let d = done_moves c input a (may_act c input a (guarded c input) (caused c input) (asked_by c input a refl (caused c input))) in
    record { moves = d.moves; few = d.few; may = d.may; step = ap (step_result c) d.is; installs = may_installs (after_moves c d.moves) }
