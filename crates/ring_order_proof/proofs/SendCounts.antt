-- The number of frames that one step sends: a visit's repeated messages, new messages and token, or one frame, and perhaps a
-- proposal.
use Rattle.std.proofs.Common.{◌≡◌, suc, ◌≤◌, inl, inr, Bool, true, false, ◌==◌, List, [], ◌∷◌, ◌++◌, length, Option}
use Rattle.std.proofs.Common.{Some, None, ap, sym, subst, arith}
use Rattle.std.specs.Prelude.{filter, filter_map, map, not, nat_lt, ◌&&◌}
use Rattle.std.specs.List.{cons_option}
use Rattle.std.proofs.lemmas.Bool.{cond_both}
use Rattle.std.proofs.lemmas.List.{length-append, length-map}
use Rattle.ring_base.specs.Processors.{nobody, only, less}
use Rattle.ring_object.specs.Operations.{Sequential}
use Rattle.ring_wire.specs.Tokens.{TokenFits}
use Rattle.ring_wire.specs.declared.frame.Frame.TheVariants.{Message as MessageFrame}
use Rattle.ring_wire.specs.declared.message.Message.{Message}
use Rattle.ring_wire.specs.declared.token.Token.{Token}
use Rattle.ring_core_spec.specs.Windows.{found}
use Rattle.ring_core_spec.specs.Tokens.{above_mark}
use Rattle.ring_core_spec.specs.declared.input.Input.{Input}
use Rattle.ring_core_spec.specs.declared.input.Input.TheVariants.{Frame as FrameInput, Timeout as TimeInput}
use Rattle.ring_core_spec.specs.declared.out.Out.{Out}
use Rattle.ring_core_spec.specs.State.{Core, OutgoingFrame, TransitionResult}
use Rattle.ring_core_spec.specs.Views.{mark}
use Rattle.ring_core_spec.specs.Visiting.{messages_sent_again, new_payloads, new_messages, token_forwarded, to_next, token_visited}
use Rattle.ring_core_spec.specs.Deciding.{Transition, Ignore, Enqueue, Repeat, Announce, Invite, GiveUp, EnterGather, Agree, MergeJoin}
use Rattle.ring_core_spec.specs.Deciding.{EnterGatherAndAgree, EnterGatherAndMergeJoin, Take, Visit, Fill, Learn, decide}
use Rattle.ring_core_spec.specs.Transitions.{last_sent_repeated, may_propose_after, apply_transition, with_proposal_if, transition_and_proposal}
use Rattle.ring_core_spec.specs.Joining.{proposes}
use Rattle.ring_core_spec.specs.CommitSteps.{after_proposal}
use Rattle.ring_core_spec.specs.Stepping.{ring_step}
use Rattle.ring_node_spec.specs.declared.input.Input.{Input as NodeInput}
use Rattle.ring_node_spec.specs.declared.input.Input.TheVariants.{Frame as NodeFrame, Noise as NodeNoise, Timeout as NodeTime, Stop as NodeStop}
use Rattle.ring_node_spec.specs.NodeLimits.{InputFits as NodeInputFits}
use Rattle.ring_node_spec.specs.EpochHistories.{epochs_after}
use Rattle.ring_node_spec.specs.Nodes.{Node, node_known_log, is_closed, is_restored}
use Rattle.ring_node_spec.specs.DueSends.{due_of_outputs}
use Rattle.ring_node_spec.specs.Stepping.{NodeStepResult, send_of, with_dropped, newly_committed, drops, did, settled, node_after_outputs, after_core, node_step}
use Rattle.ring_core_spec.proofs.Tokens.{length-numbered}
use Rattle.ring_core_proof.specs.LawConditions.{IsInputOf}
use Rattle.ring_core_proof.proofs.Causes.{caused}
use Rattle.ring_core_proof.proofs.StepsAreMoves.{fresh_few}
use Rattle.ring_core_proof.specs.Limits.{InputFits}
use Rattle.ring_log.specs.KnownLog.{KnownLog, known_log_of, retained_log, is_known_log_sound}
use Rattle.ring_log.specs.Logs.{committed_calls}
use Rattle.ring_order_proof.proofs.StepSends.{step_sends}

-- Lists

few_filter : {X : Type 0} → (p : X → Bool) (xs : List X) → length (filter p xs) ≤ length xs
few_filter p [] = omega arith
few_filter p (x ∷ xs) =
    let rest = few_filter p xs in
    cond_both (p x) (x ∷ filter p xs) (filter p xs) (λ ys. length ys ≤ suc (length xs)) (λ e. omega (arith, rest)) (λ e. omega (arith, rest))

few_option : {Y : Type 0} → (o : Option Y) (ys : List Y) → length (cons_option o ys) ≤ suc (length ys)
few_option None ys = omega arith
few_option (Some y) ys = omega arith

few_filter_map : {X Y : Type 0} → (f : X → Option Y) (xs : List X) → length (filter_map f xs) ≤ length xs
few_filter_map f [] = omega arith
few_filter_map f (x ∷ xs) = omega (arith, few_filter_map f xs, few_option (f x) (filter_map f xs))

-- The frames of a visit

few_repeated : {A : Type 0} → (c : Core A) (t : Token) → length (messages_sent_again c t) ≤ length t.requests
few_repeated c t =
    let a = few_filter_map (found c.held t.ring) (above_mark (mark c t.ring) t.requests) in
    let b = few_filter (nat_lt (mark c t.ring)) t.requests in
    omega (arith, a, b)

few_new : {A : Type 0} → (c : Core A) (t : Token) → length (new_messages c t) ≤ 8
few_new c t =
    let e = length-numbered t.ring c.me t.seq (new_payloads c t) in
    let l = fresh_few c t in
    omega (arith, e, l)

few_visited : {A : Type 0} → (c : Core A) (t : Token) → length t.requests ≤ 32 → length (token_visited c t).sends ≤ 41
few_visited {A} c t few =
    let f : Message A → OutgoingFrame A = λ x. record { to = less c.running.members (only c.me); frame = MessageFrame x } in
    let xs = messages_sent_again c t ++ new_messages c t in
    let a = length-append (map f xs) (to_next c (token_forwarded c t) ∷ []) in
    let b = length-map xs f in
    let d = length-append (messages_sent_again c t) (new_messages c t) in
    omega (arith, a, b, d, few_repeated c t, few_new c t, few)

-- The frames of each act

few_shown : {A : Type 0} → (o : Option (OutgoingFrame A)) → length (last_sent_repeated o) ≤ 41
few_shown None = omega arith
few_shown (Some s) = omega arith

few_acted : {A : Type 0} → (c : Core A) (input : Input A) → InputFits input → (a : Transition A) → IsInputOf c input a → length (apply_transition c a).sends ≤ 41
few_acted c input w Ignore h = omega arith
few_acted c input w (Enqueue p) h = omega arith
few_acted c input w Repeat h = few_shown c.last_sent
few_acted c input w Announce h = omega arith
few_acted c input w Invite h = omega arith
few_acted c input w GiveUp h = omega arith
few_acted c input w EnterGather h = omega arith
few_acted c input w (Agree j) h = omega arith
few_acted c input w (MergeJoin j) h = omega arith
few_acted c input w (EnterGatherAndAgree j) h = omega arith
few_acted c input w (EnterGatherAndMergeJoin j) h = omega arith
few_acted c input w (Take x) h = omega arith
few_acted c input w (Fill k) h = omega arith
few_acted c input w (Learn k) h = omega arith
few_acted c input w (Visit t) (inl e) = (let f : TokenFits t = subst InputFits e w in few_visited c t f.few)
few_acted c input w (Visit t) (inr s) = few_visited c t (subst (λ (u : Token). length u.requests ≤ 32) (sym s.first) (omega arith))

few_proposed : {A : Type 0} → (b : Bool) (d : TransitionResult A) → length d.sends ≤ 41 → length (with_proposal_if b d).sends ≤ 42
few_proposed false d l = omega (arith, l)
few_proposed true d l = omega (arith, l, length-append d.sends (after_proposal d.core).sends)

few_done : {A : Type 0} → (c : Core A) (input : Input A) → InputFits input → length (transition_and_proposal c (decide c input)).sends ≤ 42
few_done c input w =
    let a = decide c input in
    few_proposed (may_propose_after a && proposes (apply_transition c a).core) (apply_transition c a) (few_acted c input w a (caused c input))

-- The frames of a step

pub few_frames : {A : Type 0} → (c : Core A) (input : Input A) → InputFits input → length (filter_map send_of (ring_step c input).outs) ≤ 64
few_frames {A} c input w =
    let sends = (transition_and_proposal c (decide c input)).sends in
    let a = ap length (step_sends c input) in
    let b = few_filter (λ (s : OutgoingFrame A). not (s.to == nobody)) sends in
    let d = few_done c input w in
    omega (arith, a, b, d)

-- A step of a node

module _ {O A : Type 0} (object : Sequential O) where
  few_if : (b : Bool) (old new : Node A) (outs : List (Out A)) (k : KnownLog A) → length (filter_map send_of outs) ≤ 64 →
      length (settled object b old new outs k).sends ≤ 64
  few_if false old new outs k l = omega arith
  few_if true old new outs k l =
      let s = did object old new outs k (newly_committed (node_known_log old) k) in
      cond_both (drops object (is_closed old.group new.epochs) k)
      (record s { node = with_dropped k.committed s.node; dropped = committed_calls (retained_log k) }) s
      (λ (x : NodeStepResult A). length x.sends ≤ 64) (λ t. l) (λ e. l)

  few_after : (n : Node A) (input : Input A) → InputFits input → length (after_core object n (ring_step n.core input)).sends ≤ 64
  few_after n input w =
      let s = ring_step n.core input in
      let epochs = epochs_after n.epochs s.outs in
      few_if (is_known_log_sound n.group epochs && is_restored object (known_log_of n.group epochs)) n (node_after_outputs n s.core epochs (due_of_outputs object n s.core n.epochs s.outs)) s.outs
      (known_log_of n.group epochs) (few_frames n.core input w)

  pub few_sends : (n : Node A) (input : NodeInput A) → NodeInputFits input → length (node_step object n input).sends ≤ 64
  few_sends n (NodeFrame frame) w = few_after n (FrameInput frame) w
  few_sends n (NodeTime kind) w = few_after n (TimeInput kind) tt
  few_sends n NodeNoise w = omega arith
  few_sends n NodeStop w = omega arith
