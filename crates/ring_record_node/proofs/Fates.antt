-- At a token or commit token that is ignored, nothing is sent; at one that is taken, something is.
use Rattle.std.proofs.Common.{◌≡◌, ℕ, ◌-◌, zero, ◌<◌, ◌⊎◌, inl, inr, Bool, true, false, ◌==◌, List, [], ◌∷◌, ◌++◌, refl, ap, ◌∙◌, arith}
use Rattle.std.specs.Prelude.{filter_map, not, ◌&&◌}
use Rattle.std.proofs.lemmas.Bool.{cond_both, ne_eqb}
use Rattle.std.proofs.lemmas.Nat.{pow_pos}
use Rattle.ring_base.specs.Processors.{nobody, only, next as next_member}
use Rattle.ring_base.specs.declared.state.State.{State}
use Rattle.ring_base.specs.declared.state.State.TheVariants.{Gather, Commit, Recovery, Operational, Stopped}
use Rattle.ring_object.specs.Operations.{Sequential}
use Rattle.ring_wire.specs.declared.commit.CommitToken.{CommitToken}
use Rattle.ring_wire.specs.declared.frame.Frame.{Frame}
use Rattle.ring_wire.specs.declared.frame.Frame.TheVariants.{Message as MessageFrame, Token as TokenFrame, Join as JoinFrame, Commit as CommitFrame}
use Rattle.ring_wire.specs.declared.token.Token.{Token}
use Rattle.ring_commit.specs.Outcomes.{is_at}
use Rattle.ring_commit.specs.Rounds.{receiver, hop_with_entries}
use Rattle.ring_token.specs.TokenVisits.{first_token}
use Rattle.ring_core_spec.specs.declared.input.Input.{Input}
use Rattle.ring_core_spec.specs.declared.input.Input.TheVariants.{Frame as CoreFrame}
use Rattle.ring_core_spec.specs.declared.out.Out.{Out}
use Rattle.ring_core_spec.specs.Transitions.{apply_transition, may_propose_after, with_proposal_if, transition_and_proposal}
use Rattle.ring_core_spec.specs.Deciding.{Transition, Ignore, Visit, Fill, Learn, decide, decide_token, decide_round, decide_frame, decide_if_named}
use Rattle.ring_core_spec.specs.Giving.{sends_with_receivers}
use Rattle.ring_core_spec.specs.CommitSteps.{commit_sent_on, after_proposal, takes_first_round, takes_second_round, takes_start}
use Rattle.ring_core_spec.specs.Joining.{proposes}
use Rattle.ring_core_spec.specs.Naming.{is_named}
use Rattle.ring_core_spec.specs.State.{Core, OutgoingFrame, TransitionResult}
use Rattle.ring_core_spec.specs.Stepping.{ring_step}
use Rattle.ring_core_spec.specs.Views.{own_entry}
use Rattle.ring_core_spec.specs.Visiting.{accepts, token_forwarded, new_messages, messages_sent_again, to_next, to_others}
use Rattle.ring_log.specs.KnownLog.{KnownLog, known_log_of, retained_log, is_known_log_sound}
use Rattle.ring_log.specs.Logs.{committed_calls}
use Rattle.ring_node_spec.specs.DueSends.{due_of_outputs}
use Rattle.ring_node_spec.specs.EpochHistories.{epochs_after}
use Rattle.ring_node_spec.specs.Nodes.{Node, node_known_log, is_stopped, is_closed, is_restored}
use Rattle.ring_node_spec.specs.Stepping.{NodeStepResult, with_dropped, newly_committed, drops, step_after_trim, did, settled, node_after_outputs, send_of, node_step}
use Rattle.ring_node_spec.specs.declared.input.Input.TheVariants.{Frame as FrameInput}
use Rattle.ring_order_proof.proofs.StepSends.{step_sends}
use Rattle.ring_clock.specs.StepOutcomes.{has_sent_frame, is_token_or_commit_token}

-- Frames sent to somebody

nonzero : (m : ℕ) → zero < m → not (m == 0) ≡ true
nonzero m h = ap not (ne_eqb m 0 (λ e. omega (arith, h, e)))

-- a frame to one processor goes out
to_one : (i : ℕ) → not (only i == nobody) ≡ true
to_one i = nonzero (only i) (pow_pos (i - 1))

-- something is sent to somebody
abbrev Goes : {A : Type 0} → List (OutgoingFrame A) → Type 0
Goes sends = has_sent_frame (sends_with_receivers sends) ≡ true

goes_first : {A : Type 0} → (s : OutgoingFrame A) (sends : List (OutgoingFrame A)) → not (s.to == nobody) ≡ true → Goes (s ∷ sends)
goes_first s sends e = rw e refl

goes_behind : {A : Type 0} → (before sends : List (OutgoingFrame A)) → Goes sends → Goes (before ++ sends)
goes_behind [] sends e = e
goes_behind {A} (s ∷ before) sends e =
    cond_both (not (s.to == nobody)) (s ∷ sends_with_receivers (before ++ sends)) (sends_with_receivers (before ++ sends)) (λ (xs : List (OutgoingFrame A)). has_sent_frame xs ≡ true)
    (λ x. refl) (λ x. goes_behind before sends e)

goes_by : {A : Type 0} → (s : OutgoingFrame A) (sends behind : List (OutgoingFrame A)) (b : Bool) → not (s.to == nobody) ≡ b → (Goes sends → Goes (sends ++ behind))
    → Goes (s ∷ sends) → Goes (s ∷ (sends ++ behind))
goes_by s sends behind true is more e = goes_first s (sends ++ behind) is
goes_by s sends behind false is more e = rw is (more (rw is at e))

goes_before : {A : Type 0} → (sends behind : List (OutgoingFrame A)) → Goes sends → Goes (sends ++ behind)
goes_before [] behind e = absurd (cc e)
goes_before (s ∷ sends) behind e = goes_by s sends behind (not (s.to == nobody)) refl (λ h. goes_before sends behind h) e

-- The frames that a transition sends

-- the transition is `Ignore`, or sends something
abbrev Sends : {A : Type 0} → Core A → Transition A → Type 0
Sends c a = (a ≡ Ignore) ⊎ Goes (apply_transition c a).sends

visit_sends : {A : Type 0} → (c : Core A) (t : Token) → Sends c (Visit t)
visit_sends c t =
    let next = to_next c (token_forwarded c t) in
    inr (goes_behind (to_others c (messages_sent_again c t ++ new_messages c t)) (next ∷ []) (goes_first next [] (to_one (next_member c.running.members c.me))))

token_sends : {A : Type 0} → (s : State) (c : Core A) (t : Token) → Sends c (decide_token s c t)
token_sends Recovery c t = cond_both (accepts c t) (Visit t) Ignore (Sends c) (λ e. visit_sends c t) (λ e. inl refl)
token_sends Operational c t = cond_both (accepts c t) (Visit t) Ignore (Sends c) (λ e. visit_sends c t) (λ e. inl refl)
token_sends Gather c t = inl refl
token_sends Commit c t = inl refl
token_sends Stopped c t = inl refl

round_sends : {A : Type 0} → (s : State) (c : Core A) (k : CommitToken) → Sends c (decide_round s c k)
round_sends Gather c k =
    let to = hop_with_entries k (own_entry c ∷ []) in
    cond_both (takes_first_round c k) (Fill k) Ignore (Sends c) (λ e. inr (goes_first (commit_sent_on to) [] (to_one (receiver to)))) (λ e. inl refl)
round_sends Commit c k =
    let to = hop_with_entries k [] in
    cond_both (takes_second_round c k) (Learn k) Ignore (Sends c) (λ e. inr (goes_first (commit_sent_on to) [] (to_one (receiver to)))) (λ e. inl refl)
round_sends Recovery c k =
    cond_both (takes_start c k) (Visit (first_token k.ring)) Ignore (Sends c) (λ e. visit_sends c (first_token k.ring)) (λ e. inl refl)
round_sends Operational c k = inl refl
round_sends Stopped c k = inl refl

frame_sends : {A : Type 0} → (c : Core A) (frame : Frame A) → is_token_or_commit_token (FrameInput frame) ≡ true → Sends c (decide_frame c frame)
frame_sends c (TokenFrame t) e = token_sends c.state c t
frame_sends c (CommitFrame k) e = cond_both (is_at c.me k) (decide_round c.state c k) Ignore (Sends c) (λ at. round_sends c.state c k) (λ at. inl refl)
frame_sends c (MessageFrame x) e = absurd (cc e)
frame_sends c (JoinFrame j) e = absurd (cc e)

named_sends : {A : Type 0} → (b : Bool) (c : Core A) (frame : Frame A) → Sends c (decide_frame c frame) → Sends c (decide_if_named b c frame)
named_sends true c frame h = h
named_sends false c frame h = inl refl

-- the frames go out, whether a proposal follows or not
proposal_behind : {A : Type 0} → (b : Bool) (did : TransitionResult A) → Goes did.sends → Goes (with_proposal_if b did).sends
proposal_behind false did h = h
proposal_behind true did h = goes_before did.sends (after_proposal did.core).sends h

-- The frames that a step sends

-- an ignored input sends nothing
ignored_sends : {A : Type 0} → (c : Core A) (i : Input A) → decide c i ≡ Ignore → filter_map send_of (ring_step c i).outs ≡ []
ignored_sends {A} c i e = step_sends c i ∙ ap (λ (a : Transition A). sends_with_receivers (transition_and_proposal c a).sends) e

-- a token that is not ignored sends something
taken_by : {A : Type 0} → (c : Core A) (a : Transition A) → Sends c a → ¬ (a ≡ Ignore) → Goes (transition_and_proposal c a).sends
taken_by c a (inl e) taken = absurd (taken e)
taken_by c a (inr h) taken = proposal_behind (may_propose_after a && proposes (apply_transition c a).core) (apply_transition c a) h

taken_sends : {A : Type 0} → (c : Core A) (frame : Frame A) → is_token_or_commit_token (FrameInput frame) ≡ true → ¬ (decide c (CoreFrame frame) ≡ Ignore)
    → has_sent_frame (filter_map send_of (ring_step c (CoreFrame frame)).outs) ≡ true
taken_sends c frame e taken =
    let i = CoreFrame frame in
    ap has_sent_frame (step_sends c i) ∙ taken_by c (decide c i) (named_sends (is_named c.total frame) c frame (frame_sends c frame e)) taken

-- A step of a node

module _ {O A : Type 0} (object : Sequential O) where
  -- dropping places sends nothing
  step_after_trim-sends : (closed : Bool) (k : KnownLog A) (s : NodeStepResult A) → (step_after_trim object closed k s).sends ≡ s.sends
  step_after_trim-sends closed k s =
      cond_both (drops object closed k) (record s { node = with_dropped k.committed s.node; dropped = committed_calls (retained_log k) }) s
      (λ (x : NodeStepResult A). x.sends ≡ s.sends) (λ t. refl) (λ f. refl)

  settled-sends : (old new : Node A) (outs : List (Out A)) (k : KnownLog A) → (settled object true old new outs k).sends ≡ filter_map send_of outs
  settled-sends old new outs k = step_after_trim-sends (is_closed old.group new.epochs) k (did object old new outs k (newly_committed (node_known_log old) k))

  ignored_if : (b : Bool) (old new : Node A) (outs : List (Out A)) (k : KnownLog A) → filter_map send_of outs ≡ []
      → has_sent_frame (settled object b old new outs k).sends ≡ false
  ignored_if false old new outs k e = refl
  ignored_if true old new outs k e = ap has_sent_frame (settled-sends old new outs k ∙ e)

  taken_if : (b : Bool) (old new : Node A) (outs : List (Out A)) (k : KnownLog A) → has_sent_frame (filter_map send_of outs) ≡ true
      → is_stopped (settled object b old new outs k).node.core.state ≡ false → has_sent_frame (settled object b old new outs k).sends ≡ true
  taken_if false old new outs k e runs = absurd (cc runs)
  taken_if true old new outs k e runs = ap has_sent_frame (settled-sends old new outs k) ∙ e

  -- at a token that is ignored, nothing is sent
  pub nothing_sent : (n : Node A) (frame : Frame A) → decide n.core (CoreFrame frame) ≡ Ignore → has_sent_frame (node_step object n (FrameInput frame)).sends ≡ false
  nothing_sent n frame e =
      let s = ring_step n.core (CoreFrame frame) in
      let epochs = epochs_after n.epochs s.outs in
      let k = known_log_of n.group epochs in
      ignored_if (is_known_log_sound n.group epochs && is_restored object k) n (node_after_outputs n s.core epochs (due_of_outputs object n s.core n.epochs s.outs)) s.outs k
      (ignored_sends n.core (CoreFrame frame) e)

  -- at one that is taken, something is, if the node goes on
  pub something_sent : (n : Node A) (frame : Frame A) → is_token_or_commit_token (FrameInput frame) ≡ true → ¬ (decide n.core (CoreFrame frame) ≡ Ignore)
      → is_stopped (node_step object n (FrameInput frame)).node.core.state ≡ false → has_sent_frame (node_step object n (FrameInput frame)).sends ≡ true
  something_sent n frame e taken runs =
      let s = ring_step n.core (CoreFrame frame) in
      let epochs = epochs_after n.epochs s.outs in
      let k = known_log_of n.group epochs in
      taken_if (is_known_log_sound n.group epochs && is_restored object k) n (node_after_outputs n s.core epochs (due_of_outputs object n s.core n.epochs s.outs)) s.outs k
      (taken_sends n.core frame e taken) runs
