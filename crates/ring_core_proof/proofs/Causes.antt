-- The input that each transition is about.
use Rattle.std.proofs.Common.{◌≡◌, Bool, true, false, inl, inr, refl}
use Rattle.std.proofs.lemmas.Bool.{cond_both, and_parts}
use Rattle.ring_payload.specs.declared.content.Payload.{Payload}
use Rattle.ring_payload.specs.Packing.{is_queued}
use Rattle.ring_wire.specs.declared.commit.CommitToken.{CommitToken}
use Rattle.ring_wire.specs.declared.frame.Frame.{Frame}
use Rattle.ring_wire.specs.declared.frame.Frame.TheVariants.{Message as MessageFrame, Token as TokenFrame, Join as JoinFrame, Commit as CommitFrame}
use Rattle.ring_wire.specs.declared.join.Join.{Join}
use Rattle.ring_wire.specs.declared.message.Message.{Message}
use Rattle.ring_wire.specs.declared.token.Token.{Token}
use Rattle.ring_core_spec.specs.Tokens.{first_token}
use Rattle.ring_core_spec.specs.Joins.{JoinEffect, Ignored, Agrees, Merges}
use Rattle.ring_core_spec.specs.Commits.{is_at}
use Rattle.ring_core_spec.specs.declared.input.Input.{Input}
use Rattle.ring_core_spec.specs.declared.input.Input.TheVariants.{Frame as FrameInput, Timeout, Send}
use Rattle.ring_base.specs.declared.timeout_kind.Kind.{Kind}
use Rattle.ring_base.specs.declared.timeout_kind.Kind.TheVariants.{Retransmit, Join as JoinTime, Consensus, Loss}
use Rattle.ring_base.specs.declared.state.State.{State}
use Rattle.ring_base.specs.declared.state.State.TheVariants.{Gather, Commit, Recovery, Operational, Stopped}
use Rattle.ring_core_spec.specs.State.{Core}
use Rattle.ring_core_spec.specs.Naming.{is_named}
use Rattle.ring_core_spec.specs.Visiting.{accepts}
use Rattle.ring_core_spec.specs.Joining.{gather_entered, join_effect_at, is_gather_trigger}
use Rattle.ring_core_spec.specs.CommitSteps.{takes_first_round, takes_second_round, takes_start}
use Rattle.ring_core_spec.specs.Deciding.{Ignore, Enqueue, Take, Visit, Fill, Learn, is_taken, decide_message, decide_token}
use Rattle.ring_core_spec.specs.Deciding.{transition_in_gather, transition_into_gather, decide_join_elsewhere, decide_join, decide_round}
use Rattle.ring_core_spec.specs.Deciding.{decide_commit, decide_frame, decide_if_named, decide_timeout, decide_payload, decide}
use Rattle.ring_core_proof.specs.LawConditions.{IsAway, IsInputOf}

by_message : {A : Type 0} → (c : Core A) (x : Message A) → IsInputOf c (FrameInput (MessageFrame x)) (decide_message c x)
by_message c x = cond_both (is_taken c x) (Take x) Ignore (IsInputOf c (FrameInput (MessageFrame x))) (λ e. refl) (λ e. tt)

by_token : {A : Type 0} → (s : State) (c : Core A) (t : Token) → IsInputOf c (FrameInput (TokenFrame t)) (decide_token s c t)
by_token Recovery c t = cond_both (accepts c t) (Visit t) Ignore (IsInputOf c (FrameInput (TokenFrame t))) (λ e. inl refl) (λ e. tt)
by_token Operational c t = cond_both (accepts c t) (Visit t) Ignore (IsInputOf c (FrameInput (TokenFrame t))) (λ e. inl refl) (λ e. tt)
by_token Gather c t = tt
by_token Commit c t = tt
by_token Stopped c t = tt

heard_there : {A : Type 0} → (c : Core A) (j : Join) (x : JoinEffect) → IsInputOf c (FrameInput (JoinFrame j)) (transition_in_gather x j)
heard_there c j Ignored = tt
heard_there c j Agrees = refl
heard_there c j Merges = refl

heard_away : {A : Type 0} → (c : Core A) (j : Join) (x : JoinEffect) → IsAway c.state → is_gather_trigger c j ≡ true
    → join_effect_at (gather_entered c) j ≡ x → IsInputOf c (FrameInput (JoinFrame j)) (transition_into_gather x j)
heard_away c j Ignored a d e = inr (record { join = j; received = refl; leads = record { state = a; passes = d; effect_is = e } })
heard_away c j Agrees a d e = refl
heard_away c j Merges a d e = refl

by_overheard : {A : Type 0} → (c : Core A) (j : Join) → IsAway c.state → IsInputOf c (FrameInput (JoinFrame j)) (decide_join_elsewhere c j)
by_overheard c j a = cond_both (is_gather_trigger c j) _ Ignore (IsInputOf c (FrameInput (JoinFrame j))) (λ d. heard_away c j (join_effect_at (gather_entered c) j) a d refl) (λ d. tt)

by_join : {A : Type 0} → (s : State) (c : Core A) (j : Join) → c.state ≡ s → IsInputOf c (FrameInput (JoinFrame j)) (decide_join s c j)
by_join Gather c j h = heard_there c j (join_effect_at c j)
by_join Stopped c j h = tt
by_join Commit c j h = by_overheard c j (inl h)
by_join Recovery c j h = by_overheard c j (inr (inl h))
by_join Operational c j h = by_overheard c j (inr (inr h))

by_round : {A : Type 0} → (s : State) (c : Core A) (k : CommitToken) → c.state ≡ s → is_at c.me k ≡ true
    → IsInputOf c (FrameInput (CommitFrame k)) (decide_round s c k)
by_round Gather c k h at = cond_both (takes_first_round c k) (Fill k) Ignore (IsInputOf c (FrameInput (CommitFrame k))) (λ e. refl) (λ e. tt)
by_round Commit c k h at = cond_both (takes_second_round c k) (Learn k) Ignore (IsInputOf c (FrameInput (CommitFrame k))) (λ e. refl) (λ e. tt)
by_round Recovery c k h at =
    cond_both (takes_start c k) (Visit (first_token k.ring)) Ignore (IsInputOf c (FrameInput (CommitFrame k)))
    (λ e. inr (record { commit = k; received = refl; state = h; here = at; starts = (and_parts _ (accepts c (first_token k.ring)) e).0; first = refl })) (λ e. tt)
by_round Operational c k h at = tt
by_round Stopped c k h at = tt

by_commit : {A : Type 0} → (c : Core A) (k : CommitToken) → IsInputOf c (FrameInput (CommitFrame k)) (decide_commit c k)
by_commit c k = cond_both (is_at c.me k) _ Ignore (IsInputOf c (FrameInput (CommitFrame k))) (λ e. by_round c.state c k refl e) (λ e. tt)

by_frame : {A : Type 0} → (c : Core A) (frame : Frame A) → IsInputOf c (FrameInput frame) (decide_frame c frame)
by_frame c (MessageFrame x) = by_message c x
by_frame c (TokenFrame t) = by_token c.state c t
by_frame c (JoinFrame j) = by_join c.state c j refl
by_frame c (CommitFrame k) = by_commit c k

by_named : {A : Type 0} → (b : Bool) (c : Core A) (frame : Frame A) → IsInputOf c (FrameInput frame) (decide_if_named b c frame)
by_named true c frame = by_frame c frame
by_named false c frame = tt

by_time : {A : Type 0} → (c : Core A) (s : State) (kind : Kind) → IsInputOf c (Timeout kind) (decide_timeout s kind)
by_time c Stopped kind = tt
by_time c Gather Retransmit = refl
by_time c Gather Loss = inl refl
by_time c Gather JoinTime = refl
by_time c Gather Consensus = refl
by_time c Operational Retransmit = refl
by_time c Operational Loss = inl refl
by_time c Operational JoinTime = refl
by_time c Operational Consensus = tt
by_time c Commit Retransmit = refl
by_time c Commit Loss = inl refl
by_time c Commit JoinTime = tt
by_time c Commit Consensus = tt
by_time c Recovery Retransmit = refl
by_time c Recovery Loss = inl refl
by_time c Recovery JoinTime = tt
by_time c Recovery Consensus = tt

by_payload : {A : Type 0} → (c : Core A) (s : State) (payload : Payload A) → IsInputOf c (Send payload) (decide_payload s payload)
by_payload c Operational payload = cond_both (is_queued payload) (Enqueue payload) Ignore (IsInputOf c (Send payload)) (λ e. refl) (λ e. tt)
by_payload c Gather payload = tt
by_payload c Commit payload = tt
by_payload c Recovery payload = tt
by_payload c Stopped payload = tt

-- each transition is about the input that arrived
pub caused : {A : Type 0} → (c : Core A) (input : Input A) → IsInputOf c input (decide c input)
caused c (FrameInput frame) = by_named (is_named c.total frame) c frame
caused c (Timeout kind) = by_time c c.state kind
caused c (Send payload) = by_payload c c.state payload
