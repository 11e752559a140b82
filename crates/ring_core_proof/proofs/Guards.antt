-- The tests that a transition has passed.
use Rattle.std.proofs.Common.{◌≡◌, Bool, true, false, inl, inr, refl}
use Rattle.std.proofs.lemmas.Bool.{cond_both, cases_Bool, and_parts, eqb-true, cond-false}
use Rattle.ring_payload.specs.declared.content.Payload.{Payload}
use Rattle.ring_payload.specs.Packing.{is_queued}
use Rattle.ring_wire.specs.declared.commit.CommitToken.{CommitToken}
use Rattle.ring_wire.specs.declared.frame.Frame.{Frame}
use Rattle.ring_wire.specs.declared.frame.Frame.TheVariants.{Message as MessageFrame, Token as TokenFrame, Join as JoinFrame, Commit as CommitFrame}
use Rattle.ring_wire.specs.declared.join.Join.{Join}
use Rattle.ring_wire.specs.declared.message.Message.{Message}
use Rattle.ring_wire.specs.declared.token.Token.{Token}
use Rattle.ring_core_spec.specs.Tokens.{first_token}
use Rattle.ring_core_spec.specs.Joins.{JoinEffect, Ignored, Agrees, Merges}
use Rattle.ring_core_spec.specs.Commits.{receiver, is_at}
use Rattle.ring_core_spec.specs.declared.input.Input.{Input}
use Rattle.ring_core_spec.specs.declared.input.Input.TheVariants.{Frame as FrameInput, Timeout, Send}
use Rattle.ring_base.specs.declared.timeout_kind.Kind.{Kind}
use Rattle.ring_base.specs.declared.timeout_kind.Kind.TheVariants.{Retransmit, Join as JoinTime, Consensus, Loss}
use Rattle.ring_base.specs.declared.state.State.{State}
use Rattle.ring_base.specs.declared.state.State.TheVariants.{Gather, Commit, Recovery, Operational, Stopped}
use Rattle.ring_core_spec.specs.State.{Core}
use Rattle.ring_core_spec.specs.Naming.{is_named}
use Rattle.ring_core_spec.specs.Visiting.{accepts}
use Rattle.ring_core_spec.specs.Joining.{gather_entered, join_effect_at, is_gather_trigger}
use Rattle.ring_core_spec.specs.CommitSteps.{takes_first_round, takes_second_round, takes_start}
use Rattle.ring_core_spec.specs.Deciding.{Ignore, Enqueue, Take, Visit, Fill, Learn, is_taken, decide_message, decide_token}
use Rattle.ring_core_spec.specs.Deciding.{transition_in_gather, transition_into_gather, decide_join_elsewhere, decide_join, decide_round}
use Rattle.ring_core_spec.specs.Deciding.{decide_commit, decide_frame, decide_if_named, decide_timeout, decide_in_operational}
use Rattle.ring_core_spec.specs.Deciding.{decide_payload, decide}
use Rattle.ring_core_proof.specs.LawConditions.{IsAway, HasPassed, TakesCommit}

in_message : {A : Type 0} → (c : Core A) (x : Message A) → HasPassed c (decide_message c x)
in_message c x = cond_both (is_taken c x) (Take x) Ignore (HasPassed c) (λ e. e) (λ e. tt)

in_token : {A : Type 0} → (s : State) (c : Core A) (t : Token) → c.state ≡ s → HasPassed c (decide_token s c t)
in_token Recovery c t h = cond_both (accepts c t) (Visit t) Ignore (HasPassed c) (λ e. (inl h, e)) (λ e. tt)
in_token Operational c t h = cond_both (accepts c t) (Visit t) Ignore (HasPassed c) (λ e. (inr h, e)) (λ e. tt)
in_token Gather c t h = tt
in_token Commit c t h = tt
in_token Stopped c t h = tt

in_gather : {A : Type 0} → (c : Core A) (j : Join) (x : JoinEffect) → c.state ≡ Gather → join_effect_at c j ≡ x → HasPassed c (transition_in_gather x j)
in_gather c j Ignored h e = tt
in_gather c j Agrees h e = (h, e)
in_gather c j Merges h e = (h, e)

in_other : {A : Type 0} → (c : Core A) (j : Join) (x : JoinEffect) → (c.state ≡ Stopped → ⊥) → IsAway c.state
    → is_gather_trigger c j ≡ true → join_effect_at (gather_entered c) j ≡ x → HasPassed c (transition_into_gather x j)
in_other c j Ignored h a d e = h
in_other c j Agrees h a d e = record { state = a; passes = d; effect_is = e }
in_other c j Merges h a d e = record { state = a; passes = d; effect_is = e }

in_overhear : {A : Type 0} → (c : Core A) (j : Join) → (c.state ≡ Stopped → ⊥) → IsAway c.state → HasPassed c (decide_join_elsewhere c j)
in_overhear c j h a = cond_both (is_gather_trigger c j) _ Ignore (HasPassed c) (λ d. in_other c j (join_effect_at (gather_entered c) j) h a d refl) (λ d. tt)

in_join : {A : Type 0} → (s : State) (c : Core A) (j : Join) → c.state ≡ s → HasPassed c (decide_join s c j)
in_join Gather c j h = in_gather c j (join_effect_at c j) h refl
in_join Stopped c j h = tt
in_join Commit c j h = in_overhear c j (λ e. (let q : Commit ≡ Stopped = cc in cc)) (inl h)
in_join Recovery c j h = in_overhear c j (λ e. (let q : Recovery ≡ Stopped = cc in cc)) (inr (inl h))
in_join Operational c j h = in_overhear c j (λ e. (let q : Operational ≡ Stopped = cc in cc)) (inr (inr h))

in_round : {A : Type 0} → (s : State) (c : Core A) (k : CommitToken) → c.state ≡ s → is_at c.me k ≡ true → HasPassed c (decide_round s c k)
in_round Gather c k h at = cond_both (takes_first_round c k) (Fill k) Ignore (HasPassed c) (λ e. record { state = h; here = at; passes = e }) (λ e. tt)
in_round Commit c k h at = cond_both (takes_second_round c k) (Learn k) Ignore (HasPassed c) (λ e. record { state = h; here = at; passes = e }) (λ e. tt)
in_round Recovery c k h at = cond_both (takes_start c k) (Visit (first_token k.ring)) Ignore (HasPassed c)
    (λ e. (inl h, (and_parts _ (accepts c (first_token k.ring)) e).1)) (λ e. tt)
in_round Operational c k h at = tt
in_round Stopped c k h at = tt

in_commit : {A : Type 0} → (c : Core A) (k : CommitToken) → HasPassed c (decide_commit c k)
in_commit c k = cond_both (is_at c.me k) _ Ignore (HasPassed c) (λ e. in_round c.state c k refl e) (λ e. tt)

in_frame : {A : Type 0} → (c : Core A) (frame : Frame A) → HasPassed c (decide_frame c frame)
in_frame c (MessageFrame x) = in_message c x
in_frame c (TokenFrame t) = in_token c.state c t refl
in_frame c (JoinFrame j) = in_join c.state c j refl
in_frame c (CommitFrame k) = in_commit c k

in_named : {A : Type 0} → (b : Bool) (c : Core A) (frame : Frame A) → HasPassed c (decide_if_named b c frame)
in_named true c frame = in_frame c frame
in_named false c frame = tt

in_time : {A : Type 0} → (c : Core A) (s : State) (kind : Kind) → c.state ≡ s → HasPassed c (decide_timeout s kind)
in_time c Stopped kind h = tt
in_time c Gather Retransmit h = λ e. (let q : Gather ≡ Stopped = cc in cc)
in_time c Gather Loss h = λ e. (let q : Gather ≡ Stopped = cc in cc)
in_time c Gather JoinTime h = h
in_time c Gather Consensus h = h
in_time c Operational Retransmit h = λ e. (let q : Operational ≡ Stopped = cc in cc)
in_time c Operational Loss h = λ e. (let q : Operational ≡ Stopped = cc in cc)
in_time c Operational JoinTime h = h
in_time c Operational Consensus h = tt
in_time c Commit Retransmit h = λ e. (let q : Commit ≡ Stopped = cc in cc)
in_time c Commit Loss h = λ e. (let q : Commit ≡ Stopped = cc in cc)
in_time c Commit JoinTime h = tt
in_time c Commit Consensus h = tt
in_time c Recovery Retransmit h = λ e. (let q : Recovery ≡ Stopped = cc in cc)
in_time c Recovery Loss h = λ e. (let q : Recovery ≡ Stopped = cc in cc)
in_time c Recovery JoinTime h = tt
in_time c Recovery Consensus h = tt

in_user : {A : Type 0} → (c : Core A) (payload : Payload A) → c.state ≡ Operational → HasPassed c (decide_in_operational payload)
in_user c payload h = cond_both (is_queued payload) (Enqueue payload) Ignore (HasPassed c) (λ e. (h, e)) (λ e. tt)

in_payload : {A : Type 0} → (c : Core A) (s : State) (payload : Payload A) → c.state ≡ s → HasPassed c (decide_payload s payload)
in_payload c Operational payload h = in_user c payload h
in_payload c Gather payload h = tt
in_payload c Commit payload h = tt
in_payload c Recovery payload h = tt
in_payload c Stopped payload h = tt

-- each transition that is chosen has passed its tests
pub guarded : {A : Type 0} → (c : Core A) (input : Input A) → HasPassed c (decide c input)
guarded c (FrameInput frame) = in_named (is_named c.total frame) c frame
guarded c (Timeout kind) = in_time c c.state kind refl
guarded c (Send payload) = in_payload c c.state payload refl

-- a commit token is taken at one position alone
taken_here : {A : Type 0} → (b : Bool) (c : Core A) (k : CommitToken) → (decide_if_named b c (CommitFrame k) ≡ Ignore → ⊥) → receiver k ≡ c.me
taken_here false c k h = absurd (h refl)
taken_here true c k h =
    elim (cases_Bool (is_at c.me k)) [
      | inl e ↦ eqb-true (receiver k) c.me e
      | inr e ↦ absurd (h (cond-false (is_at c.me k) _ Ignore e))
    ]

pub one_position : {A : Type 0} → (c : Core A) (k : CommitToken) → TakesCommit c k → receiver k ≡ c.me
one_position {A} c k h = taken_here (is_named {A = A} c.total (CommitFrame k)) c k h
