-- The conditions of a transition were tested when it was chosen.
use Rattle.std.proofs.Common.{◌≡◌, ℕ, Bool, true, false, refl, ap, arith}
use Rattle.std.proofs.lemmas.Bool.{cond_both, and_parts}
use Rattle.ring_base.specs.declared.timeout_kind.Kind.{Kind}
use Rattle.ring_base.specs.declared.timeout_kind.Kind.TheVariants.{Retransmit, Join as JoinTime, Consensus, Loss}
use Rattle.ring_base.specs.declared.ring_id.RingId.{RingId}
use Rattle.ring_base.specs.declared.state.State.{State}
use Rattle.ring_base.specs.declared.state.State.TheVariants.{Gather, Commit, Recovery, Operational, Stopped}
use Rattle.ring_payload.specs.declared.content.Payload.{Payload}
use Rattle.ring_payload.specs.Packing.{is_queued}
use Rattle.ring_wire.specs.Commits.{CommitFits}
use Rattle.ring_wire.specs.Frames.{FrameFits}
use Rattle.ring_wire.specs.Tokens.{TokenFits}
use Rattle.ring_wire.specs.declared.commit.CommitToken.{CommitToken}
use Rattle.ring_wire.specs.declared.frame.Frame.{Frame}
use Rattle.ring_wire.specs.declared.frame.Frame.TheVariants.{Message as MessageFrame, Token as TokenFrame, Join as JoinFrame}
use Rattle.ring_wire.specs.declared.frame.Frame.TheVariants.{Commit as CommitFrame}
use Rattle.ring_wire.specs.declared.join.Join.{Join}
use Rattle.ring_wire.specs.declared.message.Message.{Message}
use Rattle.ring_wire.specs.declared.token.Token.{Token}
use Rattle.ring_core_spec.specs.Tokens.{first_token}
use Rattle.ring_core_spec.specs.Joins.{JoinEffect, Ignored, Agrees, Merges}
use Rattle.ring_core_spec.specs.Commits.{is_at}
use Rattle.ring_core_spec.specs.declared.input.Input.{Input}
use Rattle.ring_core_spec.specs.declared.input.Input.TheVariants.{Frame as FrameInput, Timeout, Send}
use Rattle.ring_core_spec.specs.State.{Core, formed_ring_of, formed}
use Rattle.ring_core_spec.specs.Naming.{is_named}
use Rattle.ring_core_spec.specs.Visiting.{accepts}
use Rattle.ring_core_spec.specs.Joining.{gather_entered, join_effect_at, is_gather_trigger}
use Rattle.ring_core_spec.specs.CommitSteps.{takes_first_round, takes_second_round, takes_start}
use Rattle.ring_core_spec.specs.Deciding.{Ignore, Enqueue, Take, Visit, Fill, Learn, is_taken, decide_message, decide_token}
use Rattle.ring_core_spec.specs.Deciding.{transition_in_gather, transition_into_gather, decide_join_elsewhere, decide_join, decide_round}
use Rattle.ring_core_spec.specs.Deciding.{decide_commit, decide_frame, decide_if_named, decide_timeout, decide_in_operational}
use Rattle.ring_core_spec.specs.Deciding.{decide_payload, decide}
use Rattle.ring_srp_transitions.specs.Allowing.{MayApply, InputFits, TokenGoes, VisitAllowed}
use Rattle.ring_srp_transitions.specs.RunningCores.{is_running}
use Rattle.ring_core_spec.proofs.Joins.{agrees_same}

-- Tokens

token_goes : (t : Token) → TokenFits t → TokenGoes t
token_goes t f = record { seq = f.seq; ascending = f.ascending }

first_goes : (ring : RingId) → TokenGoes (first_token ring)
first_goes ring = record { seq = omega arith; ascending = λ k l. absurd (omega arith) }

-- the representative of a formed ring may visit the first token
pub first_allowed : {A : Type 0} (n : ℕ) (c : Core A) (t : Token) → c ≡ formed n 1 → t ≡ first_token (formed_ring_of n).ring → VisitAllowed c t
first_allowed n c t e f = rw (e, f) (record { runs = refl; passes = refl; goes = first_goes (formed_ring_of n).ring })

in_token : {A : Type 0} (s : State) (c : Core A) (t : Token) → c.state ≡ s → TokenGoes t → MayApply c (decide_token s c t)
in_token Recovery c t h g = cond_both (accepts c t) (Visit t) Ignore (MayApply c) (λ e. record { runs = ap is_running h; passes = e; goes = g }) (λ e. tt)
in_token Operational c t h g = cond_both (accepts c t) (Visit t) Ignore (MayApply c) (λ e. record { runs = ap is_running h; passes = e; goes = g }) (λ e. tt)
in_token Gather c t h g = tt
in_token Commit c t h g = tt
in_token Stopped c t h g = tt

-- Messages

in_message : {A : Type 0} (c : Core A) (x : Message A) → MayApply c (decide_message c x)
in_message c x = cond_both (is_taken c x) (Take x) Ignore (MayApply c) (λ e. e) (λ e. tt)

-- Joins

in_gather : {A : Type 0} (c : Core A) (j : Join) (x : JoinEffect) → c.state ≡ Gather → join_effect_at c j ≡ x → MayApply c (transition_in_gather x j)
in_gather c j Ignored h e = tt
in_gather c j Agrees h e = (h, agrees_same c.me c.gathering j e)
in_gather c j Merges h e = h

in_other : {A : Type 0} (c : Core A) (j : Join) (x : JoinEffect) → join_effect_at (gather_entered c) j ≡ x → MayApply c (transition_into_gather x j)
in_other c j Ignored e = tt
in_other c j Agrees e = agrees_same c.me (gather_entered c).gathering j e
in_other c j Merges e = tt

in_overhear : {A : Type 0} (c : Core A) (j : Join) → MayApply c (decide_join_elsewhere c j)
in_overhear c j = cond_both (is_gather_trigger c j) _ Ignore (MayApply c) (λ d. in_other c j (join_effect_at (gather_entered c) j) refl) (λ d. tt)

in_join : {A : Type 0} (s : State) (c : Core A) (j : Join) → c.state ≡ s → MayApply c (decide_join s c j)
in_join Gather c j h = in_gather c j (join_effect_at c j) h refl
in_join Stopped c j h = tt
in_join Commit c j h = in_overhear c j
in_join Recovery c j h = in_overhear c j
in_join Operational c j h = in_overhear c j

-- Commit tokens

in_round : {A : Type 0} (s : State) (c : Core A) (k : CommitToken) → c.state ≡ s → is_at c.me k ≡ true → CommitFits k → MayApply c (decide_round s c k)
in_round Gather c k h at f = cond_both (takes_first_round c k) (Fill k) Ignore (MayApply c) (λ e. record { state = h; here = at; passes = e; fits = f }) (λ e. tt)
in_round Commit c k h at f = cond_both (takes_second_round c k) (Learn k) Ignore (MayApply c) (λ e. record { state = h; here = at; passes = e; fits = f })
    (λ e. tt)
in_round Recovery c k h at f =
    cond_both (takes_start c k) (Visit (first_token k.ring)) Ignore (MayApply c)
    (λ e. record { runs = ap is_running h; passes = (and_parts _ (accepts c (first_token k.ring)) e).1; goes = first_goes k.ring })
    (λ e. tt)
in_round Operational c k h at f = tt
in_round Stopped c k h at f = tt

in_commit : {A : Type 0} (c : Core A) (k : CommitToken) → CommitFits k → MayApply c (decide_commit c k)
in_commit c k f = cond_both (is_at c.me k) _ Ignore (MayApply c) (λ e. in_round c.state c k refl e f) (λ e. tt)

-- All inputs

in_frame : {A : Type 0} (c : Core A) (frame : Frame A) → FrameFits frame → MayApply c (decide_frame c frame)
in_frame c (MessageFrame x) f = in_message c x
in_frame c (TokenFrame t) f = in_token c.state c t refl (token_goes t f)
in_frame c (JoinFrame j) f = in_join c.state c j refl
in_frame c (CommitFrame k) f = in_commit c k f

in_named : {A : Type 0} (b : Bool) (c : Core A) (frame : Frame A) → FrameFits frame → MayApply c (decide_if_named b c frame)
in_named true c frame f = in_frame c frame f
in_named false c frame f = tt

in_time : {A : Type 0} (c : Core A) (s : State) (kind : Kind) → c.state ≡ s → MayApply c (decide_timeout s kind)
in_time c Stopped kind h = tt
in_time c Gather Retransmit h = tt
in_time c Gather Loss h = tt
in_time c Gather JoinTime h = h
in_time c Gather Consensus h = h
in_time c Operational Retransmit h = tt
in_time c Operational Loss h = tt
in_time c Operational JoinTime h = tt
in_time c Operational Consensus h = tt
in_time c Commit Retransmit h = tt
in_time c Commit Loss h = tt
in_time c Commit JoinTime h = tt
in_time c Commit Consensus h = tt
in_time c Recovery Retransmit h = tt
in_time c Recovery Loss h = tt
in_time c Recovery JoinTime h = tt
in_time c Recovery Consensus h = tt

in_user : {A : Type 0} (c : Core A) (payload : Payload A) → MayApply c (decide_in_operational payload)
in_user c payload = cond_both (is_queued payload) (Enqueue payload) Ignore (MayApply c) (λ e. tt) (λ e. tt)

in_payload : {A : Type 0} (s : State) (c : Core A) (payload : Payload A) → MayApply c (decide_payload s payload)
in_payload Operational c payload = in_user c payload
in_payload Gather c payload = tt
in_payload Commit c payload = tt
in_payload Recovery c payload = tt
in_payload Stopped c payload = tt

pub allowed : {A : Type 0} (c : Core A) (input : Input A) → InputFits input → MayApply c (decide c input)
allowed c (FrameInput frame) f = in_named (is_named c.total frame) c frame f
allowed c (Timeout kind) f = in_time c c.state kind refl
allowed c (Send payload) f = in_payload c.state c payload
