-- The step of a stopped core has no outputs and changes nothing.
use Rattle.std.proofs.Common.{◌≡◌, Bool, true, false, ◌&&◌, refl, ap, sym, if◌then◌else◌}
use Rattle.std.proofs.lemmas.Bool.{cond_both}
use Rattle.ring_base.specs.Processors.{has}
use Rattle.ring_base.specs.declared.state.State.{State}
use Rattle.ring_base.specs.declared.state.State.TheVariants.{Stopped}
use Rattle.ring_wire.specs.declared.frame.Frame.{Frame}
use Rattle.ring_wire.specs.declared.frame.Frame.TheVariants.{Message as MessageFrame, Token as TokenFrame, Join as JoinFrame}
use Rattle.ring_wire.specs.declared.frame.Frame.TheVariants.{Commit as CommitFrame}
use Rattle.ring_core_spec.specs.Commits.{is_at}
use Rattle.ring_core_spec.specs.declared.input.Input.{Input}
use Rattle.ring_core_spec.specs.declared.input.Input.TheVariants.{Frame as FrameInput, Timeout, Send}
use Rattle.ring_core_spec.specs.State.{Core, halted, is_stopped}
use Rattle.ring_core_spec.specs.Naming.{is_named}
use Rattle.ring_core_spec.specs.Views.{takes_number}
use Rattle.ring_core_spec.specs.Deciding.{Transition, Ignore, Take, takes_of, members_of, decide_token, decide_join, decide_round, decide_if_named}
use Rattle.ring_core_spec.specs.Deciding.{decide_timeout, decide_payload, decide}
use Rattle.ring_core_spec.specs.Giving.{installs_in}
use Rattle.ring_core_spec.specs.Stepping.{ring_step}
use Rattle.ring_core_spec.proofs.States.{stopped_state}
use Rattle.ring_srp.proofs.PayloadSent.{GaveNothing, ignored}

decides_frame : {A : Type 0} (b : Bool) (c : Core A) (frame : Frame A) → c.state ≡ Stopped → decide_if_named b c frame ≡ Ignore
decides_frame false c frame e = refl
decides_frame {A} true c (MessageFrame x) e =
    let decides : State → Transition A = λ s. if takes_of s c x.ring && has (members_of s c) x.sender && takes_number c x.ring x.number then Take x else Ignore in
    ap decides e
decides_frame true c (TokenFrame t) e = ap (λ s. decide_token s c t) e
decides_frame true c (JoinFrame j) e = ap (λ s. decide_join s c j) e
decides_frame {A} true c (CommitFrame k) e =
    cond_both (is_at c.me k) (decide_round c.state c k) Ignore (λ (a : Transition A). a ≡ Ignore) (λ t. ap (λ s. decide_round s c k) e) (λ t. refl)

decides_nothing : {A : Type 0} (c : Core A) (input : Input A) → c.state ≡ Stopped → decide c input ≡ Ignore
decides_nothing c (FrameInput frame) e = decides_frame (is_named c.total frame) c frame e
decides_nothing {A} c (Timeout kind) e = ap (λ s. decide_timeout {A = A} s kind) e
decides_nothing c (Send payload) e = ap (λ s. decide_payload s payload) e

pub stopped_step : {A : Type 0} (c : Core A) (input : Input A) → is_stopped c.state ≡ true → GaveNothing (ring_step c input) c
unfolding ring_step
stopped_step c input e =
    let s = stopped_state c.state e in
    rw (decides_nothing c input s) (ignored c (ap (λ t. installs_in t c) s))

-- it is what it was, and still stopped
pub stopped_halts : {A : Type 0} (c : Core A) → is_stopped c.state ≡ true → halted c ≡ c
stopped_halts {A} c e =
    let with_state : State → Core A = λ s. record c { state = s } in
    ap with_state (let s = stopped_state c.state e in sym s)
