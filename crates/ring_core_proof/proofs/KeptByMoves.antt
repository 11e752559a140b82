-- A property that each move keeps holds for each core after all inputs, and for each core of every world.
use Rattle.std.proofs.Common.{◌≡◌, ℕ, Bool, true, false, ◌==◌, List, [], ◌∷◌, Option, Some, None, inr, refl, sym, subst}
use Rattle.std.proofs.lemmas.Bool.{cond_both}
use Rattle.ring_base.specs.Processors.{has}
use Rattle.ring_base.specs.declared.state.State.TheVariants.{Stopped}
use Rattle.ring_wire.specs.declared.frame.Frame.{Frame}
use Rattle.ring_core_spec.specs.declared.input.Input.{Input}
use Rattle.ring_core_spec.specs.declared.input.Input.TheVariants.{Frame as FrameInput, Timeout as TimeInput, Send as SendInput}
use Rattle.ring_core_spec.specs.declared.out.Out.{Out}
use Rattle.ring_core_spec.specs.State.{Core, halted, frame_at}
use Rattle.ring_core_spec.specs.Giving.{may_install, with_installation_if}
use Rattle.ring_core_spec.specs.Stepping.{ring_step, after_inputs}
use Rattle.ring_core_proof.specs.declared.event.RingEvent.{RingEvent}
use Rattle.ring_core_proof.specs.declared.event.RingEvent.TheVariants.{Send, Deliver, Timeout, Stop}
use Rattle.ring_core_proof.specs.Worlds.{Transmission, World, with_core, is_node, stepped_if, stopped_if, handed_if, handed, world_after_event, run}
use Rattle.ring_core_proof.specs.Moves.{Move, Idles, Installs, core_after_move, MayIdle, MayMove, after_moves, MayAll, MayInstall}
use Rattle.ring_core_proof.proofs.StepsAreMoves.{step_moves}

-- each move keeps it, whatever frames arrived
pub record IsKeptByMoves {A : Type 0} (P : Core A → Type 0) : Type 1 where
  pub moves : (received : Frame A → Type 0) (c : Core A) (m : Move A) → MayMove received c m → P c → P (core_after_move c m)

kept_all : {A : Type 0} → (P : Core A → Type 0) → IsKeptByMoves P → (received : Frame A → Type 0) (c : Core A) (ms : List (Move A)) → MayAll received c ms → P c →
    P (after_moves c ms)
kept_all P k received c [] h p = p
kept_all P k received c (m ∷ ms) h p = kept_all P k received (core_after_move c m) ms h.1 (k.moves received c m h.0 p)

kept_settled : {A : Type 0} → (P : Core A → Type 0) → IsKeptByMoves P → (b : Bool) (c : Core A) (outs : List (Out A)) → (b ≡ true → MayInstall c) → P c →
    P (with_installation_if b c outs).core
kept_settled P k false c outs h p = p
kept_settled P k true c outs h p = k.moves (λ frame. Unit {0}) c Installs (h refl) p

-- a step keeps it, and so does a stop
pub kept_step : {A : Type 0} → (P : Core A → Type 0) → IsKeptByMoves P → (c : Core A) (input : Input A) → P c → P (ring_step c input).core
kept_step P k c input p =
    let s = step_moves c input in
    let d = after_moves c s.moves in
    subst (λ x. P x.core) (sym s.step) (kept_settled P k (may_install d) d _ s.installs (kept_all P k (λ frame. input ≡ FrameInput frame) c s.moves s.may p))

pub may_halt : {A : Type 0} → (c : Core A) → MayIdle c Stopped c.gathering c.last_sent c.queue []
may_halt c = record { leaves = inr (inr refl); joins = λ a. a; shows = inr refl; queued = λ q. q; sent = tt }

pub kept_stop : {A : Type 0} → (P : Core A → Type 0) → IsKeptByMoves P → (c : Core A) → P c → P (halted c)
kept_stop P k c p = k.moves (λ frame. Unit {0}) c (Idles Stopped c.gathering c.last_sent c.queue []) (may_halt c) p

-- each step and each stop keeps it: by moves, or by the definition's transitions
pub record IsStepKept {A : Type 0} (P : Core A → Type 0) : Type 1 where
  pub steps : (c : Core A) (input : Input A) → P c → P (ring_step c input).core
  pub stops : (c : Core A) → P c → P (halted c)

by_moves : {A : Type 0} → (P : Core A → Type 0) → IsKeptByMoves P → IsStepKept P
by_moves P k = record { steps = kept_step P k; stops = kept_stop P k }

pub after_all : {A : Type 0} → (P : Core A → Type 0) → IsStepKept P → (c : Core A) (inputs : List (Input A)) → P c → P (after_inputs c inputs)
after_all P k c [] p = p
after_all P k c (x ∷ inputs) p = after_all P k (ring_step c x).core inputs (k.steps c x p)

pub always : {A : Type 0} → (P : Core A → Type 0) → IsKeptByMoves P → (c : Core A) (inputs : List (Input A)) → P c → P (after_inputs c inputs)
always P k c inputs p = after_all P (by_moves P k) c inputs p

-- Worlds

abbrev pub Everywhere : {A : Type 0} → (Core A → Type 0) → World A → Type 0
Everywhere P w = (i : ℕ) → P (w.cores i)

kept_put : {A : Type 0} → (P : Core A → Type 0) (cores : ℕ → Core A) (i : ℕ) (c : Core A) → ((j : ℕ) → P (cores j)) → P c → (j : ℕ) → P (with_core cores i c j)
kept_put P cores i c h p j = cond_both (j == i) c (cores j) P (λ e. p) (λ e. h j)

kept_stepped : {A : Type 0} → (P : Core A → Type 0) → IsStepKept P → (b : Bool) (w : World A) (i : ℕ) (input : Input A) → Everywhere P w →
    Everywhere P (stepped_if b w i input)
kept_stepped P k false w i input h = h
kept_stepped P k true w i input h = kept_put P w.cores i (ring_step (w.cores i) input).core h (k.steps (w.cores i) input (h i))

kept_stopped : {A : Type 0} → (P : Core A → Type 0) → IsStepKept P → (b : Bool) (w : World A) (i : ℕ) → Everywhere P w → Everywhere P (stopped_if b w i)
kept_stopped P k false w i h = h
kept_stopped P k true w i h = kept_put P w.cores i (halted (w.cores i)) h (k.stops (w.cores i) (h i))

kept_if : {A : Type 0} → (P : Core A → Type 0) → IsStepKept P → (b : Bool) (w : World A) (i : ℕ) (frame : Frame A) → Everywhere P w →
    Everywhere P (handed_if b w i frame)
kept_if P k false w i frame h = h
kept_if P k true w i frame h = kept_stepped P k (is_node w i) w i (FrameInput frame) h

kept_handed : {A : Type 0} → (P : Core A → Type 0) → IsStepKept P → (w : World A) (i : ℕ) (f : Option (Transmission A)) → Everywhere P w →
    Everywhere P (handed w i f)
kept_handed P k w i None h = h
kept_handed P k w i (Some f) h = kept_if P k (has f.to i) w i f.frame h

kept_event : {A : Type 0} → (P : Core A → Type 0) → IsStepKept P → (w : World A) (e : RingEvent A) → Everywhere P w → Everywhere P (world_after_event w e)
kept_event P k w (Send i payload) h = kept_stepped P k (is_node w i) w i (SendInput payload) h
kept_event P k w (Deliver i n) h = kept_handed P k w i (frame_at w.frames n) h
kept_event P k w (Timeout i kind) h = kept_stepped P k (is_node w i) w i (TimeInput kind) h
kept_event P k w (Stop i) h = kept_stopped P k (is_node w i) w i h

pub kept_run : {A : Type 0} → (P : Core A → Type 0) → IsStepKept P → (w : World A) (events : List (RingEvent A)) → Everywhere P w → Everywhere P (run w events)
kept_run P k w [] h = h
kept_run P k w (e ∷ events) h = kept_run P k (world_after_event w e) events (kept_event P k w e h)

pub everywhere : {A : Type 0} → (P : Core A → Type 0) → IsKeptByMoves P → (w : World A) (events : List (RingEvent A)) → Everywhere P w → Everywhere P (run w events)
everywhere P k w events h = kept_run P (by_moves P k) w events h
