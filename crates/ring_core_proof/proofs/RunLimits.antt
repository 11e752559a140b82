-- Every frame ever sent keeps the limits, and every core does: from both openings, after all events whose payloads keep them.
use Rattle.std.proofs.Common.{◌≡◌, ℕ, zero, suc, ◌≤◌, inr, Bool, true, false, ◌==◌, List, [], ◌∷◌, Option, Some, None, refl, arith}
use Rattle.std.specs.Prelude.{nat_le, filter, filter_map, not}
use Rattle.std.specs.List.{AllByRecursion as Each, cons_option}
use Rattle.std.proofs.lemmas.Bool.{cond_both, and_parts, leb-true}
use Rattle.ring_base.specs.Processors.{nobody, has, everybody}
use Rattle.ring_base.specs.Members.{only_members, everybody_members}
use Rattle.ring_base.specs.declared.state.State.TheVariants.{Operational}
use Rattle.ring_base.proofs.Each.{each-append, each-get, each-map, each-filter}
use Rattle.ring_wire.specs.Frames.{FrameFits}
use Rattle.ring_wire.specs.declared.frame.Frame.{Frame}
use Rattle.ring_wire.specs.declared.token.Token.{Token}
use Rattle.ring_core_spec.specs.Tokens.{first_token}
use Rattle.ring_core_spec.specs.declared.input.Input.{Input}
use Rattle.ring_core_spec.specs.declared.input.Input.TheVariants.{Frame as FrameInput, Timeout as TimeInput, Send as SendInput}
use Rattle.ring_core_spec.specs.declared.out.Out.{Out}
use Rattle.ring_core_spec.specs.declared.out.Out.TheVariants.{Send as SendOut, Agreed, Safe, Trans, Rest, Regular}
use Rattle.ring_core_spec.specs.State.{Core, OutgoingFrame, formed_ring_of, opening_ring, opening, formed, halted, frame_at}
use Rattle.ring_core_spec.specs.Visiting.{room_at}
use Rattle.ring_core_spec.specs.Giving.{sends_with_receivers}
use Rattle.ring_core_spec.specs.Deciding.{Visit}
use Rattle.ring_core_spec.specs.Transitions.{apply_transition}
use Rattle.ring_core_spec.specs.Stepping.{ring_step}
use Rattle.ring_core_proof.specs.declared.event.RingEvent.{RingEvent}
use Rattle.ring_core_proof.specs.declared.event.RingEvent.TheVariants.{Send, Deliver, Timeout, Stop}
use Rattle.ring_core_proof.specs.Moves.{MayMove}
use Rattle.ring_core_proof.specs.Worlds.{Transmission, World, with_core, transmission_by, is_node, stepped_if, stopped_if, handed_if, handed}
use Rattle.ring_core_proof.specs.Worlds.{world_after_event, run, unformed, ring_formed, has_effect_on_formed, run_formed}
use Rattle.ring_core_proof.proofs.Ended.{installed_below}
use Rattle.ring_core_proof.proofs.StepsAreMoves.{move_of, fresh_short, fresh_users, all_repeats, queue_kept}
use Rattle.ring_core_proof.specs.Limits.{InputFits, EventFits, OutFits, RingFitsIn, CoreFits, WorldFits, SentFits}
use Rattle.ring_core_proof.proofs.SetLimits.{only_lt, everybody_lt, entered_fits}
use Rattle.ring_core_proof.proofs.TokenLimits.{MayGo, first_goes}
use Rattle.ring_core_proof.proofs.TransitionLimits.{visited_fits, step_fits}

-- Openings

alone_fits : (me : ℕ) → 1 ≤ me → me ≤ 16 → RingFitsIn me (opening_ring me)
alone_fits me low high =
    record { ring = record { seq = omega arith; rep = (low, high) }; members = only_lt me (low, high); mine = (only_members me me low).1 refl }

all_fits : (n me : ℕ) → 1 ≤ me → me ≤ n → n ≤ 16 → RingFitsIn me (formed_ring_of n)
all_fits n me low high most =
    record {
      ring = record { seq = omega arith; rep = (omega arith, omega arith) };
      members = everybody_lt n most;
      mine = (everybody_members n me).1 (low, high);
    }

pub opening_fits : {A : Type 0} → (n me : ℕ) → 1 ≤ me → me ≤ n → n ≤ 16 → CoreFits {A = A} (opening n me)
opening_fits n me low high most =
    record {
      me = (low, omega arith);
      among = high;
      total = most;
      running = alone_fits me low (omega arith);
      installed = alone_fits me low (omega arith);
      own = λ z. refl;
      gathering = entered_fits me (everybody n) (everybody_lt n most) ((everybody_members n me).1 (low, high));
      queue = record { each = tt; users = tt };
      held = tt;
      last_sent = λ s e. absurd (let x : ⊥ = cc in x);
      window = record { window = tt; visits = tt; raised = tt };
      placed = record { stands = omega arith; turns = tt };
    }

pub formed_fits : {A : Type 0} → (n me : ℕ) → 1 ≤ me → me ≤ n → n ≤ 16 → CoreFits {A = A} (formed n me)
formed_fits n me low high most =
    record {
      me = (low, omega arith);
      among = high;
      total = most;
      running = all_fits n me low high most;
      installed = all_fits n me low high most;
      own = λ z. absurd (omega (arith, z));
      gathering = entered_fits me (everybody n) (everybody_lt n most) ((everybody_members n me).1 (low, high));
      queue = record { each = tt; users = tt };
      held = tt;
      last_sent = λ s e. absurd (let x : ⊥ = cc in x);
      window = record { window = tt; visits = tt; raised = tt };
      placed = record { stands = refl; turns = tt };
    }

pub halted_fits : {A : Type 0} → (c : Core A) → CoreFits c → CoreFits (halted c)
halted_fits c f =
    record {
      me = f.me;
      among = f.among;
      total = f.total;
      running = f.running;
      installed = f.installed;
      own = f.own;
      gathering = f.gathering;
      queue = f.queue;
      held = f.held;
      last_sent = f.last_sent;
      window = f.window;
      placed = record { stands = installed_below c.state c.running c.installed c.turns f.placed.stands; turns = f.placed.turns };
    }

-- Events

one_carried : {A : Type 0} → (i : ℕ) (o : Out A) (rest : List (Transmission A)) → OutFits o → Each (λ (g : Transmission A). FrameFits g.frame) rest →
    Each (λ (g : Transmission A). FrameFits g.frame) (cons_option (transmission_by i o) rest)
one_carried i (SendOut to frame) rest f h = (f, h)
one_carried i (Agreed ring n x) rest f h = h
one_carried i (Safe ring upto) rest f h = h
one_carried i (Trans old new set) rest f h = h
one_carried i (Rest ring n x) rest f h = h
one_carried i (Regular ring set) rest f h = h

all_carried : {A : Type 0} → (i : ℕ) (outs : List (Out A)) → Each OutFits outs → Each (λ (g : Transmission A). FrameFits g.frame) (filter_map (transmission_by i) outs)
all_carried i [] h = tt
all_carried i (o ∷ outs) h = one_carried i o (filter_map (transmission_by i) outs) h.0 (all_carried i outs h.1)

module _ {A : Type 0} (w : World A) (f : WorldFits w) where
  put_fits : (i : ℕ) (c : Core A) → CoreFits c → (j : ℕ) → 1 ≤ j → j ≤ w.total → CoreFits (with_core w.cores i c j)
  put_fits i c h j low high = cond_both (j == i) c (w.cores j) CoreFits (λ e. h) (λ e. f.cores j low high)

  pub stepped_fits : (b : Bool) (i : ℕ) (input : Input A) → (b ≡ true → is_node w i ≡ true) → InputFits input → WorldFits (stepped_if b w i input)
  stepped_fits false i input n h = f
  stepped_fits true i input n h =
      let p = and_parts (nat_le 1 i) (nat_le i w.total) (n refl) in
      let s = step_fits (w.cores i) input (f.cores i (leb-true _ _ p.0) (leb-true _ _ p.1)) h in
      let outs = (ring_step (w.cores i) input).outs in
      record {
        cores = put_fits i (ring_step (w.cores i) input).core s.core;
        frames = each-append (λ (g : Transmission A). FrameFits g.frame) w.frames (filter_map (transmission_by i) outs) f.frames (all_carried i outs s.outs);
      }

  pub stopped_fits : (b : Bool) (i : ℕ) → (b ≡ true → is_node w i ≡ true) → WorldFits (stopped_if b w i)
  stopped_fits false i n = f
  stopped_fits true i n =
      let p = and_parts (nat_le 1 i) (nat_le i w.total) (n refl) in
      record { cores = put_fits i (halted (w.cores i)) (halted_fits (w.cores i) (f.cores i (leb-true _ _ p.0) (leb-true _ _ p.1))); frames = f.frames }

  frame_fits : (b : Bool) (i : ℕ) (frame : Frame A) → FrameFits frame → WorldFits (handed_if b w i frame)
  frame_fits false i frame h = f
  frame_fits true i frame h = stepped_fits (is_node w i) i (FrameInput frame) (λ e. e) h

  pub handed_fits : (i m : ℕ) (o : Option (Transmission A)) → frame_at w.frames m ≡ o → WorldFits (handed w i o)
  handed_fits i m None e = f
  handed_fits i zero (Some g) e = absurd (let x : ⊥ = cc in x)
  handed_fits i (suc m) (Some g) e = frame_fits (has g.to i) i g.frame (each-get (λ (g : Transmission A). FrameFits g.frame) w.frames m g f.frames e)

  pub event_fits : (e : RingEvent A) → EventFits e → WorldFits (world_after_event w e)
  event_fits (Send i payload) h = stepped_fits (is_node w i) i (SendInput payload) (λ e. e) h
  event_fits (Deliver i m) h = handed_fits i m (frame_at w.frames m) refl
  event_fits (Timeout i kind) h = stepped_fits (is_node w i) i (TimeInput kind) (λ e. e) tt
  event_fits (Stop i) h = stopped_fits (is_node w i) i (λ e. e)

pub run_fits : {A : Type 0} → (w : World A) (events : List (RingEvent A)) → Each EventFits events → WorldFits w → WorldFits (run w events)
run_fits w [] h f = f
run_fits w (e ∷ events) h f = run_fits (world_after_event w e) events h.1 (event_fits w f e h.0)

-- Both openings

pub unformed_fits : {A : Type 0} → (n : ℕ) (events : List (RingEvent A)) → n ≤ 16 → Each EventFits events → WorldFits (run (unformed n) events)
unformed_fits n events most h = run_fits (unformed n) events h (record { cores = λ i low high. opening_fits n i low high most; frames = tt })

abbrev first_of : ℕ → Token
first_of n = first_token (formed_ring_of n).ring

start_visits : {A : Type 0} → (n : ℕ) → MayMove {A = A} (λ frame. Unit {0}) (formed n 1) (move_of (formed n 1) (Visit (first_of n)))
start_visits {A} n =
    let c : Core A = formed n 1 in
    record {
      state = inr refl;
      ring = refl;
      newer = refl;
      ahead = omega arith;
      room = fresh_short c (first_of n);
      users = fresh_users c (first_of n);
      wraps = λ s. absurd (let x : ⊥ = cc in x);
      repeats = all_repeats c (first_of n);
      queued = queue_kept {A = A} Operational (room_at c (first_of n)) [];
      from = inr tt;
    }

start_goes : (n : ℕ) → MayGo (first_of n)
start_goes n = first_goes (formed_ring_of n).ring (record { seq = omega arith; rep = (omega arith, omega arith) }) (omega arith)

pub start_fits : {A : Type 0} → (n : ℕ) → 1 ≤ n → n ≤ 16 → WorldFits {A = A} (ring_formed n)
start_fits {A} n low most =
    let c : Core A = formed n 1 in
    let d = apply_transition c (Visit (first_of n)) in
    let v = visited_fits c (formed_fits n 1 (omega arith) low most) (λ frame. Unit {0}) (first_of n) (start_goes n) (start_visits n) in
    let carry : OutgoingFrame A → Transmission A = λ s. record { from = 1; to = s.to; frame = s.frame } in
    record {
      cores = λ i l h. cond_both (i == 1) d.core (formed n i) CoreFits (λ e. v.core) (λ e. formed_fits n i l h most);
      frames = each-map (λ (g : Transmission A). FrameFits g.frame) carry (sends_with_receivers d.sends) (each-filter SentFits (λ s. not (s.to == nobody)) d.sends v.sends);
    }

pub formed_run_fits : {A : Type 0} → (n : ℕ) (events : List (RingEvent A)) → 1 ≤ n → n ≤ 16 → Each EventFits events → WorldFits (run_formed n events)
formed_run_fits n events low most h =
    run_fits (ring_formed n) (filter has_effect_on_formed events) (each-filter EventFits has_effect_on_formed events h) (start_fits n low most)
