-- A node keeps the limits after each step and each submit, if inputs and issued calls do; so does each frame that a step sends.
use Rattle.std.proofs.Common.{◌≡◌, ℕ, ◌≤◌, Bool, true, false, List, [], ◌∷◌, ◌++◌, length, refl, ap, sym, ◌∙◌, subst, arith, Result, Ok, Err}
use Rattle.std.specs.Prelude.{filter_map, ◌&&◌, OnOk, OnErr}
use Rattle.std.specs.List.{AllByRecursion as Each}
use Rattle.std.proofs.lemmas.Bool.{cond_both, and_parts}
use Rattle.ring_base.specs.Group.{Group}
use Rattle.ring_base.specs.Processors.{only}
use Rattle.ring_base.specs.declared.fault.Fault.{Fault}
use Rattle.ring_base.proofs.Each.{each-push}
use Rattle.ring_object.specs.Operations.{Sequential}
use Rattle.ring_payload.specs.Calls.{CallFits}
use Rattle.ring_payload.specs.Payloads.{PayloadFits}
use Rattle.ring_payload.specs.declared.call.Call.{Call as OneCall}
use Rattle.ring_payload.specs.declared.content.Payload.{Payload}
use Rattle.ring_payload.specs.declared.content.Payload.TheVariants.{Call}
use Rattle.ring_core_spec.specs.Commits.{Configuration}
use Rattle.ring_core_spec.specs.declared.input.Input.{Input}
use Rattle.ring_core_spec.specs.declared.input.Input.TheVariants.{Frame as FrameInput, Timeout as TimeInput, Send as SendInput}
use Rattle.ring_core_spec.specs.declared.out.Out.{Out}
use Rattle.ring_core_spec.specs.declared.out.Out.TheVariants.{Send as SendOut, Agreed, Safe, Trans, Rest, Regular}
use Rattle.ring_core_spec.specs.State.{Core, StepResult}
use Rattle.ring_core_spec.specs.Giving.{may_install}
use Rattle.ring_core_spec.specs.Stepping.{ring_step}
use Rattle.ring_core_spec.specs.Views.{mark}
use Rattle.ring_log.specs.KnownLog.{KnownLog, known_log_of, is_known_log_sound}
use Rattle.ring_log.specs.Epochs.{Epoch, epoch_opening, epochs_with_sends}
use Rattle.ring_log.proofs.CommittedOf.{epochs_with_sends-kept}
use Rattle.ring_log_proof.specs.RingFacts.{HasEpoch}
use Rattle.ring_log_proof.proofs.RunEpochs.{newest-dropping}
use Rattle.ring_session.specs.Tickets.{TicketCall}
use Rattle.ring_node_spec.specs.declared.input.Input.{Input as NodeInput}
use Rattle.ring_node_spec.specs.declared.input.Input.TheVariants.{Frame as NodeFrame, Noise as NodeNoise, Timeout as NodeTime, Stop as NodeStop}
use Rattle.ring_node_spec.specs.NodeLimits.{InputFits as NodeInputFits}
use Rattle.ring_node_spec.specs.DueSends.{due_of_outputs}
use Rattle.ring_node_spec.specs.EpochHistories.{epochs_after}
use Rattle.ring_node_spec.specs.Nodes.{Node, node_opening, node_known_log, node_stopped, runs_adopted, is_closed, is_restored}
use Rattle.ring_node_spec.specs.Stepping.{NodeStepResult, handed_over, node_after_outputs, send_of, with_dropped, newly_committed, drops, did, step_after_trim, settled, step_after_core, node_step}
use Rattle.ring_node_spec.specs.Stepping.{due_by_submit, node_after_submit}
use Rattle.ring_core_proof.specs.Limits.{InputFits, OutFits, CoreFits, SentFits}
use Rattle.ring_core_proof.proofs.TransitionLimits.{step_fits}
use Rattle.ring_core_proof.proofs.RunLimits.{opening_fits, halted_fits}
use Rattle.ring_core_spec.proofs.Quiet.{quiet_send, stepped_is}
use Rattle.ring_order_proof.proofs.LogLimits.{kept_fits}
use Rattle.ring_order_proof.proofs.OutputLimits.{step_tells}
use Rattle.ring_order_proof.specs.NodeFits.{NodeFits, IsMarkedUpTo, EpochsFit, TicketsFit}
use Rattle.ring_order_proof.proofs.DueLimits.{LivesFit, all_stays, stay_fits, hands_fit, hands_safe, hands_drop, trims_fit, trims_safe, trims_drop}
use Rattle.ring_order_proof.proofs.DueLimits.{through_fits, due_fit}

-- each call of its known log, and each payload that it handed over
pub node_log_fits : {A : Type 0} → (n : Node A) → NodeFits n → Each CallFits (node_known_log n).calls
node_log_fits n f = (kept_fits n.group n.epochs (all_stays n.core.installed.ring.seq n.epochs f.epochs)).calls

pub node_sent_fits : {A : Type 0} → (n : Node A) (s : Epoch A) (older : List (Epoch A)) → NodeFits n → HasEpoch n.epochs s older → Each PayloadFits s.sent
node_sent_fits n s older f there = (stay_fits n.epochs s older (all_stays n.core.installed.ring.seq n.epochs f.epochs) there).sent

pub node_opens : {A : Type 0} → (group : Group) (me : ℕ) → 1 ≤ me → me ≤ group.count → group.count ≤ 16 → NodeFits (node_opening {A = A} group me)
node_opens {A} group me low high most =
    record {
      core = opening_fits group.count me low high most;
      ready = refl;
      epochs = (record { ring = record { seq = omega arith; rep = (low, omega arith) }; heard = tt; sent = tt }, refl, tt);
      safe = omega arith;
      drops = newest-dropping group (epoch_opening (record { seq = 0; rep = me }) (only me)) [] (omega arith) (λ s older there. absurd there);
      tickets = tt;
    }

pub node_halts : {A : Type 0} → (n : Node A) → NodeFits n → NodeFits (node_stopped n)
node_halts n f =
    record { core = halted_fits n.core f.core; ready = refl; epochs = f.epochs; safe = f.safe; drops = f.drops; tickets = f.tickets }

-- Handing over

-- the safe mark of the installed ring
abbrev own_mark : {A : Type 0} → Core A → ℕ
own_mark c = mark c c.installed.ring

record HandedFits {A : Type 0} (c d : Core A) : Type 0 where
  pub core : CoreFits d
  pub ready : may_install d ≡ false
  pub installed : d.installed ≡ c.installed
  pub safe : own_mark d ≡ own_mark c

handed_fit : {A : Type 0} → (c : Core A) (ps : List (Payload A)) → CoreFits c → may_install c ≡ false → Each PayloadFits ps → HandedFits c (handed_over c ps)
handed_fit c [] f r h = record { core = f; ready = r; installed = refl; safe = refl }
handed_fit {A} c (p ∷ ps) f r h =
    let q = quiet_send c p r in
    let d = (ring_step c (SendInput p)).core in
    let rest = handed_fit d ps ((step_fits c (SendInput p) f h.0).core) (stepped_is c (SendInput p)) h.1 in
    record {
      core = rest.core;
      ready = rest.ready;
      installed = rest.installed ∙ ap (λ (s : StepResult A). s.core.installed) q.is;
      safe = rest.safe ∙ ap (λ (s : StepResult A). own_mark s.core) q.is;
    }

-- a node whose core keeps the limits, and whose newest epoch is in the core's ring, hands over payloads that keep them
walks : {A : Type 0} → (n : Node A) (core : Core A) (epochs : List (Epoch A)) (due : List (Payload A)) (tickets : List (TicketCall A)) →
    CoreFits core → may_install core ≡ false →
    LivesFit n.group core.installed.ring.seq (own_mark core) epochs → Each PayloadFits due → TicketsFit tickets →
    NodeFits (record n { core = handed_over core due; epochs = epochs_with_sends due epochs; tickets = tickets })
walks {A} n core epochs due tickets f r l d t =
    let h = handed_fit core due f r d in
    record {
      core = h.core;
      ready = h.ready;
      epochs = subst (λ (x : Configuration). EpochsFit x.ring.seq (epochs_with_sends due epochs)) (sym h.installed)
          (hands_fit core.installed.ring.seq due epochs d l.stays);
      safe = subst (λ m. IsMarkedUpTo m (epochs_with_sends due epochs)) (sym h.safe) (hands_safe (own_mark core) due epochs l.safe);
      drops = hands_drop n.group due epochs l.drops;
      tickets = t;
    }

-- Frames

sends_fit : {A : Type 0} → (outs : List (Out A)) → Each OutFits outs → Each SentFits (filter_map send_of outs)
sends_fit [] h = tt
sends_fit (SendOut to frame ∷ outs) h = (h.0, sends_fit outs h.1)
sends_fit (Agreed ring n x ∷ outs) h = sends_fit outs h.1
sends_fit (Safe ring upto ∷ outs) h = sends_fit outs h.1
sends_fit (Trans old new set ∷ outs) h = sends_fit outs h.1
sends_fit (Rest ring n x ∷ outs) h = sends_fit outs h.1
sends_fit (Regular ring set ∷ outs) h = sends_fit outs h.1

-- A step

pub record SteppedFits {A : Type 0} (s : NodeStepResult A) : Type 0 where
  pub node : NodeFits s.node
  pub sends : Each SentFits s.sends

-- a node drops all committed places
dropped_fits : {A : Type 0} → (n : Node A) (places : ℕ) → places ≤ (node_known_log n).committed → NodeFits n → NodeFits (with_dropped places n)
dropped_fits n places le f =
    record {
      core = f.core;
      ready = f.ready;
      epochs = trims_fit n.core.installed.ring.seq places n.epochs f.epochs;
      safe = trims_safe (own_mark n.core) places n.epochs f.safe;
      drops = trims_drop n.group places n.epochs le f.drops;
      tickets = f.tickets;
    }

module _ {O A : Type 0} (object : Sequential O) where
  ended_fits : (closed : Bool) (k : KnownLog A) (s : NodeStepResult A) → k.committed ≤ (node_known_log s.node).committed → SteppedFits s →
      SteppedFits (step_after_trim object closed k s)
  ended_fits closed k s le f =
      cond_both (drops object closed k) (record s { node = with_dropped k.committed s.node; dropped = _ }) s SteppedFits
      (λ t. record { node = dropped_fits s.node k.committed le f.node; sends = f.sends }) (λ e. f)

  module _ (n : Node A) (f : NodeFits n) where
    settled_fits : (input : Input A) → InputFits input → (b : Bool) →
        (b ≡ true → is_known_log_sound n.group (epochs_after n.epochs (ring_step n.core input).outs) ≡ true) →
        let s = ring_step n.core input in
        let epochs = epochs_after n.epochs s.outs in
        SteppedFits (settled object b n (node_after_outputs n s.core epochs (due_of_outputs object n s.core n.epochs s.outs)) s.outs (known_log_of n.group epochs))
    settled_fits input w false e = record { node = node_halts n f; sends = tt }
    settled_fits input w true e =
        let s = ring_step n.core input in
        let epochs = epochs_after n.epochs s.outs in
        let due = due_of_outputs object n s.core n.epochs s.outs in
        let k = known_log_of n.group epochs in
        let fits = step_fits n.core input f.core w in
        let tells = step_tells n.core input f.core w in
        let seq = n.core.installed.ring.seq in
        let low = own_mark n.core in
        let node_epochs : LivesFit n.group seq low n.epochs = record { stays = f.epochs; safe = f.safe; drops = f.drops } in
        let due_sends = due_fit object n f.tickets s.core seq low s.core.installed.ring.seq (own_mark s.core) n.epochs s.outs tells node_epochs (e refl) in
        let new = walks n s.core epochs due n.tickets fits.core (stepped_is n.core input)
        (through_fits n.group seq low s.core.installed.ring.seq (own_mark s.core) n.epochs s.outs tells node_epochs) due_sends f.tickets in
        let same : (known_log_of n.group (epochs_with_sends due epochs)).committed ≡ k.committed = ap (λ (x : KnownLog A). x.committed) (epochs_with_sends-kept n.group due epochs) in
        ended_fits (is_closed n.group (epochs_with_sends due epochs)) k (did object n (node_after_outputs n s.core epochs due) s.outs k (newly_committed (node_known_log n) k)) (omega (arith, same))
        (record {
          node = record { core = new.core; ready = new.ready; epochs = new.epochs; safe = new.safe; drops = new.drops; tickets = new.tickets };
          sends = sends_fit s.outs fits.outs;
        })

    moved_fits : (input : Input A) → InputFits input →
        let s = ring_step n.core input in
        SteppedFits (step_after_core object n s.core s.outs (epochs_after n.epochs s.outs))
    moved_fits input w =
        let epochs = epochs_after n.epochs (ring_step n.core input).outs in
        let sound = is_known_log_sound n.group epochs in
        let restored = is_restored object (known_log_of n.group epochs) in
        settled_fits input w (sound && restored) (λ t. (and_parts sound restored t).0)

    pub stepped_fits : (input : NodeInput A) → NodeInputFits input → SteppedFits (node_step object n input)
    stepped_fits (NodeFrame frame) w = moved_fits (FrameInput frame) w
    stepped_fits (NodeTime kind) w = moved_fits (TimeInput kind) tt
    stepped_fits NodeNoise w = record { node = f; sends = tt }
    stepped_fits NodeStop w = record { node = node_halts n f; sends = tt }

-- A submit

pub submitted_fits : {A : Type 0} → (n : Node A) (c : OneCall A) → NodeFits n → CallFits c → NodeFits (node_after_submit n c)
submitted_fits {A} n c f h =
    let t : TicketCall A = record { call = c; since = length n.done } in
    let due : Each PayloadFits (due_by_submit n c) =
    cond_both (runs_adopted n) (Call c ∷ []) [] (Each (PayloadFits {A = A})) (λ e. (h, tt)) (λ e. tt) in
    walks n n.core n.epochs (due_by_submit n c) (n.tickets ++ t ∷ []) f.core f.ready
    (record { stays = f.epochs; safe = f.safe; drops = f.drops }) due
    (each-push (λ (t : TicketCall A). CallFits t.call) n.tickets t f.tickets h)

-- after a submit, or after it was refused
pub takes : {A T : Type 0} (n m : Node A) (call : OneCall A) (r : Result T Fault) → NodeFits n → (NodeFits n → CallFits call → NodeFits (node_after_submit n call))
    → CallFits call → OnOk r (m ≡ node_after_submit n call) → OnErr r (m ≡ n) → NodeFits m
takes n m call (Ok x) fits law comes taken kept = subst NodeFits (sym taken) (law fits comes)
takes n m call (Err x) fits law comes taken kept = subst NodeFits (sym kept) fits
