-- Each ticket that a step answers has its copy, and the waiting tickets keep theirs.
use Rattle.std.proofs.Common.{◌≡◌, Bool, true, false, ◌&&◌, List, Option, refl, sym, subst}
use Rattle.std.proofs.lemmas.Bool.{cond_both}
use Rattle.ring_object.specs.Operations.{Sequential}
use Rattle.ring_payload.specs.declared.call.Call.{Call}
use Rattle.ring_core_spec.specs.State.{StepResult}
use Rattle.ring_core_spec.specs.Stepping.{ring_step}
use Rattle.ring_core_spec.specs.declared.input.Input.TheVariants.{Frame as CoreFrame, Timeout as CoreTimeout}
use Rattle.ring_core_spec.specs.declared.out.Out.{Out}
use Rattle.ring_log.specs.KnownLog.{KnownLog, known_log_of, retained_log, is_known_log_sound}
use Rattle.ring_log.specs.Logs.{committed_calls}
use Rattle.ring_node_spec.specs.EpochHistories.{epochs_after}
use Rattle.ring_node_spec.specs.DueSends.{due_of_outputs}
use Rattle.ring_node_spec.specs.declared.input.Input.{Input}
use Rattle.ring_node_spec.specs.declared.input.Input.TheVariants.{Frame as FrameInput, Noise as NoiseInput, Timeout as TimeInput, Stop as StopInput}
use Rattle.ring_node_spec.specs.Nodes.{Node, node_known_log, is_closed, is_restored}
use Rattle.ring_node_spec.specs.Stepping.{NodeStepResult, newly_committed, table_since, drops, with_dropped, did, settled, node_after_outputs, after_core, node_step}
use Rattle.ring_world.specs.SpareCalls.{HaveCopies, copies_after_answers, Holds}
use Rattle.ring_world.proofs.Spared.{goes_on}

-- the copies left after a step are those of the tickets that then wait
abbrev pub CopiesGoOn : {A : Type 0} → List (Option (Call A)) → NodeStepResult A → Type 0
CopiesGoOn calls s = HaveCopies calls s.answers × Holds (copies_after_answers calls s.answers) s.node.tickets s.node.done

module _ {O A : Type 0} (object : Sequential O) where
  -- whether or not places are dropped at the end of the step
  settled-goes : (b : Bool) (n new : Node A) (outs : List (Out A)) (k : KnownLog A) (calls : List (Option (Call A))) → new.tickets ≡ n.tickets →
      Holds calls n.tickets n.done → CopiesGoOn calls (settled object b n new outs k)
  settled-goes false n new outs k calls tickets h = (tt, h)
  settled-goes true n new outs k calls tickets h =
      let more = newly_committed (node_known_log n) k in
      let s = did object n new outs k more in
      let g = goes_on object (table_since object (node_known_log n) k) n.tickets n.done more calls h in
      let now : CopiesGoOn calls s = (g.left, subst (λ ts. Holds (copies_after_answers calls s.answers) ts s.node.done) (sym tickets) g.holds) in
      cond_both (drops object (is_closed n.group new.epochs) k) (record s { node = with_dropped k.committed s.node; dropped = committed_calls (retained_log k) }) s
      (CopiesGoOn calls) (λ t. now) (λ f. now)

  core-goes : (n : Node A) (s : StepResult A) (calls : List (Option (Call A))) → Holds calls n.tickets n.done → CopiesGoOn calls (after_core object n s)
  core-goes n s calls h =
      let epochs = epochs_after n.epochs s.outs in
      settled-goes (is_known_log_sound n.group epochs && is_restored object (known_log_of n.group epochs)) n
      (node_after_outputs n s.core epochs (due_of_outputs object n s.core n.epochs s.outs)) s.outs (known_log_of n.group epochs) calls refl h

  pub step-goes : (n : Node A) (input : Input A) (calls : List (Option (Call A))) → Holds calls n.tickets n.done → CopiesGoOn calls (node_step object n input)
  step-goes n (FrameInput frame) calls h = core-goes n (ring_step n.core (CoreFrame frame)) calls h
  step-goes n (TimeInput kind) calls h = core-goes n (ring_step n.core (CoreTimeout kind)) calls h
  step-goes n NoiseInput calls h = (tt, h)
  step-goes n StopInput calls h = (tt, h)
