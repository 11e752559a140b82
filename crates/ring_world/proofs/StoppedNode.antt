-- The step of a stopped node has no outputs and changes nothing, where no committed places wait to be dropped.
use Rattle.std.proofs.Common.{◌≡◌, ◌-◌, Bool, true, false, ◌&&◌, List, [], ◌++◌}
use Rattle.std.proofs.Common.{refl, ap, ◌∙◌, sym, subst, append-nil}
use Rattle.std.proofs.lemmas.Bool.{cond-false}
use Rattle.ring_core_spec.specs.declared.input.Input.TheVariants.{Frame as FrameInput, Timeout}
use Rattle.ring_core_spec.specs.State.{Core, StepResult}
use Rattle.ring_core_spec.specs.Stepping.{ring_step}
use Rattle.ring_object.specs.Operations.{Sequential}
use Rattle.ring_core_spec.specs.declared.out.Out.{Out}
use Rattle.ring_log.specs.Epochs.{Epoch, epochs_with_sends}
use Rattle.ring_log.specs.KnownLog.{retained_log, is_known_log_sound}
use Rattle.ring_log.specs.Logs.{committed_calls}
use Rattle.ring_log.proofs.CommittedOf.{epochs_with_sends-nothing}
use Rattle.ring_payload.specs.declared.call.Call.{Call}
use Rattle.ring_session.specs.Tickets.{answers_after}
use Rattle.ring_session.specs.declared.ticket_answer.TicketAnswer.{TicketAnswer}
use Rattle.ring_node_spec.specs.declared.input.Input.{Input as NodeInput}
use Rattle.ring_node_spec.specs.declared.input.Input.TheVariants.{Frame as NodeFrame, Noise as NodeNoise, Timeout as NodeTime, Stop as NodeStop}
use Rattle.ring_node_spec.specs.Nodes.{Node, node_known_log, is_stopped, is_closed, is_restored}
use Rattle.ring_node_spec.specs.Stepping.{NodeStepResult, newly_committed, table_since, with_dropped, drops, step_after_trim, did, node_step, after_core, settled, node_after_outputs}
use Rattle.ring_node.proofs.StoppedCore.{GaveNothing, stopped_step}
use Rattle.ring_node.proofs.NewlyCommitted.{newly_committed-nothing}
use Rattle.ring_node_spec.proofs.NodeChanges.{stopped_same}
use Rattle.ring_order_proof.proofs.TrimmedRuns.{IsUndropping}

pub record IsSilent {A : Type 0} (s : NodeStepResult A) (n : Node A) : Type 0 where
  pub node : s.node ≡ n
  pub sends : s.sends ≡ []
  pub answers : s.answers ≡ []
  pub committed : s.committed ≡ []

module _ {O A : Type 0} (object : Sequential O) where
  silent-did : (n : Node A) → IsSilent (did object n (node_after_outputs n n.core n.epochs []) [] (node_known_log n) (newly_committed (node_known_log n) (node_known_log n))) n
  silent-did n =
      let k = node_known_log n in
      let answered : List (Call A) → List (TicketAnswer A) = λ more. answers_after object (table_since object k k) n.tickets n.done more in
      let of : List (Epoch A) → List (Call A) → List (TicketAnswer A) → Node A = λ epochs done answers. record n { epochs = epochs; done = done; answers = answers } in
      let more : newly_committed k k ≡ [] = newly_committed-nothing k in
      let none : answered (newly_committed k k) ≡ [] = ap answered more in
      record {
        node =
            ap (λ l. of l (n.done ++ newly_committed k k) (n.answers ++ answered (newly_committed k k))) (epochs_with_sends-nothing n.epochs)
            ∙ ap (λ l. of n.epochs (n.done ++ l) (n.answers ++ answered (newly_committed k k))) more ∙ ap (λ l. of n.epochs (n.done ++ []) (n.answers ++ l)) none
            ∙ ap (λ l. of n.epochs l (n.answers ++ [])) (append-nil n.done) ∙ ap (of n.epochs n.done) (append-nil n.answers);
        sends = refl;
        answers = none;
        committed = more;
      }

  silent-if : (b : Bool) (n : Node A) → is_stopped n.core.state ≡ true → IsUndropping object n →
      IsSilent (settled object b n (node_after_outputs n n.core n.epochs []) [] (node_known_log n)) n
  silent-if false n e h = record { node = stopped_same n e; sends = refl; answers = refl; committed = refl }
  silent-if true n e h =
      let k = node_known_log n in
      let s = did object n (node_after_outputs n n.core n.epochs []) [] k (newly_committed k k) in
      let dropped : NodeStepResult A = record s { node = with_dropped k.committed s.node; dropped = committed_calls (retained_log k) } in
      let shut : drops object (is_closed n.group (epochs_with_sends [] n.epochs)) k ≡ false =
      ap (λ epochs. drops object (is_closed n.group epochs) k) (epochs_with_sends-nothing n.epochs) ∙ h.none in
      let same : step_after_trim object (is_closed n.group (epochs_with_sends [] n.epochs)) k s ≡ s =
      cond-false (drops object (is_closed n.group (epochs_with_sends [] n.epochs)) k) dropped s shut in
      subst (λ t. IsSilent t n) (sym same) (silent-did n)

  silent-core : (n : Node A) (s : StepResult A) → is_stopped n.core.state ≡ true → IsUndropping object n → GaveNothing s n.core
      → IsSilent (after_core object n s) n
  silent-core n s e h g =
      let same : s ≡ record { core = n.core; outs = [] } = same_stepped s n.core g in
      subst (λ t. IsSilent (after_core object n t) n) (sym same) (silent-if (is_known_log_sound n.group n.epochs && is_restored object (node_known_log n)) n e h)
    where
      same_stepped : (s : StepResult A) (c : Core A) → GaveNothing s c → s ≡ record { core = c; outs = [] }
      same_stepped s c g =
          let first : Core A → StepResult A = λ x. record { core = x; outs = s.outs } in
          let second : List (Out A) → StepResult A = λ x. record { core = c; outs = x } in
          ap first g.core ∙ ap second g.outs

  pub silent : (n : Node A) (input : NodeInput A) → is_stopped n.core.state ≡ true → IsUndropping object n → IsSilent (node_step object n input) n
  silent n (NodeFrame frame) e h = silent-core n (ring_step n.core (FrameInput frame)) e h (stopped_step n.core (FrameInput frame) e)
  silent n (NodeTime kind) e h = silent-core n (ring_step n.core (Timeout kind)) e h (stopped_step n.core (Timeout kind) e)
  silent n NodeNoise e h = record { node = refl; sends = refl; answers = refl; committed = refl }
  silent n NodeStop e h = record { node = stopped_same n e; sends = refl; answers = refl; committed = refl }
