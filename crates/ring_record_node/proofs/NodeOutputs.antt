-- The written output of a step, of a refusal and of a call is the specified output of a record.
use Rattle.std.proofs.Common.{◌≡◌, ◌∙◌, ℕ, Bool, false, List, [], ◌++◌, Option, Some, None, Result, Ok, Err, refl, ap, subst}
use Rattle.std.specs.Prelude.{OnOk, IsErrAnd}
use Rattle.std.specs.Io.KnownBytes.{Appends}
use Rattle.ring_base.specs.declared.fault.Fault.{Fault}
use Rattle.ring_base.specs.declared.timeout_kind.Kind.{Kind}
use Rattle.ring_object.specs.Operations.{Sequential}
use Rattle.ring_payload.specs.declared.call.Call.{Call}
use Rattle.ring_session.specs.declared.ticket_answer.TicketAnswer.{TicketAnswer}
use Rattle.ring_core_spec.specs.State.{OutgoingFrame}
use Rattle.ring_base.specs.declared.ring_id.RingId.{RingId}
use Rattle.ring_base.specs.declared.state.State.{State}
use Rattle.ring_node_spec.specs.Nodes.{node_known_log, node_length, node_trimmed}
use Rattle.ring_node_spec.specs.Stepping.{node_step}
use Rattle.ring_node_spec.specs.declared.input.Input.{Input}
use Rattle.ring_node_spec.specs.declared.input.Input.TheVariants as input
use Rattle.ring_node.specs.Restores.{node_restored}
use Rattle.ring_clock.specs.StepOutcomes.{installs}
use Rattle.ring_records.specs.NodeRecords.{answers_text, restored_text, all_committed_text, ticket_record, refusal_record, status_record}
use Rattle.ring_records.specs.declared.membership.Membership.{Membership}
use Rattle.ring_records.specs.declared.token_outcome.TokenOutcome.{TokenOutcome}
use Rattle.ring_records.specs.declared.token_outcome.TokenOutcome.TheVariants.{NoToken}
use Rattle.ring_record_node.specs.NodeOutputs.{RecordNodeView, sends_text, token_fate, has_brought, members_text, told_membership, end_text, status_text}
use Rattle.ring_record_node.specs.RecordNodes.{IsStepNoted, step_or_refusal_text, Steps, TimesOut, IsStoppedForMemory, IsSubmission, IsSubmitted, counts_after_submission, HasWrittenUnlessFailed}
use Rattle.ring_record_node.proofs.Writing.{tells}

-- a call that failed promises nothing of success
failed_before : {T E : Type 0} (P : Type 0) (r : Result T E) (x : E) → IsErrAnd r (λ (e : E). e ≡ x) → OnOk r P
failed_before P (Ok y) x failed = absurd failed
failed_before P (Err e) x failed = tt

-- the written status is that of the node
pub status_of : {A : Type 0} (r : RecordNodeView A) (state : State) (ring : RingId) (committed log trimmed : ℕ) (members : Option Membership)
    → state ≡ r.node.core.state → ring ≡ r.node.core.installed.ring → committed ≡ (node_known_log r.node).committed → log ≡ node_length r.node
    → trimmed ≡ node_trimmed r.node → members ≡ told_membership r → status_record state ring committed log trimmed members ≡ status_text r
status_of r state ring committed log trimmed members a b c d e f =
    ap (λ (x : State). status_record x ring committed log trimmed members) a
    ∙ ap (λ (x : RingId). status_record r.node.core.state x committed log trimmed members) b
    ∙ ap (λ (x : ℕ). status_record r.node.core.state r.node.core.installed.ring x log trimmed members) c
    ∙ ap (λ (x : ℕ). status_record r.node.core.state r.node.core.installed.ring (node_known_log r.node).committed x trimmed members) d
    ∙ ap (λ (x : ℕ). status_record r.node.core.state r.node.core.installed.ring (node_known_log r.node).committed (node_length r.node) x members) e
    ∙ ap (λ (x : Option Membership). status_record r.node.core.state r.node.core.installed.ring (node_known_log r.node).committed (node_length r.node) (node_trimmed r.node) x) f

module _ {O A T E : Type 0} (object : Sequential O) (r : Result T E) (out out' : Option (List ℕ)) (old new : RecordNodeView A) where
  -- the written parts are those of the step
  all_parts : (i : Input A) (records : List ℕ) (answers : List (TicketAnswer A)) (restored : Option ℕ) (committed : List (Call A)) (installed : Bool)
      → records ≡ sends_text (node_step object old.node i).sends → answers ≡ (node_step object old.node i).answers
      → restored ≡ node_restored old.node (node_step object old.node i).node → committed ≡ (node_step object old.node i).committed
      → installed ≡ installs old.node.core new.node.core
      → (records ++ answers_text answers ++ restored_text restored ++ all_committed_text committed)
      ++ members_text installed new.node.core.installed.ring (told_membership new)
      ≡ step_or_refusal_text object old i None new
  all_parts i records answers restored committed installed sent answered given done is = rw (sent, answered, given, done, is) refl

  -- all outputs of a step
  pub step_told : (i : Input A) (records : List ℕ) (answers : List (TicketAnswer A)) (restored : Option ℕ) (committed : List (Call A)) (installed : Bool)
      (sends : List (OutgoingFrame A)) (token : TokenOutcome)
      → IsStepNoted object old i None new
      → records ≡ sends_text (node_step object old.node i).sends → answers ≡ (node_step object old.node i).answers
      → restored ≡ node_restored old.node (node_step object old.node i).node → committed ≡ (node_step object old.node i).committed
      → installed ≡ installs old.node.core new.node.core → sends ≡ (node_step object old.node i).sends
      → token ≡ token_fate i (node_step object old.node i).sends
      → OnOk r (Appends out out' (((records ++ answers_text answers ++ restored_text restored ++ all_committed_text committed)
      ++ members_text installed new.node.core.installed.ring (told_membership new)) ++ end_text new token (has_brought token new.node sends answers restored committed installed)))
      → HasWrittenUnlessFailed r out out' (λ text. Steps object old i new text)
  step_told i records answers restored committed installed sends token_outcome acts sent answered given done is sends_are fate_is told =
      let F : List ℕ → List (TicketAnswer A) → Option ℕ → List (Call A) → Bool → List (OutgoingFrame A) → TokenOutcome → Type 0 =
      λ x y o z h s t. OnOk r (Appends out out' (((x ++ answers_text y ++ restored_text o ++ all_committed_text z)
      ++ members_text h new.node.core.installed.ring (told_membership new)) ++ end_text new t (has_brought t new.node s y o z h))) in
      let s = node_step object old.node i in
      let all = subst (λ (t : TokenOutcome). F (sends_text s.sends) s.answers (node_restored old.node s.node) s.committed (installs old.node.core new.node.core) s.sends t) fate_is
      (subst (λ (n : List (OutgoingFrame A)). F (sends_text s.sends) s.answers (node_restored old.node s.node) s.committed (installs old.node.core new.node.core) n token_outcome) sends_are
      (subst (λ (h : Bool). F (sends_text s.sends) s.answers (node_restored old.node s.node) s.committed h sends token_outcome) is
      (subst (λ (z : List (Call A)). F (sends_text s.sends) s.answers (node_restored old.node s.node) z installed sends token_outcome) done
      (subst (λ (o : Option ℕ). F (sends_text s.sends) s.answers o committed installed sends token_outcome) given
      (subst (λ (y : List (TicketAnswer A)). F (sends_text s.sends) y restored committed installed sends token_outcome) answered
      (subst (λ (x : List ℕ). F x answers restored committed installed sends token_outcome) sent told)))))) in
      tells r out out' _ (λ text. Steps object old i new text) all (None, acts, refl)

  -- all outputs of a step on a timeout, without their end
  pub timeout_told : (kind : Kind) (records : List ℕ) (answers : List (TicketAnswer A)) (restored : Option ℕ) (committed : List (Call A)) (installed : Bool)
      → IsStepNoted object old (input.Timeout kind) None new
      → records ≡ sends_text (node_step object old.node (input.Timeout kind)).sends → answers ≡ (node_step object old.node (input.Timeout kind)).answers
      → restored ≡ node_restored old.node (node_step object old.node (input.Timeout kind)).node
      → committed ≡ (node_step object old.node (input.Timeout kind)).committed → installed ≡ installs old.node.core new.node.core
      → OnOk r (Appends out out' ((records ++ answers_text answers ++ restored_text restored ++ all_committed_text committed)
      ++ members_text installed new.node.core.installed.ring (told_membership new)))
      → HasWrittenUnlessFailed r out out' (λ text. TimesOut object kind old new text)
  timeout_told kind records answers restored committed installed acts sent answered given done is told =
      let parts = all_parts (input.Timeout kind) records answers restored committed installed sent answered given done is in
      let all = subst (λ (t : List ℕ). OnOk r (Appends out out' t)) parts told in
      tells r out out' _ (λ text. TimesOut object kind old new text) all (None, acts, refl)

  -- a step on a timeout of which nothing is written, since the output failed before
  pub timeout_untold : (x : E) (kind : Kind) (refused : Option Fault) → IsErrAnd r (λ (e : E). e ≡ x)
      → IsStepNoted object old (input.Timeout kind) refused new → HasWrittenUnlessFailed r out out' (λ text. TimesOut object kind old new text)
  timeout_untold x kind refused failed acts =
      tells r out out' (step_or_refusal_text object old (input.Timeout kind) refused new) (λ text. TimesOut object kind old new text)
      (failed_before _ r x failed) (refused, acts, refl)

  -- the refusal of a step
  pub refusal_told : (i : Input A) (fault : Fault) (token : TokenOutcome) → IsStepNoted object old i (Some fault) new → token ≡ token_fate i []
      → OnOk r (Appends out out' (refusal_record fault ++ end_text new token false)) → HasWrittenUnlessFailed r out out' (λ text. Steps object old i new text)
  refusal_told i fault token_outcome acts fate_is told =
      let all = subst (λ (t : TokenOutcome). OnOk r (Appends out out' (refusal_record fault ++ end_text new t false))) fate_is told in
      tells r out out' _ (λ text. Steps object old i new text) all (Some fault, acts, refl)

  -- the refusal of a step on a timeout, without its end
  pub timeout_refused_told : (kind : Kind) (fault : Fault) → IsStepNoted object old (input.Timeout kind) (Some fault) new
      → OnOk r (Appends out out' (refusal_record fault)) → HasWrittenUnlessFailed r out out' (λ text. TimesOut object kind old new text)
  timeout_refused_told kind fault acts told = tells r out out' _ (λ text. TimesOut object kind old new text) told (Some fault, acts, refl)

  -- the stop of the node
  pub halt_told : (fault : Fault) → IsStepNoted object old input.Noise (Some fault) new
      → OnOk r (Appends out out' (refusal_record fault ++ end_text new NoToken false)) → HasWrittenUnlessFailed r out out' (λ text. IsStoppedForMemory object old new text)
  halt_told fault acts told = tells r out out' _ (λ text. IsStoppedForMemory object old new text) told (fault, acts, refl)

  -- the ticket of a call
  pub ticket_told : (client number : ℕ) (operation : List ℕ) (ticket : ℕ) → IsSubmission object old.node client number operation (Ok ticket) new.node
      → new ≡ record old { node = new.node; counts = counts_after_submission (Ok ticket) old.counts }
      → OnOk r (Appends out out' (ticket_record ticket ++ end_text new NoToken false))
      → HasWrittenUnlessFailed r out out' (λ text. IsSubmitted object old client number operation new text)
  ticket_told client number operation ticket gives kept told =
      tells r out out' _ (λ text. IsSubmitted object old client number operation new text) told (Ok ticket, gives, kept, refl)

  -- the refusal of a call
  pub refused_told : (client number : ℕ) (operation : List ℕ) (fault : Fault) → IsSubmission object old.node client number operation (Err fault) new.node
      → new ≡ record old { node = new.node; counts = counts_after_submission (Err fault) old.counts }
      → OnOk r (Appends out out' (refusal_record fault ++ end_text new NoToken false))
      → HasWrittenUnlessFailed r out out' (λ text. IsSubmitted object old client number operation new text)
  refused_told client number operation fault gives kept told =
      tells r out out' _ (λ text. IsSubmitted object old client number operation new text) told (Err fault, gives, kept, refl)
