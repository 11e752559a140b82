-- A node's step and submit, by its core and its replica.
use Rattle.std.proofs.Common.{◌≡◌, ℕ, inl, inr, nat_le, Result, Ok, Err, IfErr, if◌then◌else◌, Bool, true, false, ◌&&◌, List, [], ◌∷◌, ◌++◌, length}
use Rattle.std.proofs.Common.{Option, Some, None, refl, ap, sym, ◌∙◌, subst, append-nil}
use Rattle.std.specs.Prelude.{nat_lt, OnOk}
use Rattle.std.proofs.lemmas.Bool.{cases_Bool, cond-true, cond-false}
use Rattle.ring_base.specs.Numbers.{max_number}
use Rattle.ring_base.specs.declared.fault.Fault.TheVariants.{PendingFull, Stopped as StoppedFault}
use Rattle.ring_base.specs.Group.{Group}
use Rattle.ring_base.specs.declared.ring_id.RingId.{RingId}
use Rattle.ring_core_spec.specs.Commits.{Configuration}
use Rattle.ring_object.specs.Operations.{Sequential}
use Rattle.ring_payload.specs.declared.call.Call.{Call as OneCall}
use Rattle.ring_payload.specs.declared.content.Payload.{Payload}
use Rattle.ring_core_spec.specs.declared.input.Input.{Input}
use Rattle.ring_core_spec.specs.declared.input.Input.TheVariants.{Send as SendInput}
use Rattle.ring_core_spec.specs.declared.out.Out.{Out}
use Rattle.ring_core_spec.specs.State.{Core, OutgoingFrame, halted}
use Rattle.ring_core_spec.specs.Stepping.{ring_step}
use Rattle.ring_srp.specs.Given.{IsGiven}
use Rattle.ring_log.specs.Epochs.{Epoch, epochs_with_sends, epochs_with_trim}
use Rattle.ring_log.specs.KnownLog.{KnownLog, known_log_of, is_known_log_sound}
use Rattle.ring_log.proofs.CommittedOf.{epochs_with_sends-kept, epochs_with_trim-from}
use Rattle.ring_replica.specs.Sessions.{TicketAnswer, unanswered_tickets}
use Rattle.ring_replica.specs.NodeSpec.{epochs_after, Node, node_known_log, node_pending, is_stopped, is_closed, is_restored}
use Rattle.ring_replica.specs.NodeSpec.{NodeStepResult, handed_over, drops, after_core, submit_fault}
use Rattle.ring_replica.specs.Replications.{handed_if, due_sends_by, rises, HasSoundEpochs}
use Rattle.ring_replica.specs.Replicas.{Replica, ReplicaStepResult, replica_stopped, replica_done, replica_ended, node_of_core_and_replica, replica_settled}
use Rattle.ring_replica.specs.Replicas.{replica_step, replica_of, running_of, moment_of, node_unless, submit_refusal, has_adopted_running}
use Rattle.ring_replica.specs.Replicas.{replica_with_ticket, restored_since, IsBetweenSteps, IsStepIdle, replica_still}
use Rattle.ring_replica.proofs.Nodes.{step-is, refused-is}
use Rattle.ring_replica.proofs.Replications.{never-less}
use Rattle.ring_replica.proofs.IdleReplicas.{still-ended}
use Rattle.ring_replica.specs.Marks.{IsMarked}
use Rattle.ring_replica.proofs.EpochMarks.{rises_step, marked_step, marked_handed, me_step, me_handed, going_step, going_handed}
use Rattle.ring_node.proofs.FramesFiltered.{step-apart}
use Rattle.ring_node.specs.StepOutputs.{step_with_frames, IsReplicaStepResult, IsNodeStepResult}
use Rattle.ring_node.specs.KnownLog.{followed_by, core_view, node_view, IsRunningNode, IsNode, stepped_by}
use Rattle.ring_node.specs.EmptyResults.{HasFramesOnly}
use Rattle.ring_node.specs.Restores.{node_restored}
use Rattle.ring_node.specs.declared.outs.Outs.{Outs}

-- Handing over one more payload

pub handed-next : {A : Type 0} → (c : Core A) (ps : List (Payload A)) (p : Payload A) → handed_over c (ps ++ p ∷ [])
    ≡ (ring_step (handed_over c ps) (SendInput p)).core
handed-next c [] p = refl
handed-next c (q ∷ ps) p = handed-next (ring_step c (SendInput q)).core ps p

-- The replica's step, whether it stopped or not

module _ {O A : Type 0} (object : Sequential O) (r : Replica A) (outs : List (Out A)) (epochs : List (Epoch A)) (due : List (Payload A)) (kept : KnownLog A) where
  abbrev made : Bool → ReplicaStepResult A
  made b = replica_settled object b r outs epochs due kept

  -- unless it stopped, the finished replica is the result of the step
  ended-by : (b : Bool) → r.stopped ≡ false
      → (if (made b).replica.stopped then (made b).replica else replica_done (made b).replica (made b).answers) ≡ replica_ended (made b)
  ended-by false s =
      let of : List (OneCall A) → List (TicketAnswer A)
      → Replica A = λ x y. record r { epochs_in_step = r.epochs; done = x; answers = y; doing = []; leaving = []; stopped = true } in
      ap (λ x. of x r.answers) (sym (append-nil r.done)) ∙ ap (of (r.done ++ [])) (sym (append-nil r.answers))
  ended-by true s = cond-false r.stopped (made true).replica (replica_done (made true).replica (made true).answers) s

  -- if it stopped, it is as before
  left-by : (b : Bool) → replica_stopped (made b).replica ≡ replica_stopped r
  left-by false = refl
  left-by true = refl

module _ {O A : Type 0} (object : Sequential O) (running : Option RingId) (r : Replica A) (outs : List (Out A)) where
  abbrev step : ReplicaStepResult A
  step = replica_step object running r outs

  abbrev kept_now : KnownLog A
  kept_now = known_log_of r.group (epochs_after r.epochs outs)

  abbrev is : Bool
  is = is_known_log_sound r.group (epochs_after r.epochs outs) && is_restored object kept_now

  abbrev due_now : List (Payload A)
  due_now = due_sends_by (moment_of object running r) r.epochs outs

  -- it finishes the step with the answers that it gave
  pub ended-as : (new : Replica A) (answers : List (TicketAnswer A)) → r.stopped ≡ false → new ≡ step.replica → answers ≡ step.answers →
      (if new.stopped then new else replica_done new answers) ≡ replica_ended step
  ended-as new answers s e a =
      ap (λ (x : Replica A). if x.stopped then x else replica_done x answers) e
      ∙ ap (λ l. if step.replica.stopped then step.replica else replica_done step.replica l) a
      ∙ ended-by object r outs (epochs_after r.epochs outs) due_now kept_now is s

  pub left-as : (new : Replica A) → new ≡ step.replica → replica_stopped new ≡ replica_stopped r
  left-as new e = ap replica_stopped e ∙ left-by object r outs (epochs_after r.epochs outs) due_now kept_now is

-- Following a core's outputs is the step that the definition says, with the frames that it sent
module _ {O A : Type 0} (object : Sequential O) (core : Core A) (r : Replica A) (input : Input A) {new : Core A} {sends : List (OutgoingFrame A)} {told : List (Out A)}
    (en : new ≡ (ring_step core input).core) (given : IsGiven (ring_step core input).outs sends told) (runs : r.stopped ≡ false) where
  followed-as : step_with_frames sends (followed_by object new r told) ≡ stepped_by object core r input
  followed-as =
      ap (λ (x : Core A). step_with_frames sends (followed_by object x r told)) en
      ∙ step-apart given object (running_of (ring_step core input).core) r runs

  pub follows-step : {X E : Type 0} (result : Result X E) (after : Core A) (now : Replica A) (outs : Outs A)
      → OnOk result (IsReplicaStepResult (step_with_frames sends (followed_by object new r told)) new after now outs)
      → OnOk result (IsReplicaStepResult (stepped_by object core r input) (ring_step core input).core after now outs)
  follows-step result after now outs h =
      subst (λ (s : ReplicaStepResult A). OnOk result (IsReplicaStepResult s (ring_step core input).core after now outs)) followed-as
      (subst (λ (x : Core A). OnOk result (IsReplicaStepResult (step_with_frames sends (followed_by object new r told)) x after now outs)) en h)

-- A replica whose step is idle needs no step on no outputs
none-told : {A : Type 0} (told : List (Out A)) → length told ≡ 0 → told ≡ []
none-told [] e = refl
none-told (o ∷ told) e = absurd (cc e)

pub is_step_idle-on : {O A : Type 0} (object : Sequential O) (core : Core A) (r : Replica A) (told : List (Out A)) (outs : Outs A) → length told ≡ 0 → IsBetweenSteps r
    → r.stopped ≡ false → HasFramesOnly outs → IsStepIdle object r → IsReplicaStepResult (step_with_frames outs.sends.items (followed_by object core r told)) core core r outs
is_step_idle-on {A} object core r told outs none done runs frames is_step_idle =
    let step : followed_by object core r told ≡ replica_still r = ap (followed_by object core r) (none-told told none) ∙ is_step_idle (running_of core) in
    subst (λ (s : ReplicaStepResult A). IsReplicaStepResult (step_with_frames outs.sends.items s) core core r outs) (sym step)
    (record {
      sends = sym (cond-false r.stopped [] outs.sends.items runs);
      answers = frames.answers;
      committed = frames.committed ∙ sym done.doing;
      dropped = frames.dropped ∙ sym done.leaving;
      restored = frames.restored;
      core = refl;
      replica = sym (still-ended r done);
    })

-- A running node

pub same-replica : {A : Type 0} → (core : Core A) (r : Replica A) (ended : Core A) → r.stopped ≡ false → IsRunningNode core r → r ≡ replica_of (node_view core r ended)
same-replica {A} core r ended s k =
    let of_me : ℕ → Replica A = λ x. record r { me = x } in
    let of_ahead : List (Epoch A) → Replica A = λ x. record r { me = core.me; epochs_in_step = x } in
    let of_doing : List (OneCall A) → Replica A = λ x. record r { me = core.me; epochs_in_step = r.epochs; doing = x } in
    let of_leaving : List (OneCall A) → Replica A = λ x. record r { me = core.me; epochs_in_step = r.epochs; doing = []; leaving = x } in
    let of_stopped : Bool → Replica A = λ x. record r { me = core.me; epochs_in_step = r.epochs; doing = []; leaving = []; stopped = x } in
    let of_core : Core A → Replica A = λ x. record r { me = x.me; epochs_in_step = r.epochs; doing = []; leaving = []; stopped = false } in
    ap of_me k.me ∙ ap of_ahead k.done.epochs ∙ ap of_doing k.done.doing ∙ ap of_leaving k.done.leaving ∙ ap of_stopped s
    ∙ ap of_core (sym (ap (λ b. core_view b core ended) s))

pub told-core : {A : Type 0} → (core : Core A) (r : Replica A) (ended : Core A) → r.stopped ≡ false → (node_view core r ended).core ≡ core
told-core core r ended s = ap (λ b. core_view b core ended) s

-- if the node's view isn't stopped, the core runs
pub runs-told : {A : Type 0} → (core : Core A) (r : Replica A) (ended : Core A) → is_stopped (node_view core r ended).core.state ≡ false → r.stopped ≡ false
runs-told {A} core r ended h = by r.stopped h
  where
    by : (b : Bool) → is_stopped (core_view b core ended).state ≡ false → b ≡ false
    by false h = refl
    by true h = absurd (cc h)

pub stops-told : {A : Type 0} → (core : Core A) (r : Replica A) (ended : Core A) → r.stopped ≡ true → is_stopped (node_view core r ended).core.state ≡ true
stops-told core r ended s = ap (λ b. is_stopped (core_view b core ended).state) s

-- A step

-- dropping places at the end of a step keeps the marks in relation
marked-ended : {A : Type 0} → (core : Core A) (b : Bool) (places : ℕ) (epochs : List (Epoch A)) → IsMarked core epochs
    → IsMarked core (if b then epochs_with_trim places epochs else epochs)
marked-ended {A} core true places epochs m =
    let trimmed : Epoch A = record m.epoch { trimmed = places } in
    record { epoch = trimmed; older = m.older; parts = ap (epochs_with_trim places) m.parts; ring = m.ring; marked = m.marked; ready = m.ready }
marked-ended core false places epochs m = m

-- what was restored doesn't depend on payloads handed over and places dropped
from-ended : {A : Type 0} (group : Group) (b : Bool) (places : ℕ) (epochs : List (Epoch A)) (due : List (Payload A))
    → (known_log_of group (if b then epochs_with_trim places (epochs_with_sends due epochs) else epochs_with_sends due epochs)).from ≡ (known_log_of group epochs).from
from-ended group true places epochs due =
    epochs_with_trim-from group places (epochs_with_sends due epochs) ∙ ap (λ (k : KnownLog _). k.from) (epochs_with_sends-kept group due epochs)
from-ended group false places epochs due = ap (λ (k : KnownLog _). k.from) (epochs_with_sends-kept group due epochs)

pub none-restored : {A : Type 0} → (k : KnownLog A) → None ≡ restored_since k k
none-restored k = sym (cond-false (nat_lt k.from k.from) (Some k.from) None (never-less k.from))

module _ {O A : Type 0} (object : Sequential O) (n : Node A) (core : Core A) (outs : List (Out A)) (epochs : List (Epoch A)) (due : List (Payload A))
    (kept : KnownLog A) where
  abbrev made_of : Bool → ReplicaStepResult A
  made_of b = replica_settled object b (replica_of n) outs epochs due kept

  abbrev gives : Bool → NodeStepResult A
  gives b = node_unless (made_of b).replica.stopped n core (made_of b)

  node-by : (b : Bool) → node_view (handed_over core (made_of b).due) (replica_ended (made_of b)) n.core ≡ (gives b).node
  node-by false =
      let of : List (OneCall A) → List (TicketAnswer A) → Node A = λ x y. record n { core = halted n.core; done = x; answers = y } in
      ap (λ x. of x (n.answers ++ [])) (append-nil n.done) ∙ ap (of n.done) (append-nil n.answers)
  node-by true = refl

  -- the outputs then are those of the node's step
  gives-by : (b : Bool) → kept ≡ known_log_of n.group epochs → {after : Core A} {now : Replica A} {given : Outs A} → IsReplicaStepResult (made_of b) core after now given
      → IsNodeStepResult n (gives b) (node_view after now n.core) given
  gives-by b is {after} {now} f =
      let node = ap (λ (x : Core A). node_view x now n.core) f.core
      ∙ ap (λ (x : Replica A). node_view (handed_over core (made_of b).due) x n.core) f.replica ∙ node-by b in
      by b f node
    where
      by : (b : Bool) {after : Core A} {now : Replica A} {given : Outs A} → IsReplicaStepResult (made_of b) core after now given
          → node_view after now n.core ≡ (gives b).node → IsNodeStepResult n (gives b) (node_view after now n.core) given
      by false f node =
          record {
            sends = f.sends;
            answers = f.answers;
            committed = f.committed;
            dropped = f.dropped;
            restored = f.restored ∙ none-restored (node_known_log n);
            node = node;
          }
      by true f node =
          record {
            sends = f.sends;
            answers = f.answers;
            committed = f.committed;
            dropped = f.dropped;
            restored = f.restored ∙ ap (λ x. if nat_lt (node_known_log n).from x then Some x else None) (ap (λ (k : KnownLog A). k.from) is
                ∙ sym (from-ended n.group (drops object (is_closed n.group (epochs_with_sends due epochs)) kept) kept.committed epochs due));
            node = node;
          }

  runs-by : (b : Bool) → IsMarked core epochs → is_stopped core.state ≡ false → n.core.me ≡ core.me → (replica_ended (made_of b)).stopped ≡ false →
      IsRunningNode (handed_over core (made_of b).due) (replica_ended (made_of b))
  runs-by false m g e s = absurd (cc s)
  runs-by true m g e s =
      record {
        done = record { epochs = refl; doing = refl; leaving = refl };
        me = e ∙ sym (me_handed core due);
        going = going_handed core due g;
        marked = marked-ended (handed_over core due) (drops object (is_closed n.group (epochs_with_sends due epochs)) kept) kept.committed (epochs_with_sends due epochs)
            (marked_handed core epochs due m);
      }

module _ {O A : Type 0} (object : Sequential O) (core : Core A) (r : Replica A) (ended : Core A) (input : Input A)
    (halts : r.stopped ≡ false) (k : IsRunningNode core r) where
  abbrev n : Node A
  n = node_view core r ended

  abbrev after : NodeStepResult A
  after = after_core object n (ring_step n.core input)

  -- the step of the node, from its replica's
  by-replica : (P : Replica A → Core A → Type 0) → P (replica_of n) n.core → P r core
  by-replica P h = subst (λ (x : Replica A). P x core) (sym (same-replica core r ended halts k))
      (subst (λ (c : Core A). P (replica_of n) c) (told-core core r ended halts) h)

  abbrev out : List (Out A)
  out = (ring_step n.core input).outs

  abbrev node_epochs : List (Epoch A)
  node_epochs = epochs_after n.epochs out

  abbrev due_sends : List (Payload A)
  due_sends = due_sends_by (moment_of object (running_of (ring_step n.core input).core) (replica_of n)) n.epochs out

  abbrev known : KnownLog A
  known = known_log_of n.group node_epochs

  abbrev sound : Bool
  sound = is_known_log_sound n.group node_epochs && is_restored object known

  rises-here : rises n.epochs out ≡ true
  rises-here =
      subst (λ (c : Core A). rises r.epochs (ring_step c input).outs ≡ true) (sym (told-core core r ended halts)) (rises_step core r.epochs input k.marked)

  pub runs-on : (replica_ended (stepped_by object core r input)).stopped ≡ false →
      IsRunningNode (handed_over (ring_step core input).core (stepped_by object core r input).due) (replica_ended (stepped_by object core r input))
  runs-on =
      by-replica (λ x c. (replica_ended (stepped_by object c x input)).stopped ≡ false →
      IsRunningNode (handed_over (ring_step c input).core (stepped_by object c x input).due) (replica_ended (stepped_by object c x input)))
      (runs-by object n (ring_step n.core input).core out node_epochs due_sends known sound
      (marked_step n.core n.epochs input (subst (λ (c : Core A). IsMarked c n.epochs) (sym (told-core core r ended halts)) k.marked))
      (going_step n.core input (subst (λ (c : Core A). is_stopped c.state ≡ false) (sym (told-core core r ended halts)) k.going))
      (sym (me_step n.core input)))

  module _ (steady : HasSoundEpochs r.group r.epochs) where
    step-here : after ≡ node_of_core_and_replica n (ring_step n.core input).core (replica_step object (running_of (ring_step n.core input).core) (replica_of n) out)
    step-here = step-is object n (ring_step n.core input) steady rises-here

    pub gives-step : {before new : Core A} {now : Replica A} {outs : Outs A}
        → IsReplicaStepResult (stepped_by object core r input) (ring_step core input).core new now outs → before ≡ core → IsNodeStepResult n after (node_view new now before) outs
    gives-step {before} {new} {now} {outs} =
        by-replica (λ x c. IsReplicaStepResult (stepped_by object c x input) (ring_step c input).core new now outs → before ≡ c
        → IsNodeStepResult n after (node_view new now before) outs)
        (λ f e. subst (λ (s : NodeStepResult A). IsNodeStepResult n s (node_view new now before) outs) (sym step-here)
        (subst (λ (c : Core A). IsNodeStepResult n (gives object n (ring_step n.core input).core out node_epochs due_sends known sound) (node_view new now c) outs) (sym e)
        (gives-by object n (ring_step n.core input).core out node_epochs due_sends known sound refl f)))

-- the stored values afterwards
pub stepped-node : {O A : Type 0} → (object : Sequential O) (core : Core A) (r : Replica A) (ended : Core A) (input : Input A)
    (halts : r.stopped ≡ false) (k : IsRunningNode core r) {new : Core A} {now : Replica A} {outs : Outs A} {last : Configuration} {before : Core A}
    → IsReplicaStepResult (stepped_by object core r input) (ring_step core input).core new now outs → last ≡ before.installed → IsNode new now last before
stepped-node {O} {A} object core r ended input halts k {new} {now} f is =
    record {
      runs = λ s. subst (λ (x : Core A). IsRunningNode x now) (sym f.core)
          (subst (λ (x : Replica A). IsRunningNode (handed_over (ring_step core input).core (stepped_by object core r input).due) x) (sym f.replica)
          (runs-on object core r ended input halts k (ap (λ (x : Replica A). x.stopped) (sym f.replica) ∙ s)));
      left = λ s. is;
    }

-- A submit

pub going-told : {A : Type 0} → (core : Core A) (r : Replica A) (ended : Core A) → r.stopped ≡ false → IsRunningNode core r
    → is_stopped (node_view core r ended).core.state ≡ false
going-told core r ended s k = ap (λ b. is_stopped (core_view b core ended).state) s ∙ k.going

pub fault-is : {A : Type 0} → (core : Core A) (r : Replica A) (last : Configuration) (ended : Core A)
    → IsNode core r last ended → submit_fault (node_view core r ended) ≡ submit_refusal r
fault-is {A} core r last ended k =
    let n = node_view core r ended in
    elim (cases_Bool r.stopped) [
      | inl t ↦ cond-true (is_stopped n.core.state) (Some StoppedFault)
          (if nat_le 64 (length (node_pending n)) then Some PendingFull else if nat_le max_number (length n.tickets) then Some PendingFull else None)
          (stops-told core r ended t)
          ∙ sym (cond-true r.stopped (Some StoppedFault)
          (if nat_le 64 (length (unanswered_tickets r.done r.tickets)) then Some PendingFull else if nat_le
          max_number (length r.tickets) then Some PendingFull else None) t)
      | inr f ↦ refused-is n (going-told core r ended f (k.runs f)) ∙ ap submit_refusal (sym (same-replica core r ended f (k.runs f)))
    ]

pub err-as : {X E : Type 0} → (r : Result X E) (P Q : E → Type 0) → ((e : E) → P e → Q e) → IfErr r P → IfErr r Q
err-as (Ok x) P Q f h = h
err-as (Err e) P Q f h = f e h

-- a call is handed to the core, or isn't, and the replica gives it a ticket
pub given-node : {A : Type 0} → (core new : Core A) (r old given : Replica A) (last last' : Configuration)
    (ended ended' : Core A) (running : Option RingId) (c : OneCall A) (b : Bool) →
    IsNode core r last ended → old ≡ r → last' ≡ last → ended' ≡ ended → has_adopted_running running r ≡ b → new ≡ handed_over core (handed_if b c) →
    given ≡ replica_with_ticket running old c → IsNode new given last' ended'
given-node {A} core new r old given last last' ended ended' running c b k eo el ee eb en eg =
    let due = handed_if (has_adopted_running running r) c in
    let is_new : new ≡ handed_over core due = en ∙ ap (λ x. handed_over core (handed_if x c)) (sym eb) in
    let is_given : given ≡ replica_with_ticket running r c = eg ∙ ap (λ (x : Replica A). replica_with_ticket running x c) eo in
    let made : IsNode (handed_over core due) (replica_with_ticket running r c) last ended = record {
      runs = λ s. (let h = k.runs s in record {
        done = record { epochs = refl; doing = h.done.doing; leaving = h.done.leaving };
        me = h.me ∙ sym (me_handed core due);
        going = going_handed core due h.going;
        marked = marked_handed core r.epochs due h.marked;
      });
      left = k.left;
    } in
    subst (λ (x : Core A). IsNode x given last' ended') (sym is_new)
    (subst (λ (x : Replica A). IsNode (handed_over core due) x last' ended') (sym is_given)
    (subst (λ (x : Configuration). IsNode (handed_over core due) (replica_with_ticket running r c) x ended') (sym el)
    (subst (λ (x : Core A). IsNode (handed_over core due) (replica_with_ticket running r c) last x) (sym ee) made)))

-- A stop
