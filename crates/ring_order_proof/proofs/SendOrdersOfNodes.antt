-- For each node of every world: what its core sent in a ring is a prefix of what the node handed to it during its epoch there.
use Rattle.std.proofs.Common.{◌≡◌, ℕ, ◌<◌, Bool, true, false, ◌==◌, ◌⊎◌, inl, inr, List, [], ◌∷◌, ◌++◌, map, Option}
use Rattle.std.proofs.Common.{Some, None, refl, ap, sym, ◌∙◌, subst, arith, append_assoc, append-nil}
use Rattle.std.specs.Prelude.{◌&&◌}
use Rattle.std.specs.List.{AllByRecursion as Each}
use Rattle.std.proofs.lemmas.Bool.{cond_both, cond-true, eq-eqb}
use Rattle.ring_base.specs.Prefixes.{IsListPrefix}
use Rattle.ring_base.specs.Group.{Group}
use Rattle.ring_base.specs.Processors.{has}
use Rattle.ring_base.specs.declared.fault.Fault.{Fault}
use Rattle.ring_base.specs.declared.ring_id.RingId.{RingId}
use Rattle.ring_base.specs.declared.state.State.{State}
use Rattle.ring_base.specs.declared.state.State.TheVariants.{Gather, Commit, Recovery, Operational, Stopped}
use Rattle.ring_base.proofs.Each.{each-weaker, each-append, each-map, each-right}
use Rattle.ring_object.specs.Operations.{Sequential}
use Rattle.ring_payload.specs.declared.call.Call.{Call as OneCall}
use Rattle.ring_payload.specs.declared.content.Payload.{Payload}
use Rattle.ring_payload.specs.declared.content.Payload.TheVariants.{Call, Wrapped, End, Head, Part, Pack, Snap}
use Rattle.ring_payload.specs.Packing.{is_queued, AreQueued}
use Rattle.ring_wire.specs.declared.message.Message.{Message}
use Rattle.ring_wire.specs.declared.frame.Frame.{Frame}
use Rattle.ring_core_spec.specs.Commits.{Configuration}
use Rattle.ring_core_spec.specs.Recoveries.{rest_messages}
use Rattle.ring_core_spec.specs.declared.input.Input.{Input}
use Rattle.ring_core_spec.specs.declared.input.Input.TheVariants.{Frame as FrameInput, Timeout as TimeInput, Send as SendInput}
use Rattle.ring_core_spec.specs.declared.out.Out.{Out}
use Rattle.ring_core_spec.specs.declared.out.Out.TheVariants.{Send as SendOut, Agreed, Safe, Trans, Rest, Regular}
use Rattle.ring_core_spec.specs.State.{Core, OutgoingFrame, Transmission, halted, frame_at}
use Rattle.ring_core_spec.specs.Views.{front, mark, plan}
use Rattle.ring_core_spec.specs.Deciding.{Transition, Ignore, Enqueue, Repeat, Announce, Invite, GiveUp, EnterGather, Agree, MergeJoin}
use Rattle.ring_core_spec.specs.Deciding.{EnterGatherAndAgree, EnterGatherAndMergeJoin, Take, Visit, Fill, Learn, decide}
use Rattle.ring_core_spec.specs.Deciding.{decide_payload}
use Rattle.ring_core_spec.specs.Transitions.{transition_and_proposal}
use Rattle.ring_core_spec.specs.Giving.{may_install, install, sends_with_receivers, sent, user_messages_between, agreed_from, safe_from, delivered_from, agreed_and_safe_of_step, installation_outputs, with_installation_if}
use Rattle.ring_core_spec.specs.Giving.{step_result}
use Rattle.ring_core_spec.specs.Stepping.{ring_step}
use Rattle.ring_core_proof.specs.FactWords.{IsIn}
use Rattle.ring_core_proof.specs.LawConditions.{IsInputOf}
use Rattle.ring_core_proof.proofs.Causes.{caused}
use Rattle.ring_core_proof.proofs.InLists.{each-in}
use Rattle.ring_synchrony_proof.proofs.Ordered.{Ordered}
use Rattle.ring_synchrony_proof.proofs.LifeAfterStep.{keeps_done}
use Rattle.ring_log.specs.Epochs.{Epoch, epochs_with_sends, epochs_with_trim}
use Rattle.ring_log.specs.Logs.{committed_calls}
use Rattle.ring_node_spec.specs.declared.input.Input.{Input as NodeInput}
use Rattle.ring_node_spec.specs.declared.input.Input.TheVariants.{Frame as NodeFrame, Noise as NodeNoise, Timeout as NodeTime, Stop as NodeStop}
use Rattle.ring_node_spec.specs.EpochHistories.{epochs_after_event, epochs_after}
use Rattle.ring_node_spec.specs.Nodes.{Node, node_opening, node_known_log, node_stopped, is_closed, is_restored}
use Rattle.ring_node_spec.specs.DueSends.{due_of_outputs}
use Rattle.ring_node_spec.specs.Stepping.{NodeStepResult, handed_over, node_after_outputs, with_dropped, newly_committed, drops, did, settled, after_core, node_step, due_by_submit}
use Rattle.ring_node_spec.specs.Stepping.{submit_fault, node_after_submit}
use Rattle.ring_log_proof.specs.RingFacts.{HasEpoch, EpochIn}
use Rattle.ring_log_proof.specs.Discipline.{FollowsHead, OpensWithHead}
use Rattle.ring_log_proof.proofs.RunEpochs.{IsOrderly}
use Rattle.ring_core_spec.proofs.Quiet.{with_queue, installs_same, stepped_is}
use Rattle.ring_core_spec.proofs.States.{installs_recovering}
use Rattle.ring_node_spec.proofs.EpochsAfterOutputs.{through-append}
use Rattle.ring_order_proof.proofs.DisciplinedSteps.{rings_of, installed_rings}
use Rattle.ring_order_proof.proofs.DisciplinedNodes.{IsOrderlyNode, falls_from, stays_below}
use Rattle.ring_order_proof.proofs.DisciplinedWorlds.{IsNodeKept, AllKept, run_on, opened_on}
use Rattle.ring_node_spec.specs.declared.event.Event.{Event}
use Rattle.ring_node_spec.specs.declared.event.Event.TheVariants.{Issue, Deliver, Noise, Timeout, Stop}
use Rattle.ring_node_spec.specs.Worlds.{World, with_node, world_opening, is_node, world_after_submit, world_after_submit_if_member, world_after_stop_if_member}
use Rattle.ring_node_spec.specs.Worlds.{world_after_input_if_member, world_after_receipt_if_sent, world_after_delivery, world_after_event, run}
use Rattle.ring_node_spec.proofs.QueuedSends.{queued_all}
use Rattle.ring_order_proof.specs.SentPayloads.{sent_payloads}
use Rattle.ring_order_proof.specs.SendOrder.{SendsInOrder}
use Rattle.ring_order_proof.proofs.SendOrders.{IsSpeaker, IsSaid, IsNoSend, done_said, done_speaks, install_said, install_new}
use Rattle.ring_order_proof.proofs.SendOrders.{install_speaks, halt_said, halt_speaks, opening_speaks, queue_with}
use Rattle.ring_order_proof.proofs.SendOrders.{hand_said, hand_other, hand_speaks}
use Rattle.ring_log.specs.KnownLog.{KnownLog, known_log_of, retained_log, is_known_log_sound}

-- A life as its rings with what was handed over there

abbrev pub handed_in : {A : Type 0} → List (Epoch A) → List (RingId × List (Payload A))
handed_in {A} epochs = map (λ (s : Epoch A). (s.ring, s.sent)) epochs

abbrev pub AllSaid : {A : Type 0} → Core A → List (RingId × List (Payload A)) → Type 0
AllSaid {A} c hs = Each (λ (h : RingId × List (Payload A)). IsSaid c h.0 h.1) hs

-- an output that installs no ring
abbrev IsNoRegular : {A : Type 0} → Out A → Type 0
IsNoRegular (Regular ring set) = ⊥
IsNoRegular (SendOut to frame) = Unit {0}
IsNoRegular (Agreed ring n x) = Unit {0}
IsNoRegular (Safe ring upto) = Unit {0}
IsNoRegular (Trans old new set) = Unit {0}
IsNoRegular (Rest ring n x) = Unit {0}

lived_handed : {A : Type 0} → (epochs : List (Epoch A)) (o : Out A) → IsNoRegular o → handed_in (epochs_after_event epochs o) ≡ handed_in epochs
lived_handed epochs (Regular ring set) h = absurd h
lived_handed epochs (SendOut to frame) h = refl
lived_handed [] (Agreed ring n x) h = refl
lived_handed (s ∷ epochs) (Agreed ring n x) h = refl
lived_handed [] (Safe ring upto) h = refl
lived_handed (s ∷ epochs) (Safe ring upto) h = refl
lived_handed epochs (Trans old new set) h = refl
lived_handed epochs (Rest ring n x) h = refl

through_handed : {A : Type 0} → (epochs : List (Epoch A)) (outs : List (Out A)) → Each IsNoRegular outs → handed_in (epochs_after epochs outs) ≡ handed_in epochs
through_handed epochs [] h = refl
through_handed epochs (o ∷ outs) h = through_handed (epochs_after_event epochs o) outs h.1 ∙ lived_handed epochs o h.0

delivered_regular : {A : Type 0} → (c : Core A) (ring : RingId) (f m : ℕ) → Each IsNoRegular (delivered_from c ring f m)
delivered_regular {A} c ring f m =
    each-append IsNoRegular (agreed_from c ring f) (safe_from c ring m)
    (each-map IsNoRegular (λ (x : Message A). Agreed ring x.number x) (user_messages_between c ring f (front c ring)) (each-in _ _ (λ x k. tt)))
    (cond_both _ (Safe ring (mark c ring) ∷ []) [] (Each IsNoRegular) (λ e. (tt, tt)) (λ e. tt))

given_regular : {A : Type 0} → (c d : Core A) (sends : List (OutgoingFrame A)) → Each IsNoRegular (sent sends ++ agreed_and_safe_of_step c d)
given_regular {A} c d sends =
    each-append IsNoRegular (sent sends) (agreed_and_safe_of_step c d)
    (each-map IsNoRegular (λ (s : OutgoingFrame A). SendOut s.to s.frame) (sends_with_receivers sends) (each-in _ _ (λ x k. tt)))
    (delivered_regular d c.installed.ring _ _)

configured_handed : {A : Type 0} → (epochs : List (Epoch A)) (d : Core A) → handed_in (epochs_after epochs (installation_outputs d)) ≡ (d.running.ring, []) ∷ handed_in epochs
configured_handed {A} epochs d =
    let rest : List (Out A) = map (λ (x : Message A). Rest x.ring x.number x) (rest_messages (plan d) d.held) in
    let more : List (Out A) = delivered_from d d.running.ring 0 0 in
    let silent : Each IsNoRegular rest = each-map IsNoRegular (λ (x : Message A). Rest x.ring x.number x) (rest_messages (plan d) d.held) (each-in _ _ (λ x k. tt)) in
    ap handed_in (through-append epochs rest (Regular d.running.ring d.running.members ∷ more))
    ∙ through_handed (epochs_after_event (epochs_after epochs rest) (Regular d.running.ring d.running.members)) more (delivered_regular d d.running.ring 0 0)
    ∙ ap (λ (hs : List (RingId × List (Payload A))). (d.running.ring, []) ∷ hs) (through_handed epochs rest silent)

-- A step of the core

each_installed : {A : Type 0} → (d : Core A) → Ordered d → d.state ≡ Recovery → (epochs : List (Epoch A)) →
    ((ring : RingId) → IsIn ring (rings_of epochs) → IsIn ring (installed_rings d.installs)) → AllSaid d (handed_in epochs) → AllSaid (install d) (handed_in epochs)
each_installed d o e [] f h = tt
each_installed d o e (s ∷ epochs) f h =
    (install_said d o e s.ring s.sent (f s.ring (inl refl)) h.0, each_installed d o e epochs (λ ring i. f ring (inr i)) h.1)

settled_says : {A : Type 0} → (d : Core A) (outs : List (Out A)) (epochs : List (Epoch A)) (b : Bool) → may_install d ≡ b → Ordered d → IsSpeaker d →
    rings_of epochs ≡ installed_rings d.installs → Each IsNoRegular outs → AllSaid d (handed_in epochs) →
    AllSaid (with_installation_if b d outs).core (handed_in (epochs_after epochs (with_installation_if b d outs).outs)) × IsSpeaker (with_installation_if b d outs).core
settled_says {A} d outs epochs false e o m r n h = (subst (AllSaid d) (sym (through_handed epochs outs n)) h, m)
settled_says {A} d outs epochs true e o m r n h =
    let s = installs_recovering d.state d e in
    let all : AllSaid (install d) ((d.running.ring, []) ∷ handed_in epochs) =
    (install_new d o m s, each_installed d o s epochs (λ ring i. subst (λ (rs : List RingId). IsIn ring rs) r i) h) in
    let is : handed_in (epochs_after epochs (outs ++ installation_outputs d)) ≡ (d.running.ring, []) ∷ handed_in epochs =
    ap handed_in (through-append epochs outs (installation_outputs d)) ∙ configured_handed (epochs_after epochs outs) d
    ∙ ap (λ (hs : List (RingId × List (Payload A))). (d.running.ring, []) ∷ hs) (through_handed epochs outs n) in
    (subst (AllSaid (install d)) (sym is) all, install_speaks d m)

no_send : {A : Type 0} → (c : Core A) (input : Input A) (a : Transition A) → IsInputOf c input a → ((p : Payload A) → input ≡ SendInput p → ⊥) → IsNoSend a
no_send c input Ignore w n = tt
no_send c input (Enqueue p) w n = n p w
no_send c input Repeat w n = tt
no_send c input Announce w n = tt
no_send c input Invite w n = tt
no_send c input GiveUp w n = tt
no_send c input EnterGather w n = tt
no_send c input (Agree j) w n = tt
no_send c input (MergeJoin j) w n = tt
no_send c input (EnterGatherAndAgree j) w n = tt
no_send c input (EnterGatherAndMergeJoin j) w n = tt
no_send c input (Take x) w n = tt
no_send c input (Visit t) w n = tt
no_send c input (Fill k) w n = tt
no_send c input (Learn k) w n = tt

pub core_says : {A : Type 0} → (c : Core A) (input : Input A) (epochs : List (Epoch A)) → ((p : Payload A) → input ≡ SendInput p → ⊥) → Ordered c → IsSpeaker c →
    rings_of epochs ≡ installed_rings c.installs → AllSaid c (handed_in epochs) →
    AllSaid (ring_step c input).core (handed_in (epochs_after epochs (ring_step c input).outs)) × IsSpeaker (ring_step c input).core
unfolding ring_step
core_says {A} c input epochs n o m r h =
    let d = transition_and_proposal c (decide c input) in
    let k = keeps_done c input o in
    let none = no_send c input (decide c input) (caused c input) n in
    settled_says d.core (sent d.sends ++ agreed_and_safe_of_step c d.core) epochs (may_install d.core) refl k.ordered (done_speaks c input o m)
    (r ∙ ap installed_rings (sym (k.keeps).installs)) (given_regular c d.core d.sends)
    (each-weaker (λ (x : RingId × List (Payload A)). IsSaid c x.0 x.1) (λ (x : RingId × List (Payload A)). IsSaid d.core x.0 x.1)
    (λ x s. done_said c input none m x.0 x.1 s) (handed_in epochs) h)

-- The due payloads are handed over

settled_core : {A : Type 0} → (b : Bool) (c : Core A) (outs : List (Out A)) → b ≡ false → (with_installation_if b c outs).core ≡ c
settled_core false c outs e = refl
settled_core true c outs e = absurd cc

sent_act : {A : Type 0} → (s : State) (c : Core A) (p : Payload A) → may_install c ≡ false → is_queued p ≡ true →
    (step_result c (transition_and_proposal c (decide_payload s p))).core ≡ with_queue c (queue_with s c.queue (p ∷ []))
sent_act Gather c p h q = settled_core _ _ _ h
sent_act Commit c p h q = settled_core _ _ _ h
sent_act Recovery c p h q = settled_core _ _ _ h
sent_act Stopped c p h q = settled_core _ _ _ h
sent_act {A} Operational c p h q =
    ap (λ (a : Transition A). (step_result c (transition_and_proposal c a)).core) (cond-true (is_queued p) (Enqueue p) Ignore q)
    ∙ settled_core _ _ _ (installs_same c.state c (c.queue ++ p ∷ []) ∙ h)

sent_one : {A : Type 0} → (c : Core A) (p : Payload A) → may_install c ≡ false → is_queued p ≡ true →
    (ring_step c (SendInput p)).core ≡ with_queue c (queue_with c.state c.queue (p ∷ []))
unfolding ring_step
sent_one c p h q = sent_act c.state c p h q

queue_none : {A : Type 0} → (s : State) (queue : List (Payload A)) → queue_with s queue [] ≡ queue
queue_none Gather queue = refl
queue_none Commit queue = refl
queue_none Recovery queue = refl
queue_none Operational queue = append-nil queue
queue_none Stopped queue = refl

queue_then : {A : Type 0} → (s : State) (queue : List (Payload A)) (p : Payload A) (ps : List (Payload A)) →
    queue_with s (queue_with s queue (p ∷ [])) ps ≡ queue_with s queue (p ∷ ps)
queue_then Gather queue p ps = refl
queue_then Commit queue p ps = refl
queue_then Recovery queue p ps = refl
queue_then Operational queue p ps = append_assoc queue (p ∷ []) ps
queue_then Stopped queue p ps = refl

pub handed_queue : {A : Type 0} → (c : Core A) (ps : List (Payload A)) → may_install c ≡ false → AreQueued ps →
    handed_over c ps ≡ with_queue c (queue_with c.state c.queue ps)
handed_queue {A} c [] h q = ap (with_queue c) (sym (queue_none c.state c.queue))
handed_queue {A} c (p ∷ ps) h q =
    let one : List (Payload A) = queue_with c.state c.queue (p ∷ []) in
    ap (λ (d : Core A). handed_over d ps) (sent_one c p h q.0)
    ∙ handed_queue (with_queue c one) ps (installs_same c.state c one ∙ h) q.1
    ∙ ap (with_queue c) (queue_then c.state c.queue p ps)

-- The rings before the newest differ from it

pub older_below : {A : Type 0} → (n : Node A) (o : IsOrderlyNode n) → Each (λ (t : Epoch A). t.ring.seq < n.core.installed.ring.seq) o.older
older_below {A} n o =
    let all : rings_of (o.epoch ∷ o.older) ≡ installed_rings (n.core.installed ∷ (o.ordered).older) = o.rings ∙ ap installed_rings (o.ordered).newest in
    let rest : rings_of o.older ≡ installed_rings (o.ordered).older = cc all in
    stays_below n.core.installed.ring.seq o.older (o.ordered).older rest (falls_from n.core.installed (o.ordered).older (o.ordered).falls)

-- A node

pub record NodeSays {A : Type 0} (n : Node A) : Type 0 where
  pub speaks : IsSpeaker n.core
  pub said : AllSaid n.core (handed_in n.epochs)

-- all that a node handed over may be in a queue
abbrev HasQueued : {A : Type 0} → List (Epoch A) → Type 0
HasQueued {A} epochs = Each (λ (s : Epoch A). AreQueued s.sent) epochs

follows_queued : {A : Type 0} → (log : KnownLog A) (p : Payload A) → FollowsHead log p → is_queued p ≡ true
follows_queued log (Part part) h = refl
follows_queued log (Call call) h = refl
follows_queued log (Head head) h = absurd h
follows_queued log (Pack pack) h = absurd h
follows_queued log (Snap snap) h = refl
follows_queued log (Wrapped old) h = absurd h
follows_queued log End h = absurd h

opened_queued : {A : Type 0} → (group : Group) (s : Epoch A) (older : List (Epoch A)) → (s.sent ≡ []) ⊎ OpensWithHead group s older → AreQueued s.sent
opened_queued group s older (inl e) = subst AreQueued (sym e) tt
opened_queued {A} group s older (inr h) =
    subst AreQueued (sym h.opens)
    (refl, each-weaker (FollowsHead (known_log_of group older)) (λ (p : Payload A). is_queued p ≡ true) (follows_queued (known_log_of group older)) h.rest h.follows)

orderly_queued : {A : Type 0} → (group : Group) (epochs : List (Epoch A)) → IsOrderly group epochs → HasQueued epochs
orderly_queued group [] k = tt
orderly_queued group (s ∷ epochs) k = (opened_queued group s epochs (k s epochs (inl (refl, refl))), orderly_queued group epochs (λ t older i. k t older (inr i)))

-- rings below a number, and what was handed over there
abbrev AreBelow : {A : Type 0} → ℕ → List (RingId × List (Payload A)) → Type 0
AreBelow {A} n hs = Each (λ (h : RingId × List (Payload A)). h.0.seq < n) hs

-- if a node's core stepped and its life was extended, and the due payloads are handed over
hands_says : {A : Type 0} → (core : Core A) (s : Epoch A) (older : List (Epoch A)) (due : List (Payload A)) → AreQueued due → may_install core ≡ false →
    AreBelow core.installed.ring.seq (handed_in older) → IsSpeaker core → AllSaid core (handed_in (s ∷ older)) →
    AllSaid (handed_over core due) (handed_in (epochs_with_sends due (s ∷ older))) × IsSpeaker (handed_over core due)
hands_says {A} core s older due q ready below m h =
    let new = with_queue core (queue_with core.state core.queue due) in
    let is : handed_over core due ≡ new = handed_queue core due ready q in
    let all : AllSaid new (handed_in (epochs_with_sends due (s ∷ older))) = (hand_said core s.ring s.sent due h.0, others (handed_in older) below h.1) in
    (subst (λ (c : Core A). AllSaid c (handed_in (epochs_with_sends due (s ∷ older)))) (sym is) all, subst IsSpeaker (sym is) (hand_speaks core due q m))
  where
    others : (hs : List (RingId × List (Payload A))) → AreBelow core.installed.ring.seq hs → AllSaid core hs →
        AllSaid (with_queue core (queue_with core.state core.queue due)) hs
    others [] b k = tt
    others (t ∷ hs) b k = (
      hand_other core t.0 t.1 due (λ e. (let x : t.0.seq ≡ core.installed.ring.seq = ap
          (λ (r : RingId). r.seq) e in let l : t.0.seq < core.installed.ring.seq = b.0 in omega (arith, x, l))) k.0,
      others hs b.1 k.1,
    )

-- the first of them, and the others
sent_first : {A : Type 0} → List (RingId × List (Payload A)) → List (Payload A)
sent_first [] = []
sent_first (h ∷ hs) = h.1

but_first : {A : Type 0} → List (RingId × List (Payload A)) → List (RingId × List (Payload A))
but_first [] = []
but_first (h ∷ hs) = hs

-- the node after that, whatever it dropped: by its life, what was due may be in a queue
handed_says : {A : Type 0} → (new : Node A) (core : Core A) (epochs : List (Epoch A)) (due : List (Payload A))
    → new.core ≡ handed_over core due → handed_in new.epochs ≡ handed_in (epochs_with_sends due epochs) →
    IsOrderlyNode new → HasQueued new.epochs → may_install core ≡ false → (new.core).installed ≡ core.installed
    → IsSpeaker core → AllSaid core (handed_in epochs) → NodeSays new
unfolding sent_first but_first
handed_says {A} new core [] due c l o q ready i m h =
    absurd (let x : handed_in (o.epoch ∷ o.older) ≡ [] = sym (ap handed_in o.epochs) ∙ l in let y : ⊥ = cc x in y)
handed_says {A} new core (s ∷ older) due c l o q ready i m h =
    let e : handed_in (o.epoch ∷ o.older) ≡ handed_in (epochs_with_sends due (s ∷ older)) = sym (ap handed_in o.epochs) ∙ l in
    let rest : handed_in o.older ≡ handed_in older = ap but_first e in
    let sent : o.epoch.sent ≡ s.sent ++ due = ap sent_first e in
    let queued : HasQueued (o.epoch ∷ o.older) = subst HasQueued o.epochs q in
    let all : AreQueued (s.sent ++ due) = subst AreQueued sent queued.0 in
    let low : AreBelow new.core.installed.ring.seq (handed_in o.older) =
    each-map (λ (x : RingId × List (Payload A)). x.0.seq < new.core.installed.ring.seq) (λ (t : Epoch A). (t.ring, t.sent)) o.older (older_below new o) in
    let below : AreBelow core.installed.ring.seq (handed_in older) =
    subst (λ (x : Configuration). AreBelow x.ring.seq (handed_in older)) i
    (subst (λ (hs : List (RingId × List (Payload A))). AreBelow new.core.installed.ring.seq hs) rest low) in
    let both = hands_says core s older due (each-right (λ (p : Payload A). is_queued p ≡ true) s.sent due all) ready below m h in
    record {
      speaks = subst IsSpeaker (sym c) both.1;
      said = subst (λ (x : Core A). AllSaid x (handed_in new.epochs)) (sym c)
          (subst (λ (hs : List (RingId × List (Payload A))). AllSaid (handed_over core due) hs) (sym l) both.0);
    }

trims_handed : {A : Type 0} → (places : ℕ) (epochs : List (Epoch A)) → handed_in (epochs_with_trim places epochs) ≡ handed_in epochs
trims_handed places [] = refl
trims_handed places (s ∷ older) = refl

-- A stop

stopped_said : {A : Type 0} → (c : Core A) (hs : List (RingId × List (Payload A))) → AllSaid c hs → AllSaid (halted c) hs
stopped_said c [] h = tt
stopped_said c (x ∷ hs) h = (halt_said c x.0 x.1 h.0, stopped_said c hs h.1)

stops_says : {A : Type 0} → (n : Node A) → NodeSays n → NodeSays (node_stopped n)
stops_says n h = record { speaks = halt_speaks n.core h.speaks; said = stopped_said n.core (handed_in n.epochs) h.said }

-- The steps of a node, if the node after it is consistent

after_says : {O A : Type 0} → (object : Sequential O) (n : Node A) (t : Bool) (core : Core A) (outs : List (Out A)) → NodeSays n → may_install core ≡ false →
    IsSpeaker core → AllSaid core (handed_in (epochs_after n.epochs outs)) →
    let epochs = epochs_after n.epochs outs in
    let due = due_of_outputs object n core n.epochs outs in
    let new = (settled object t n (node_after_outputs n core epochs due) outs (known_log_of n.group epochs)).node in
    IsOrderlyNode new → HasQueued new.epochs → ((handed_over core due).installed ≡ core.installed) → NodeSays new
after_says object n false core outs s ready m h o q i = stops_says n s
after_says {O} {A} object n true core outs s ready m h o q i =
    let epochs = epochs_after n.epochs outs in
    let due = due_of_outputs object n core n.epochs outs in
    let k = known_log_of n.group epochs in
    let new = node_after_outputs n core epochs due in
    let d = did object n new outs k (newly_committed (node_known_log n) k) in
    let cut = with_dropped k.committed d.node in
    cond_both (drops object (is_closed n.group new.epochs) k) (record d { node = cut; dropped = committed_calls (retained_log k) }) d
    (λ (x : NodeStepResult A). IsOrderlyNode x.node → HasQueued x.node.epochs → NodeSays x.node)
    (λ e orderly queued. handed_says cut core epochs due refl (trims_handed k.committed (epochs_with_sends due epochs)) orderly queued ready i m h)
    (λ e orderly queued. handed_says d.node core epochs due refl refl orderly queued ready i m h) o q

input_says : {O A : Type 0} → (object : Sequential O) (n : Node A) (input : Input A)
    → ((p : Payload A) → input ≡ SendInput p → ⊥) → IsOrderlyNode n → NodeSays n →
    IsOrderlyNode (after_core object n (ring_step n.core input)).node → HasQueued (after_core object n (ring_step n.core input)).node.epochs →
    NodeSays (after_core object n (ring_step n.core input)).node
input_says {O} {A} object n input other o s new q =
    let c = ring_step n.core input in
    let rings : rings_of n.epochs ≡ installed_rings n.core.installs = ap rings_of o.epochs ∙ o.rings in
    let k = core_says n.core input n.epochs other o.ordered s.speaks rings s.said in
    let ready : may_install c.core ≡ false = stepped_is n.core input in
    let due = due_of_outputs object n c.core n.epochs c.outs in
    let epochs = epochs_after n.epochs c.outs in
    after_says object n (is_known_log_sound n.group epochs && is_restored object (known_log_of n.group epochs)) c.core c.outs s ready k.1 k.0 new q
    (ap (λ (x : Core A). x.installed) (queued_all c.core due ready).is)

node_says : {O A : Type 0} → (object : Sequential O) (n : Node A) (input : NodeInput A) → IsOrderlyNode n → NodeSays n
    → IsOrderlyNode (node_step object n input).node →
    HasQueued (node_step object n input).node.epochs → NodeSays (node_step object n input).node
node_says object n (NodeFrame frame) o s new q = input_says object n (FrameInput frame) (λ p e. cc) o s new q
node_says object n (NodeTime kind) o s new q = input_says object n (TimeInput kind) (λ p e. cc) o s new q
node_says object n NodeNoise o s new q = s
node_says object n NodeStop o s new q = stops_says n s

submit_says : {A : Type 0} → (n : Node A) (c : OneCall A) → IsOrderlyNode n → NodeSays n
    → IsOrderlyNode (node_after_submit n c) → HasQueued (node_after_submit n c).epochs → NodeSays (node_after_submit n c)
submit_says {A} n c o s new q =
    let due = due_by_submit n c in
    handed_says (node_after_submit n c) n.core n.epochs due refl refl new q o.ready
    (ap (λ (x : Core A). x.installed) (queued_all n.core due o.ready).is) s.speaks s.said

-- Every world

abbrev pub AllSay : {A : Type 0} → World A → Type 0
AllSay w = (i : ℕ) → NodeSays (w.nodes i)

module _ {O A : Type 0} (object : Sequential O) (group : Group) where
  -- one node became another
  put_says : (nodes : ℕ → Node A) (i : ℕ) (n : Node A) → ((j : ℕ) → NodeSays (nodes j)) → ((j : ℕ) → IsNodeKept group (with_node nodes i n j)) →
      (IsOrderlyNode n → HasQueued n.epochs → NodeSays n) → (j : ℕ) → NodeSays (with_node nodes i n j)
  put_says nodes i n s k f j =
      let here : with_node nodes i n i ≡ n = cond-true (i == i) n (nodes i) (eq-eqb i i refl) in
      let kept : IsNodeKept group n = subst (IsNodeKept group) here (k i) in
      cond_both (j == i) n (nodes j) (λ (m : Node A). NodeSays m) (λ e. f kept.orderly (orderly_queued group n.epochs kept.keeps)) (λ e. s j)

  module _ (w : World A) (k : AllKept group w) (s : AllSay w) where
    steps_say : (i : ℕ) (input : NodeInput A) (b : Bool) → AllKept group (world_after_input_if_member object b w i input) → AllSay (world_after_input_if_member object b w i input)
    steps_say i input false a = s
    steps_say i input true a = put_says w.nodes i _ s a (λ o q. node_says object (w.nodes i) input (k i).orderly (s i) o q)

    issues_say_or : (i : ℕ) (c : OneCall A) (fault : Option Fault) → AllKept group (world_after_submit fault w i c) → AllSay (world_after_submit fault w i c)
    issues_say_or i c (Some fault) a = s
    issues_say_or i c None a = put_says w.nodes i _ s a (λ o q. submit_says (w.nodes i) c (k i).orderly (s i) o q)

    issues_say : (i : ℕ) (c : OneCall A) (b : Bool) → AllKept group (world_after_submit_if_member b w i c) → AllSay (world_after_submit_if_member b w i c)
    issues_say i c false a = s
    issues_say i c true a = issues_say_or i c (submit_fault (w.nodes i)) a

    stops_say : (i : ℕ) (b : Bool) → AllKept group (world_after_stop_if_member b w i) → AllSay (world_after_stop_if_member b w i)
    stops_say i false a = s
    stops_say i true a = put_says w.nodes i _ s a (λ o q. stops_says (w.nodes i) (s i))

    hands_say_if : (i : ℕ) (frame : Frame A) (b : Bool) → AllKept group (world_after_receipt_if_sent object b w i frame) → AllSay (world_after_receipt_if_sent object b w i frame)
    hands_say_if i frame false a = s
    hands_say_if i frame true a = steps_say i (NodeFrame frame) (is_node w i) a

    hands_say : (i : ℕ) (f : Option (Transmission A)) → AllKept group (world_after_delivery object w i f) → AllSay (world_after_delivery object w i f)
    hands_say i None a = s
    hands_say i (Some f) a = hands_say_if i f.frame (has f.to i) a

    event_says : (e : Event A) → AllKept group (world_after_event object w e) → AllSay (world_after_event object w e)
    event_says (Issue i c) a = issues_say i c (is_node w i) a
    event_says (Deliver i n) a = hands_say i (frame_at w.frames n) a
    event_says (Noise i bytes) a = s
    event_says (Timeout i kind) a = steps_say i (NodeTime kind) (is_node w i) a
    event_says (Stop i) a = stops_say i (is_node w i) a

  run_says : (w : World A) → AllKept group w → AllSay w → (events : List (Event A)) → AllSay (run object w events)
  run_says w k s [] = s
  run_says w k s (e ∷ events) =
      let next : AllKept group (world_after_event object w e) = λ i. ((run_on object group w k (e ∷ [])).nodes i).kept in
      run_says (world_after_event object w e) next (event_says w k s e next) events

opening_says : {A : Type 0} → (group : Group) (me : ℕ) → NodeSays (node_opening {A = A} group me)
opening_says {A} group me =
    record { speaks = opening_speaks group.count me; said = (record { front = ([], refl); waits = λ o e. absurd (let x : ⊥ = cc in x) }, tt) }

pub all_say : {O A : Type 0} → (object : Sequential O) (group : Group) (events : List (Event A)) → AllSay (run object (world_opening group) events)
all_say object group events = run_says object group (world_opening group) (λ i. ((opened_on object group []).nodes i).kept) (λ i. opening_says group i) events

-- The conclusions

said_at : {A : Type 0} → (c : Core A) (epochs : List (Epoch A)) → AllSaid c (handed_in epochs) → (s : Epoch A) (older : List (Epoch A)) → HasEpoch epochs s older →
    IsListPrefix (sent_payloads c s.ring) s.sent
said_at c [] h s older i = absurd i
said_at {A} c (t ∷ epochs) h s older (inl e) = subst (λ (x : Epoch A). IsListPrefix (sent_payloads c x.ring) x.sent) e.0 ((h.0).front)
said_at c (t ∷ epochs) h s older (inr i) = said_at c epochs h.1 s older i

stay_of : {A : Type 0} → (epochs : List (Epoch A)) (ring : RingId) → IsIn ring (rings_of epochs) → EpochIn epochs ring
stay_of [] ring i = absurd i
stay_of (s ∷ epochs) ring (inl e) = record { epoch = s; older = epochs; there = inl (refl, refl); ring = sym e }
stay_of (s ∷ epochs) ring (inr i) = let r = stay_of epochs ring i in record { epoch = r.epoch; older = r.older; there = inr r.there; ring = r.ring }

pub in_order : {A : Type 0} → (n : Node A) → NodeSays n → rings_of n.epochs ≡ installed_rings n.core.installs → SendsInOrder n
in_order {A} n says rings =
    record {
      front = said_at n.core n.epochs says.said;
      silent = λ ring. elim ((says.speaks).silent ring) [
        | inl e ↦ inl e
        | inr i ↦ inr (stay_of n.epochs ring (subst (λ (rs : List RingId). IsIn ring rs) (sym rings) i))
      ];
    }

pub all_in_order : {O A : Type 0} → (object : Sequential O) (group : Group) (events : List (Event A)) (i : ℕ)
    → SendsInOrder ((run object (world_opening group) events).nodes i)
all_in_order object group events i =
    let n = (run object (world_opening group) events).nodes i in
    let o = (((opened_on object group events).nodes i).kept).orderly in
    in_order n (all_say object group events i) (ap rings_of o.epochs ∙ o.rings)
