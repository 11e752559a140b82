-- Each event of a run is a step by the rules of the one order, if the lives before and after it are consistent and each node
-- knows the whole log.
use Rattle.std.proofs.Common.{◌≡◌, ℕ, suc, zero, ◌+◌, ◌-◌, ◌≤◌, ◌<◌, ◌==◌, Bool, true, false, List, [], ◌∷◌, ◌++◌}
use Rattle.std.proofs.Common.{Option, Some, None, refl, ap, sym}
use Rattle.std.proofs.Common.{subst, ◌∙◌, inl, inr, arith, append-nil, All}
use Rattle.std.specs.Prelude.{slice_get, map}
use Rattle.std.proofs.lemmas.Bool.{cond-true, and_parts, leb-true, eq-eqb}
use Rattle.std.proofs.lemmas.List.Elements.{All-nil, All-cons}
use Rattle.ring_base.specs.Prefixes.{IsListPrefix}
use Rattle.ring_base.specs.Group.{Group}
use Rattle.ring_base.specs.Numbers.{numbers_from}
use Rattle.ring_base.specs.Processors.{has}
use Rattle.ring_base.specs.declared.fault.Fault.{Fault}
use Rattle.ring_base.proofs.Each.{each-get, each-front}
use Rattle.ring_base.proofs.ListPlaces.{get-numbers}
use Rattle.ring_object.specs.Operations.{Sequential}
use Rattle.ring_payload.specs.declared.call.Call.{Call}
use Rattle.ring_core_spec.specs.State.{Transmission, frame_at}
use Rattle.ring_log.specs.EpochHistories.{log_of, committed_of}
use Rattle.ring_session.specs.Table.{Table}
use Rattle.ring_session.specs.Tickets.{answers_after}
use Rattle.ring_session.specs.declared.ticket_answer.TicketAnswer.{TicketAnswer}
use Rattle.ring_node_spec.specs.Nodes.{Node, node_known_log}
use Rattle.ring_node_spec.specs.declared.input.Input.{Input}
use Rattle.ring_node_spec.specs.declared.input.Input.TheVariants.{Frame as FrameInput, Timeout as TimeInput}
use Rattle.ring_node_spec.specs.Stepping.{newly_committed, node_step, submit_fault}
use Rattle.ring_node_spec.specs.declared.event.Event.{Event}
use Rattle.ring_node_spec.specs.declared.event.Event.TheVariants.{Issue, Deliver, Noise, Timeout, Stop}
use Rattle.ring_node_spec.specs.declared.item.Item.{Item}
use Rattle.ring_node_spec.specs.declared.item.Item.TheVariants.{Issue as IssuedItem}
use Rattle.ring_node_spec.specs.Histories.{AreCallsIssued}
use Rattle.ring_node_spec.specs.Orders.{EachCommittedLogGrows, ArePrefixesOfOneLog, IsReplyGiven, IsHistoryAddition, IsOrderStep}
use Rattle.ring_node_spec.specs.Worlds.{World, with_node, is_node, reply_items_of, after_step, world_after_submit, world_after_submit_if_member, world_after_stop_if_member}
use Rattle.ring_node_spec.specs.Worlds.{world_after_input_if_member, world_after_receipt_if_sent, world_after_delivery, world_after_event, committed_in, moment_of}
use Rattle.ring_log_proof.specs.Discipline.{ConsistentEpochs}
use Rattle.ring_log_proof.specs.EpochEvents.{IsEpochsExtended}
use Rattle.ring_log_proof.proofs.Issued.{logs-known}
use Rattle.ring_log_proof.proofs.Moment.{committed-front, one-log, committed-grows}
use Rattle.ring_order_proof.specs.RunEpochs.{whole_epochs_in}
use Rattle.ring_order_proof.proofs.CommittingSteps.{HasSoundEpochs, StillKnows, step-moves, commits}
use Rattle.ring_order_proof.proofs.IssuedInWorlds.{IssuedIn, WorldKnows, event-knows}
use Rattle.ring_order_proof.proofs.KnownByNodes.{only-of}
use Rattle.ring_order_proof.proofs.KnownWhole.{Knows}
use Rattle.ring_order_proof.proofs.ConsistentRuns.{IsOrderlyWorld}
use Rattle.ring_order_proof.proofs.ReportedReplies.{told-after}

-- Lists of the processors' values

each-grows : {A : Type 0} (f g : ℕ → List (Call A)) (first n : ℕ) → ((i : ℕ) → first ≤ i → i < first + n → IsListPrefix (f i) (g i))
    → EachCommittedLogGrows (map f (numbers_from first n)) (map g (numbers_from first n))
each-grows f g first zero h = tt
each-grows f g first (suc n) h = (
  h first (omega arith) (omega arith),
  each-grows f g (suc first) n
      (λ i low high. h i (omega (arith, low)) (omega (arith, high))),
)

all-numbers : {X : Type 0} (P : X → Type 0) (f : ℕ → X) (first n : ℕ) → ((i : ℕ) → first ≤ i → i < first + n → P (f i)) → All P (map f (numbers_from first n))
all-numbers P f first zero h = All-nil P
all-numbers P f first (suc n) h =
    All-cons P (f first) (map f (numbers_from (suc first) n)) (h first (omega arith) (omega arith))
    (all-numbers P f (suc first) n (λ i low high. h i (omega (arith, low)) (omega (arith, high))))

-- Nodes of a world

module _ {A : Type 0} (group : Group) (w : World A) (k : WorldKnows group w) where
  -- the position of a node's committed places among those of all nodes
  pub committed-at : (i : ℕ) → 1 ≤ i → i ≤ group.count → slice_get (committed_in w) (i - 1) ≡ Some (committed_of group (whole_epochs_in w i))
  committed-at i low high =
      let count : w.group.count ≡ group.count = ap (λ (g : Group). g.count) k.here in
      let at : 1 + (i - 1) ≡ i = omega (arith, low) in
      get-numbers (λ j. committed_of w.group (whole_epochs_in w j)) 1 w.group.count (i - 1) (omega (arith, low, high, count))
      ∙ ap (λ j. Some (committed_of w.group (whole_epochs_in w j))) at ∙ ap (λ g. Some (committed_of g (whole_epochs_in w i))) k.here

  pub lists-are : map (λ i. committed_of group (whole_epochs_in w i)) (numbers_from 1 group.count) ≡ committed_in w
  lists-are = sym (ap (λ (g : Group). map (λ i. committed_of g (whole_epochs_in w i)) (numbers_from 1 g.count)) k.here)

  module _ (o : IsOrderlyWorld group w) where
    pub one-list : ArePrefixesOfOneLog (committed_in w)
    one-list = subst ArePrefixesOfOneLog lists-are (one-log group (whole_epochs_in w) o.members o.text o.facts o.discipline (numbers_from 1 group.count))

    issued-list : (i : ℕ) → AreCallsIssued w.history (committed_of group (whole_epochs_in w i))
    issued-list i p c stands =
        each-get (IssuedIn w.history) (committed_of group (whole_epochs_in w i)) p c
        (each-front (IssuedIn w.history) (committed_of group (whole_epochs_in w i)) (log_of group (whole_epochs_in w i))
        (committed-front group (whole_epochs_in w) o.members o.text o.facts o.discipline i)
        (logs-known (IssuedIn w.history) group (whole_epochs_in w) o.members o.text o.facts o.discipline
        (only-of group w k.here (IssuedIn w.history) k.knows) i)) stands

    pub all-issued : All (AreCallsIssued w.history) (committed_in w)
    all-issued = subst (All (AreCallsIssued w.history)) lists-are (all-numbers (AreCallsIssued w.history) (λ i. committed_of group (whole_epochs_in w i)) 1 group.count
        (λ i low high. issued-list i))

-- the lives of a world that are consistent
abbrev node_epochs-in : {A : Type 0} → (group : Group) (w : World A) → IsOrderlyWorld group w → ConsistentEpochs A group
node_epochs-in group w o = record { node_epochs = whole_epochs_in w; members = o.members; text = o.text; facts = o.facts; discipline = o.discipline }

-- as lives are extended, what each node committed grows
module _ {A : Type 0} (group : Group) (w w' : World A) (o : IsOrderlyWorld group w) (o' : IsOrderlyWorld group w')
    (on : (p : ℕ) → IsEpochsExtended (whole_epochs_in w p) (whole_epochs_in w' p)) where
  pub whole-grows : (i : ℕ) → IsListPrefix (committed_of group (whole_epochs_in w i)) (committed_of group (whole_epochs_in w' i))
  whole-grows = committed-grows group (node_epochs-in group w o) (node_epochs-in group w' o') on

  pub lists-grow : WorldKnows group w → WorldKnows group w' → EachCommittedLogGrows (committed_in w) (committed_in w')
  lists-grow k k' =
      subst (λ l. EachCommittedLogGrows (committed_in w) l) (lists-are group w' k')
      (subst (λ l. EachCommittedLogGrows l (map (λ i. committed_of group (whole_epochs_in w' i)) (numbers_from 1 group.count))) (lists-are group w k)
      (each-grows (λ i. committed_of group (whole_epochs_in w i)) (λ i. committed_of group (whole_epochs_in w' i)) 1 group.count (λ i low high. whole-grows i)))

-- The additions of an event

module _ {O A : Type 0} (object : Sequential O) where
  abbrev Adds : World A → World A → Type 0
  Adds w w' = (items : List (Item A)) × (w.history ++ items ≡ w'.history) × IsHistoryAddition object (committed_in w') items

  adds-nothing : (w w' : World A) → w.history ≡ w'.history → Adds w w'
  adds-nothing w w' e = ([], append-nil w.history ∙ e, inr (All-nil (IsReplyGiven object (committed_in w'))))

  -- a step adds replies at the node's committed places
  node-adds : (lists : List (List (Call A))) (node : ℕ) (n : Node A) (input : Input A) (whole whole' : List (Call A)) → HasSoundEpochs n
      → StillKnows object n (node_step object n input).node whole whole' → slice_get lists node ≡ Some whole'
      → All (IsReplyGiven object lists) (reply_items_of (node_step object n input).answers)
  node-adds lists node n input whole whole' steady knows there =
      let s = node_step object n input in
      let Right : List (TicketAnswer A) → Type 0 = λ answers. All (IsReplyGiven object lists) (reply_items_of answers) in
      elim (step-moves object n input steady) as (λ _. Right s.answers) [
        | inl r ↦ subst Right (sym r.answers) (All-nil (IsReplyGiven object lists))
        | inr m ↦
            let c = commits object n s.node whole whole' m.known m.goes m.dropped knows in
            let more = newly_committed (node_known_log n) m.known in
            subst Right (sym m.answers) (subst (λ (t : Table O). Right (answers_after object t n.tickets n.done more)) (sym c.since)
            (told-after object lists node whole' there n.tickets c.before n.done more c.parts))
      ]

  module _ (group : Group) where
    -- each node still knows the whole log, and its committed places are among those of all
    abbrev Tells : World A → World A → Type 0
    Tells w w' = (i : ℕ) → 1 ≤ i → i ≤ w.group.count
        → StillKnows object (w.nodes i) (w'.nodes i) (committed_of group (whole_epochs_in w i)) (committed_of group (whole_epochs_in w' i))
        × (slice_get (committed_in w') (i - 1) ≡ Some (committed_of group (whole_epochs_in w' i)))

    -- so an event adds an issued call, or such replies
    module _ (w : World A) (steady : (i : ℕ) → HasSoundEpochs (w.nodes i)) where
      stepped-adds : (b : Bool) (i : ℕ) (input : Input A) → is_node w i ≡ b → Tells w (world_after_input_if_member object b w i input)
          → Adds w (world_after_input_if_member object b w i input)
      stepped-adds false i input e tells = adds-nothing w w refl
      stepped-adds true i input e tells =
          let s = node_step object (w.nodes i) input in
          let w' = after_step w i s in
          let bounds = and_parts _ _ e in
          let t = tells i (leb-true 1 i bounds.0) (leb-true i w.group.count bounds.1) in
          let here : with_node w.nodes i s.node i ≡ s.node = cond-true (i == i) s.node (w.nodes i) (eq-eqb i i refl) in
          let whole = committed_of group (whole_epochs_in w i) in
          let whole' = committed_of group (whole_epochs_in w' i) in
          let knows = subst (λ (n : Node A). StillKnows object (w.nodes i) n whole whole') here t.0 in
          (reply_items_of s.answers, refl, inr (node-adds (committed_in w') (i - 1) (w.nodes i) input whole whole' (steady i) knows t.1))

      issued-adds : (o : Option Fault) (i : ℕ) (c : Call A) → Adds w (world_after_submit o w i c)
      issued-adds (Some fault) i c = adds-nothing w (world_after_submit (Some fault) w i c) refl
      issued-adds None i c = (IssuedItem c ∷ [], refl, inl (c, refl))

      issue-adds : (b : Bool) (i : ℕ) (c : Call A) → Adds w (world_after_submit_if_member b w i c)
      issue-adds false i c = adds-nothing w w refl
      issue-adds true i c = issued-adds (submit_fault (w.nodes i)) i c

      stop-adds : (b : Bool) (i : ℕ) → Adds w (world_after_stop_if_member b w i)
      stop-adds false i = adds-nothing w w refl
      stop-adds true i = adds-nothing w (world_after_stop_if_member true w i) refl

      frame-adds : (b : Bool) (f : Transmission A) (i : ℕ) → Tells w (world_after_receipt_if_sent object b w i f.frame) → Adds w (world_after_receipt_if_sent object b w i f.frame)
      frame-adds false f i tells = adds-nothing w w refl
      frame-adds true f i tells = stepped-adds (is_node w i) i (FrameInput f.frame) refl tells

      world_after_delivery-adds : (o : Option (Transmission A)) (i : ℕ) → Tells w (world_after_delivery object w i o) → Adds w (world_after_delivery object w i o)
      world_after_delivery-adds None i tells = adds-nothing w w refl
      world_after_delivery-adds (Some f) i tells = frame-adds (has f.to i) f i tells

      event-adds : (e : Event A) → Tells w (world_after_event object w e) → Adds w (world_after_event object w e)
      event-adds (Issue i c) tells = issue-adds (is_node w i) i c
      event-adds (Deliver i n) tells = world_after_delivery-adds (frame_at w.frames n) i tells
      event-adds (Noise i bytes) tells = adds-nothing w w refl
      event-adds (Timeout i kind) tells = stepped-adds (is_node w i) i (TimeInput kind) refl tells
      event-adds (Stop i) tells = stop-adds (is_node w i) i

    -- each node of the world knows the whole log
    abbrev pub AllKnow : World A → Type 0
    AllKnow w = (i : ℕ) → 1 ≤ i → i ≤ group.count
        → Knows object (node_known_log (w.nodes i)) (log_of group (whole_epochs_in w i)) (committed_of group (whole_epochs_in w i))

    pub still-know : (w w' : World A) → AllKnow w → AllKnow w' → ((i : ℕ) → IsListPrefix (committed_of group (whole_epochs_in w i)) (committed_of group (whole_epochs_in w' i)))
        → (i : ℕ) → 1 ≤ i → i ≤ group.count
        → StillKnows object (w.nodes i) (w'.nodes i) (committed_of group (whole_epochs_in w i)) (committed_of group (whole_epochs_in w' i))
    still-know w w' know know' grows i low high = record {
      log = log_of group (whole_epochs_in w i);
      log' = log_of group (whole_epochs_in w' i);
      before = know i low high;
      after = know' i low high;
      grows = grows i;
    }

    -- all four facts
    pub order-step : (w : World A) (e : Event A) → WorldKnows group w → IsOrderlyWorld group w → IsOrderlyWorld group (world_after_event object w e)
        → ((p : ℕ) → IsEpochsExtended (whole_epochs_in w p) (whole_epochs_in (world_after_event object w e) p)) → ((i : ℕ) → HasSoundEpochs (w.nodes i))
        → AllKnow w → AllKnow (world_after_event object w e) → IsOrderStep object (moment_of w) (moment_of (world_after_event object w e))
    order-step w e k o o' on steady know know' =
        let w' = world_after_event object w e in
        let k' = event-knows object group w e k in
        let count : w.group.count ≡ group.count = ap (λ (g : Group). g.count) k.here in
        record {
          grows = lists-grow group w w' o o' on k k';
          agrees = one-list group w' k' o';
          issued = all-issued group w' k' o';
          added = event-adds w steady e (λ i low high.
              let within : i ≤ group.count = omega (arith, high, count) in
              (still-know w w' know know' (whole-grows group w w' o o' on) i low within, committed-at group w' k' i low within));
        }
