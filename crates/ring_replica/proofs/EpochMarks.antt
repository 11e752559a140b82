-- The safe mark of a node's newest epoch and that of its core: no step reports a lower one.
use Rattle.std.proofs.Common.{◌≡◌, ℕ, ◌≤◌, Bool, true, false, List, [], ◌∷◌, ◌++◌, map, refl, ap, sym, ◌∙◌, subst, arith, zero-le}
use Rattle.std.specs.Prelude.{◌&&◌, nat_lt}
use Rattle.std.proofs.Math.Nat.{le_refl}
use Rattle.std.proofs.lemmas.Bool.{cond_both, and_parts, le-leb}
use Rattle.ring_base.specs.declared.ring_id.RingId.{RingId}
use Rattle.ring_payload.specs.declared.content.Payload.{Payload}
use Rattle.ring_core_spec.specs.Frames.{Message}
use Rattle.ring_core_spec.proofs.Tokens.{safe_mark-turn, safe_mark-raise}
use Rattle.ring_core_spec.specs.Commits.{Configuration}
use Rattle.ring_core_spec.specs.Recoveries.{rest_messages}
use Rattle.ring_core_spec.specs.declared.input.Input.{Input}
use Rattle.ring_core_spec.specs.declared.input.Input.TheVariants.{Send as SendInput}
use Rattle.ring_core_spec.specs.declared.out.Out.{Out}
use Rattle.ring_core_spec.specs.declared.out.Out.TheVariants.{Send as SendOut, Agreed, Safe, Trans, Rest, Regular}
use Rattle.ring_core_spec.specs.State.{Core, OutgoingFrame, TransitionResult}
use Rattle.ring_core_spec.specs.Joining.{proposes}
use Rattle.ring_core_spec.specs.Views.{front, mark, plan}
use Rattle.ring_core_spec.specs.Deciding.{Transition, Ignore, Enqueue, Repeat, Announce, Invite, GiveUp, EnterGather, Agree, MergeJoin, EnterGatherAndAgree}
use Rattle.ring_core_spec.specs.Deciding.{EnterGatherAndMergeJoin, Take, Visit, Fill, Learn, decide}
use Rattle.ring_core_spec.specs.Transitions.{apply_transition, may_propose_after, with_proposal_if, transition_and_proposal}
use Rattle.ring_core_spec.specs.Giving.{may_install, sends_with_receivers, sent, user_messages_between, agreed_from, safe_from, delivered_from, agreed_and_safe_of_step, installation_outputs, with_installation_if}
use Rattle.ring_core_spec.specs.Stepping.{ring_step}
use Rattle.ring_log.specs.Epochs.{Epoch, epoch_opening, epochs_with_sends}
use Rattle.ring_replication.specs.NodeSpec.{epochs_after_event, epochs_after, is_stopped, handed_over}
use Rattle.ring_core_spec.proofs.Quiet.{stepped_is}
use Rattle.ring_replication.proofs.QueuedSends.{queued_all}
use Rattle.ring_replication.specs.Replications.{rises_at, rises}
use Rattle.ring_replica.specs.Marks.{IsMarked}

-- An act keeps the installed ring and the processor, and lowers no mark

pub record IsMarkKept {A : Type 0} (c d : Core A) : Type 0 where
  pub installed : d.installed ≡ c.installed
  pub me : d.me ≡ c.me
  pub epochs_with_mark : (ring : RingId) → mark c ring ≤ mark d ring
  pub going : is_stopped c.state ≡ false → is_stopped d.state ≡ false

act_kept : {A : Type 0} → (c : Core A) (a : Transition A) → IsMarkKept c (apply_transition c a).core
act_kept c Ignore = record { installed = refl; me = refl; epochs_with_mark = λ r. le_refl (mark c r); going = λ h. h }
act_kept c (Enqueue payload) = record { installed = refl; me = refl; epochs_with_mark = λ r. le_refl (mark c r); going = λ h. h }
act_kept c Repeat = record { installed = refl; me = refl; epochs_with_mark = λ r. le_refl (mark c r); going = λ h. h }
act_kept c Announce = record { installed = refl; me = refl; epochs_with_mark = λ r. le_refl (mark c r); going = λ h. h }
act_kept c Invite = record { installed = refl; me = refl; epochs_with_mark = λ r. le_refl (mark c r); going = λ h. h }
act_kept c GiveUp = record { installed = refl; me = refl; epochs_with_mark = λ r. le_refl (mark c r); going = λ h. h }
act_kept c EnterGather = record { installed = refl; me = refl; epochs_with_mark = λ r. le_refl (mark c r); going = λ h. refl }
act_kept c (Agree j) = record { installed = refl; me = refl; epochs_with_mark = λ r. le_refl (mark c r); going = λ h. h }
act_kept c (MergeJoin j) = record { installed = refl; me = refl; epochs_with_mark = λ r. le_refl (mark c r); going = λ h. h }
act_kept c (EnterGatherAndAgree j) = record { installed = refl; me = refl; epochs_with_mark = λ r. le_refl (mark c r); going = λ h. refl }
act_kept c (EnterGatherAndMergeJoin j) = record { installed = refl; me = refl; epochs_with_mark = λ r. le_refl (mark c r); going = λ h. refl }
act_kept c (Take x) = record { installed = refl; me = refl; epochs_with_mark = λ r. le_refl (mark c r); going = λ h. h }
act_kept c (Visit t) = record { installed = refl; me = refl; epochs_with_mark = λ r. safe_mark-turn _ c.turns c.raises r; going = λ h. h }
act_kept c (Fill k) = record { installed = refl; me = refl; epochs_with_mark = λ r. le_refl (mark c r); going = λ h. refl }
act_kept c (Learn k) = record { installed = refl; me = refl; epochs_with_mark = λ r. safe_mark-raise _ c.turns c.raises r; going = λ h. refl }

proposed_kept : {A : Type 0} → (b : Bool) (c : Core A) (d : TransitionResult A) → IsMarkKept c d.core → IsMarkKept c (with_proposal_if b d).core
proposed_kept false c d k = k
proposed_kept true c d k = record { installed = k.installed; me = k.me; epochs_with_mark = k.epochs_with_mark; going = λ h. refl }

pub done_kept : {A : Type 0} → (c : Core A) (a : Transition A) → IsMarkKept c (transition_and_proposal c a).core
done_kept c a = proposed_kept (may_propose_after a && proposes (apply_transition c a).core) c (apply_transition c a) (act_kept c a)

-- Outputs extend a life, and none of them lowers a mark

pub record Leads {A : Type 0} (epochs : List (Epoch A)) (outs : List (Out A)) (after : List (Epoch A)) : Type 0 where
  pub node_epochs : epochs_after epochs outs ≡ after
  pub rise : rises epochs outs ≡ true

leads_none : {A : Type 0} → (epochs : List (Epoch A)) → Leads epochs [] epochs
leads_none epochs = record { node_epochs = refl; rise = refl }

leads_one : {A : Type 0} → (epochs after : List (Epoch A)) (o : Out A) (outs : List (Out A)) → rises_at epochs o ≡ true → Leads (epochs_after_event epochs o) outs after →
    Leads epochs (o ∷ outs) after
leads_one epochs after o outs r l = record { node_epochs = l.node_epochs; rise = rw (r, l.rise) refl }

leads_then : {A : Type 0} → (epochs between after : List (Epoch A)) (xs ys : List (Out A)) → Leads epochs xs between → Leads between ys after →
    Leads epochs (xs ++ ys) after
leads_then {A} epochs between after [] ys l k = subst (λ (x : List (Epoch A)). Leads x ys after) (sym l.node_epochs) k
leads_then epochs between after (o ∷ xs) ys l k =
    let p = and_parts (rises_at epochs o) (rises (epochs_after_event epochs o) xs) l.rise in
    leads_one epochs after o (xs ++ ys) p.0 (leads_then (epochs_after_event epochs o) between after xs ys (record { node_epochs = l.node_epochs; rise = p.1 }) k)

-- outputs that don't change a life
leads_sends : {A : Type 0} → (epochs : List (Epoch A)) (sends : List (OutgoingFrame A)) → Leads epochs (map (λ (s : OutgoingFrame A). SendOut s.to s.frame) sends) epochs
leads_sends epochs [] = leads_none epochs
leads_sends epochs (s ∷ sends) = leads_one epochs epochs (SendOut s.to s.frame) _ refl (leads_sends epochs sends)

leads_rest : {A : Type 0} → (epochs : List (Epoch A)) (xs : List (Message A)) → Leads epochs (map (λ (x : Message A). Rest x.ring x.number x) xs) epochs
leads_rest epochs [] = leads_none epochs
leads_rest epochs (x ∷ xs) = leads_one epochs epochs (Rest x.ring x.number x) _ refl (leads_rest epochs xs)

-- The newest epoch continues in its ring, up to a mark

pub record IsHeldLogContinued {A : Type 0} (s : Epoch A) (older : List (Epoch A)) (outs : List (Out A)) (most : ℕ) : Type 0 where
  pub epoch : Epoch A
  pub leads : Leads (s ∷ older) outs (epoch ∷ older)
  pub ring : epoch.ring ≡ s.ring
  pub marked : epoch.mark ≤ most

goes_agreed : {A : Type 0} → (s : Epoch A) (older : List (Epoch A)) (ring : RingId) (xs : List (Message A)) (most : ℕ) → s.mark ≤ most →
    IsHeldLogContinued s older (map (λ (x : Message A). Agreed ring x.number x) xs) most
goes_agreed s older ring [] most h = record { epoch = s; leads = leads_none (s ∷ older); ring = refl; marked = h }
goes_agreed s older ring (x ∷ xs) most h =
    let rest = goes_agreed (record s { heard = s.heard ++ x ∷ [] }) older ring xs most h in
    record { epoch = rest.epoch; leads = leads_one _ _ (Agreed ring x.number x) _ refl rest.leads; ring = rest.ring; marked = rest.marked }

goes_safe : {A : Type 0} → (c : Core A) (ring : RingId) (s : Epoch A) (older : List (Epoch A)) (m : ℕ) → s.mark ≤ m → m ≤ mark c ring →
    IsHeldLogContinued s older (safe_from c ring m) (mark c ring)
goes_safe {A} c ring s older m low high =
    let upto = mark c ring in
    let top : s.mark ≤ upto = omega (arith, low, high) in
    cond_both (nat_lt m upto) (Safe ring upto ∷ []) [] (λ (outs : List (Out A)). IsHeldLogContinued s older outs upto)
    (λ e. record {
      epoch = record s { mark = upto };
      leads = leads_one _ _ (Safe ring upto) [] (le-leb s.mark upto top) (leads_none _);
      ring = refl;
      marked = le_refl upto;
    })
    (λ e. record { epoch = s; leads = leads_none _; ring = refl; marked = top })

goes_then : {A : Type 0} → (s : Epoch A) (older : List (Epoch A)) (xs ys : List (Out A)) (m n : ℕ) (g : IsHeldLogContinued s older xs m) → IsHeldLogContinued g.epoch older ys n →
    IsHeldLogContinued s older (xs ++ ys) n
goes_then s older xs ys m n g h =
    record { epoch = h.epoch; leads = leads_then _ _ _ xs ys g.leads h.leads; ring = h.ring ∙ g.ring; marked = h.marked }

pub goes_delivered : {A : Type 0} → (c : Core A) (ring : RingId) (s : Epoch A) (older : List (Epoch A)) (f m : ℕ) → s.mark ≤ m → m ≤ mark c ring →
    IsHeldLogContinued s older (delivered_from c ring f m) (mark c ring)
goes_delivered c ring s older f m low high =
    let a = goes_agreed s older ring (user_messages_between c ring f (front c ring)) m low in
    goes_then s older (agreed_from c ring f) (safe_from c ring m) m (mark c ring) a (goes_safe c ring a.epoch older m a.marked high)

-- the first sends, and the outputs of the ring installed as the step began
goes_given : {A : Type 0} → (c d : Core A) (sends : List (OutgoingFrame A)) (s : Epoch A) (older : List (Epoch A)) →
    s.mark ≤ mark c c.installed.ring → mark c c.installed.ring ≤ mark d c.installed.ring → IsHeldLogContinued s older (sent sends ++ agreed_and_safe_of_step c d) (mark d c.installed.ring)
goes_given c d sends s older low high =
    let ring = c.installed.ring in
    let g = goes_delivered d ring s older (front c ring) (mark c ring) low high in
    record {
      epoch = g.epoch;
      leads = leads_then _ _ _ (sent sends) (agreed_and_safe_of_step c d)
          (leads_sends (s ∷ older) (sends_with_receivers sends)) g.leads;
      ring = g.ring;
      marked = g.marked;
    }

-- a ring is installed

pub goes_configured : {A : Type 0} → (d : Core A) (epochs : List (Epoch A)) →
    (t : Epoch A) × (t.ring ≡ d.running.ring) × (t.mark ≤ mark d d.running.ring) × Leads epochs (installation_outputs d) (t ∷ epochs)
goes_configured {A} d epochs =
    let new = epoch_opening d.running.ring d.running.members in
    let g = goes_delivered d d.running.ring new epochs 0 0 (le_refl 0) zero-le in
    let xs = rest_messages (plan d) d.held in (
      g.epoch,
      g.ring,
      g.marked,
      leads_one epochs (g.epoch ∷ epochs) (Trans d.installed.ring d.running.ring (plan d).transitional_members) _ refl
          (leads_then epochs epochs (g.epoch ∷ epochs) (map (λ (x : Message A). Rest x.ring x.number x) xs) _ (leads_rest epochs xs)
          (leads_one epochs (g.epoch ∷ epochs) (Regular d.running.ring d.running.members) _ refl g.leads)),
    )

-- A step

record Steps {A : Type 0} (c : Core A) (epochs : List (Epoch A)) (outs : List (Out A)) : Type 0 where
  epoch : Epoch A
  older : List (Epoch A)
  leads : Leads epochs outs (epoch ∷ older)
  ring : epoch.ring ≡ c.installed.ring
  marked : epoch.mark ≤ mark c c.installed.ring

steps_by : {A : Type 0} → (b : Bool) (c : Core A) (d : TransitionResult A) (s : Epoch A) (older : List (Epoch A)) → IsMarkKept c d.core → s.ring ≡ c.installed.ring →
    s.mark ≤ mark c c.installed.ring →
    Steps (with_installation_if b d.core (sent d.sends ++ agreed_and_safe_of_step c d.core)).core (s ∷ older) (with_installation_if b d.core (sent d.sends ++ agreed_and_safe_of_step c d.core)).outs
steps_by {A} false c d s older k r m =
    let g = goes_given c d.core d.sends s older m (k.epochs_with_mark c.installed.ring) in
    record {
      epoch = g.epoch;
      older = older;
      leads = g.leads;
      ring = g.ring ∙ r ∙ ap (λ (x : Configuration). x.ring) (sym k.installed);
      marked = subst (λ (x : Configuration). g.epoch.mark ≤ mark d.core x.ring) (sym k.installed) g.marked;
    }
steps_by {A} true c d s older k r m =
    let g = goes_given c d.core d.sends s older m (k.epochs_with_mark c.installed.ring) in
    let n = goes_configured d.core (g.epoch ∷ older) in
    record {
      epoch = n.0;
      older = g.epoch ∷ older;
      leads = leads_then _ _ _ (sent d.sends ++ agreed_and_safe_of_step c d.core) (installation_outputs d.core) g.leads n.3;
      ring = n.1;
      marked = n.2;
    }

stepped : {A : Type 0} → (c : Core A) (epochs : List (Epoch A)) (input : Input A) → IsMarked c epochs → Steps (ring_step c input).core epochs (ring_step c input).outs
unfolding ring_step
stepped {A} c epochs input h =
    let d = transition_and_proposal c (decide c input) in
    subst (λ (l : List (Epoch A)). Steps (with_installation_if (may_install d.core) d.core (sent d.sends ++ agreed_and_safe_of_step c d.core)).core l
    (with_installation_if (may_install d.core) d.core (sent d.sends ++ agreed_and_safe_of_step c d.core)).outs)
    (sym h.parts) (steps_by (may_install d.core) c d h.epoch h.older (done_kept c (decide c input)) h.ring h.marked)

pub rises_step : {A : Type 0} → (c : Core A) (epochs : List (Epoch A)) (input : Input A) → IsMarked c epochs → rises epochs (ring_step c input).outs ≡ true
rises_step c epochs input h = (stepped c epochs input h).leads.rise

pub marked_step : {A : Type 0} → (c : Core A) (epochs : List (Epoch A)) (input : Input A) → IsMarked c epochs →
    IsMarked (ring_step c input).core (epochs_after epochs (ring_step c input).outs)
marked_step c epochs input h =
    let s = stepped c epochs input h in
    record { epoch = s.epoch; older = s.older; parts = s.leads.node_epochs; ring = s.ring; marked = s.marked; ready = stepped_is c input }

settle_me : {A : Type 0} → (b : Bool) (c : Core A) (outs : List (Out A)) → (with_installation_if b c outs).core.me ≡ c.me
settle_me false c outs = refl
settle_me true c outs = refl

pub me_step : {A : Type 0} → (c : Core A) (input : Input A) → (ring_step c input).core.me ≡ c.me
unfolding ring_step
me_step c input =
    let d = transition_and_proposal c (decide c input) in
    settle_me (may_install d.core) d.core (sent d.sends ++ agreed_and_safe_of_step c d.core) ∙ (done_kept c (decide c input)).me

settle_going : {A : Type 0} → (b : Bool) (c : Core A) (outs : List (Out A)) → is_stopped c.state ≡ false → is_stopped (with_installation_if b c outs).core.state ≡ false
settle_going false c outs h = h
settle_going true c outs h = refl

pub going_step : {A : Type 0} → (c : Core A) (input : Input A) → is_stopped c.state ≡ false → is_stopped (ring_step c input).core.state ≡ false
unfolding ring_step
going_step c input h =
    let d = transition_and_proposal c (decide c input) in
    settle_going (may_install d.core) d.core (sent d.sends ++ agreed_and_safe_of_step c d.core) ((done_kept c (decide c input)).going h)

-- Payloads handed over

pub going_handed : {A : Type 0} → (c : Core A) (ps : List (Payload A)) → is_stopped c.state ≡ false → is_stopped (handed_over c ps).state ≡ false
going_handed c [] h = h
going_handed c (p ∷ ps) h = going_handed (ring_step c (SendInput p)).core ps (going_step c (SendInput p) h)

pub me_handed : {A : Type 0} → (c : Core A) (ps : List (Payload A)) → (handed_over c ps).me ≡ c.me
me_handed c [] = refl
me_handed c (p ∷ ps) = me_handed (ring_step c (SendInput p)).core ps ∙ me_step c (SendInput p)

pub state_handed : {A : Type 0} → (c : Core A) (ps : List (Payload A)) → may_install c ≡ false → (handed_over c ps).state ≡ c.state
state_handed {A} c ps h = ap (λ (d : Core A). d.state) (queued_all c ps h).is

pub installed_handed : {A : Type 0} → (c : Core A) (ps : List (Payload A)) → may_install c ≡ false → (handed_over c ps).installed ≡ c.installed
installed_handed {A} c ps h = ap (λ (d : Core A). d.installed) (queued_all c ps h).is

pub marked_handed : {A : Type 0} → (c : Core A) (epochs : List (Epoch A)) (ps : List (Payload A)) → IsMarked c epochs → IsMarked (handed_over c ps) (epochs_with_sends ps epochs)
marked_handed {A} c epochs ps h =
    let q = queued_all c ps h.ready in
    record {
      epoch = record h.epoch { sent = h.epoch.sent ++ ps };
      older = h.older;
      parts = ap (epochs_with_sends ps) h.parts;
      ring = h.ring ∙ ap (λ (d : Core A). d.installed.ring) (sym q.is);
      marked = subst (λ (d : Core A). h.epoch.mark ≤ mark d d.installed.ring) (sym q.is) h.marked;
      ready = q.ready;
    }
