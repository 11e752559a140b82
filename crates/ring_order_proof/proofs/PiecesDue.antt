-- The Snaps due at a core's step are pieces of the snapshot that the node kept as it entered its newest ring. This holds if it
-- drops nothing while the exchange there is open.
use Rattle.std.proofs.Common.{◌≡◌, ℕ, ◌+◌, ◌*◌, ◌/◌, ◌-◌, ◌≤◌, ◌<◌, ◌==◌, ◌&&◌, ◌||◌, Bool, true, false, List, [], ◌∷◌, ◌++◌, length, map, drop, max}
use Rattle.std.proofs.Common.{Option, Some, None, inr, refl, ap, sym, ◌∙◌, subst, arith, append_assoc}
use Rattle.std.specs.Prelude.{nat_le, nat_lt, not, is_some, filter}
use Rattle.std.specs.List.{AllByRecursion as Each}
use Rattle.std.proofs.lemmas.Bool.{cond_both, cond-false, and_parts, not-true, leb-true}
use Rattle.ring_base.specs.Group.{Group, is_primary}
use Rattle.ring_base.specs.Numbers.{numbers_from}
use Rattle.ring_base.specs.declared.ring_id.RingId.{RingId}
use Rattle.ring_base.proofs.Each.{each-append, each-map}
use Rattle.ring_base.proofs.ListFronts.{taken-front}
use Rattle.ring_base.proofs.SameRing.{ring_same}
use Rattle.ring_object.specs.Operations.{Sequential}
use Rattle.ring_payload.specs.Limits.{max_snapshot, max_piece_bytes}
use Rattle.ring_payload.specs.declared.call.Call.{Call as OneCall}
use Rattle.ring_payload.specs.declared.calls.Part.{Part as OnePart}
use Rattle.ring_payload.specs.declared.snap.Snap.{Snap as OneSnap}
use Rattle.ring_payload.specs.declared.content.Payload.{Payload}
use Rattle.ring_payload.specs.declared.content.Payload.TheVariants.{Call, Head, Part, Snap}
use Rattle.ring_wire.specs.declared.message.Message.{Message}
use Rattle.ring_core_spec.specs.Commits.{Configuration}
use Rattle.ring_core_spec.specs.declared.input.Input.{Input}
use Rattle.ring_core_spec.specs.declared.out.Out.{Out}
use Rattle.ring_core_spec.specs.declared.out.Out.TheVariants.{Send as SendOut, Agreed as AgreedOut, Safe as SafeOut, Trans, Rest, Regular}
use Rattle.ring_core_spec.specs.State.{Core, OutgoingFrame}
use Rattle.ring_core_spec.specs.Views.{front, mark, plan}
use Rattle.ring_core_spec.specs.Deciding.{decide}
use Rattle.ring_core_spec.specs.Transitions.{transition_and_proposal}
use Rattle.ring_core_spec.specs.Giving.{may_install, install, sends_with_receivers, sent, user_messages_between, agreed_from, safe_from, delivered_from, agreed_and_safe_of_step, with_installation_if}
use Rattle.ring_core_spec.specs.Stepping.{ring_step}
use Rattle.ring_core_spec.proofs.States.{installs_recovering}
use Rattle.ring_core_spec.specs.Recoveries.{rest_messages}
use Rattle.ring_log.specs.declared.wanted.Wanted.{Wanted}
use Rattle.ring_log.specs.Exchanges.{Exchange, exchange_opening, wanted, heard, is_exchange_complete}
use Rattle.ring_log.specs.Parts.{nth_piece, pieces_of, parts_between}
use Rattle.ring_log.specs.Epochs.{Epoch, epoch_opening, epochs_with_message, epochs_with_sends, epochs_with_trim}
use Rattle.ring_log.specs.EpochHistories.{CompleteExchange, exchange_after_messages, complete_exchange, messages_upto}
use Rattle.ring_log.specs.Logs.{Log}
use Rattle.ring_log.specs.KnownLog.{KnownLog, known_log_after_epoch, dropped_by, known_log_of, retained_log, known_log_head}
use Rattle.ring_log_proof.proofs.CompleteExchanges.{complete_exchange-front}
use Rattle.ring_session.specs.Tickets.{TicketCall}
use Rattle.ring_session.specs.TicketsState.{contains_call}
use Rattle.ring_node_spec.specs.DueSends.{has_all_heads, parts_due, snaps_due, is_snapshot_kept, places_due, owner_due, calls_due, uncommitted_places, due_when_complete}
use Rattle.ring_node_spec.specs.DueSends.{DueContext, node_context, owner_due_on_heads, due_at_regular, due_between, due_in_epoch, due_at_output, due_of_outputs}
use Rattle.ring_node_spec.specs.EpochHistories.{epochs_after_event, epochs_after}
use Rattle.ring_node_spec.proofs.EpochsAfterOutputs.{through-append}
use Rattle.ring_node_spec.specs.Nodes.{Node, node_known_log, node_pending, snapshot_kept, is_closed, is_core_running_in}
use Rattle.ring_synchrony_proof.proofs.Ordered.{Ordered}
use Rattle.ring_synchrony_proof.proofs.LifeAfterStep.{keeps_done}
use Rattle.ring_order_proof.proofs.DisciplinedDueSends.{unstated_none}
use Rattle.ring_order_proof.proofs.HonestPieces.{IsPiece, IsPieceOf}

each-mapped : {X Y : Type 0} (P : Y → Type 0) (f : X → Y) → ((x : X) → P (f x)) → (xs : List X) → Each P (map f xs)
each-mapped P f h [] = tt
each-mapped P f h (x ∷ xs) = (h x, each-mapped P f h xs)

-- ---- an exchange with every member's Head keeps them, and a complete one has them

-- ---- nothing is dropped while the newest exchange is open

abbrev pub IsFrozen : {A : Type 0} → Group → List (Epoch A) → Type 0
IsFrozen group [] = Unit {0}
IsFrozen group (s ∷ older) = is_closed group (s ∷ older) ≡ false → s.trimmed ≡ 0

-- what was closed stays closed as more is received
closed-by : {A : Type 0} (b : Bool) (o later : Option (CompleteExchange A)) → ((w : CompleteExchange A) → o ≡ Some w → is_some later ≡ true) → (not b || is_some later) ≡ false
    → (not b || is_some o) ≡ false
closed-by false o later h f = absurd (cc f)
closed-by true None later h f = refl
closed-by true (Some w) later h f = absurd (let t : true ≡ false = sym (h w refl) ∙ f in cc t)

closed-more : {A : Type 0} (group : Group) (s : Epoch A) (older : List (Epoch A)) (x : Message A)
    → is_closed group (epochs_with_message x (s ∷ older)) ≡ false → is_closed group (s ∷ older) ≡ false
closed-more group s older x f =
    closed-by (is_primary group s.members) (complete_exchange group s.members s.heard) (complete_exchange group s.members (s.heard ++ x ∷ []))
    (λ w e. ap is_some (complete_exchange-front group s.members s.heard (s.heard ++ x ∷ []) w e (x ∷ [], refl))) f

pub frozen-epochs_after_event : {A : Type 0} (group : Group) (epochs : List (Epoch A)) (o : Out A) → IsFrozen group epochs → IsFrozen group (epochs_after_event epochs o)
frozen-epochs_after_event group epochs (Regular ring members) k = λ f. refl
frozen-epochs_after_event group [] (AgreedOut ring n x) k = k
frozen-epochs_after_event group (s ∷ older) (AgreedOut ring n x) k = λ f. k (closed-more group s older x f)
frozen-epochs_after_event group [] (SafeOut ring upto) k = k
frozen-epochs_after_event group (s ∷ older) (SafeOut ring upto) k = k
frozen-epochs_after_event group epochs (SendOut to frame) k = k
frozen-epochs_after_event group epochs (Trans old new set) k = k
frozen-epochs_after_event group epochs (Rest ring n x) k = k

pub frozen-through : {A : Type 0} (group : Group) (epochs : List (Epoch A)) (outs : List (Out A)) → IsFrozen group epochs → IsFrozen group (epochs_after epochs outs)
frozen-through group epochs [] k = k
frozen-through group epochs (o ∷ outs) k = frozen-through group (epochs_after_event epochs o) outs (frozen-epochs_after_event group epochs o k)

pub frozen-epochs_with_sends : {A : Type 0} (group : Group) (due : List (Payload A)) (epochs : List (Epoch A)) → IsFrozen group epochs → IsFrozen group (epochs_with_sends due epochs)
frozen-epochs_with_sends group due [] k = k
frozen-epochs_with_sends group due (s ∷ older) k = k

pub frozen-epochs_with_trim : {A : Type 0} (group : Group) (places : ℕ) (epochs : List (Epoch A)) → is_closed group epochs ≡ true → IsFrozen group (epochs_with_trim places epochs)
frozen-epochs_with_trim group places [] t = tt
frozen-epochs_with_trim group places (s ∷ older) t = λ f. absurd (let e : true ≡ false = sym t ∙ f in cc e)

-- so while the exchange is open, the known log is the one from when the node entered the ring
kept-open : {A : Type 0} (group : Group) (s : Epoch A) (older : List (Epoch A)) → complete_exchange group s.members s.heard ≡ None → s.trimmed ≡ 0
    → known_log_of group (s ∷ older) ≡ known_log_of group older
kept-open {A} group s older e zero_is =
    let k = known_log_of group older in
    let most : max s.trimmed k.trimmed ≡ k.trimmed = omega (arith, zero_is) in
    ap (λ o. dropped_by s.trimmed (known_log_after_epoch s.ring k o (complete_exchange group s.members (messages_upto s.mark s.heard)))) e ∙ ap (λ n. record k { trimmed = n }) most

-- ---- due payloads

module _ (A : Type 0) (bytes : List ℕ) where
  nth-piece : (at k : ℕ) → length bytes ≤ max_snapshot → IsPiece {A = A} bytes (nth_piece at bytes k)
  nth-piece at k le = record { total = refl; there = taken-front max_piece_bytes (drop (max_piece_bytes * k) bytes); short = le }

  snaps-pieces : (at : ℕ) → length bytes ≤ max_snapshot → Each (IsPieceOf {A = A} bytes) (snaps_due at bytes)
  snaps-pieces at le =
      each-map (IsPieceOf bytes) (λ (snap : OneSnap A). Snap snap) (pieces_of at bytes)
      (each-mapped (IsPiece bytes) (nth_piece at bytes) (λ k. nth-piece at k le) (numbers_from 0 ((length bytes + (max_piece_bytes - 1)) / max_piece_bytes)))

module _ {A : Type 0} (bytes : List ℕ) where
  calls-pieces : (pending : List (TicketCall A)) (calls : List (OneCall A)) → Each (IsPieceOf bytes) (calls_due pending calls)
  calls-pieces pending calls =
      each-mapped (IsPieceOf bytes) (λ (t : TicketCall A). Call t.call) (λ t. tt) (filter (λ (t : TicketCall A). not (contains_call calls t.call)) pending)

  parts-pieces : (log : Log A) (w : Wanted) → Each (IsPieceOf bytes) (parts_due log w)
  parts-pieces log w = each-mapped (IsPieceOf bytes) (λ (part : OnePart A). Part part) (λ part. tt) (parts_between log.trimmed log.calls w.from w.to)

  places-pieces : (log : Log A) (w : Wanted) (o : Option ℕ) → Each (IsPieceOf bytes) (places_due bytes log w o)
  places-pieces log w None = cond_both (nat_le log.trimmed w.from) (parts_due log w) [] (Each (IsPieceOf bytes)) (λ t. parts-pieces log w) (λ f. tt)
  places-pieces log w (Some at) =
      cond_both (is_snapshot_kept bytes log at) (snaps_due at bytes ++ parts_due log w) [] (Each (IsPieceOf bytes))
      (λ t. each-append (IsPieceOf bytes) (snaps_due at bytes) (parts_due log w)
      (snaps-pieces A bytes at (leb-true (length bytes) max_snapshot (and_parts (log.trimmed == at) (nat_le (length bytes) max_snapshot) t).1))
      (parts-pieces log w)) (λ f. tt)

  owner-pieces : (me : ℕ) (log : Log A) (o : Option Wanted) → Each (IsPieceOf bytes) (owner_due me bytes log o)
  owner-pieces me log None = tt
  owner-pieces me log (Some w) =
      cond_both (w.owner == me) (places_due bytes log w w.snapshot) [] (Each (IsPieceOf bytes)) (λ t. places-pieces log w w.snapshot) (λ f. tt)

-- an output that installs no ring
abbrev IsSpoken : {A : Type 0} → Out A → Type 0
IsSpoken (Regular ring members) = ⊥
IsSpoken (AgreedOut ring n x) = Unit {0}
IsSpoken (SafeOut ring upto) = Unit {0}
IsSpoken (SendOut to frame) = Unit {0}
IsSpoken (Trans old new set) = Unit {0}
IsSpoken (Rest ring n x) = Unit {0}

epochs_after_event-epoch : {A : Type 0} (s : Epoch A) (older : List (Epoch A)) (o : Out A) → IsSpoken o → (t : Epoch A) × (epochs_after_event (s ∷ older) o ≡ t ∷ older)
epochs_after_event-epoch s older (Regular ring members) k = absurd k
epochs_after_event-epoch s older (AgreedOut ring n x) k = (record s { heard = s.heard ++ x ∷ [] }, refl)
epochs_after_event-epoch s older (SafeOut ring upto) k = (record s { mark = upto }, refl)
epochs_after_event-epoch s older (SendOut to frame) k = (s, refl)
epochs_after_event-epoch s older (Trans old new set) k = (s, refl)
epochs_after_event-epoch s older (Rest ring n x) k = (s, refl)

module _ {O A : Type 0} (object : Sequential O) (n : Node A) (core : Core A) where
  -- pieces of the snapshot that the node kept as it entered the ring after this life
  abbrev pub P : List (Epoch A) → Payload A → Type 0
  P older = IsPieceOf (snapshot_kept object (known_log_of n.group older))

  abbrev context : DueContext A
  context = node_context object n core

  whole-pieces : (older epochs : List (Epoch A)) (old new : Exchange A) → Each (P older) (due_when_complete context epochs old new)
  whole-pieces older epochs old new =
      cond_both (is_exchange_complete new && not (is_exchange_complete old))
      (calls_due (node_pending n) (uncommitted_places (node_known_log n).committed (retained_log (known_log_of n.group epochs)))) [] (Each (P older))
      (λ t. calls-pieces (snapshot_kept object (known_log_of n.group older)) (node_pending n)
      (uncommitted_places (node_known_log n).committed (retained_log (known_log_of n.group epochs)))) (λ f. tt)

  received_head-pieces : (s : Epoch A) (older : List (Epoch A)) (new : Exchange A) → is_primary n.group s.members ≡ true → IsFrozen n.group (s ∷ older)
      → Each (P older) (owner_due_on_heads context (known_log_of n.group (s ∷ older)) (exchange_after_messages (exchange_opening s.members) s.heard) new)
  received_head-pieces s older new primary frozen =
      let k = known_log_of n.group (s ∷ older) in
      let old = exchange_after_messages (exchange_opening s.members) s.heard in
      let due = owner_due n.core.me (snapshot_kept object k) (retained_log k) (wanted new) in
      cond_both (has_all_heads new && not (has_all_heads old)) due [] (Each (P older))
      (λ t.
      let none = unstated_none n.group s.members s.heard (not-true (has_all_heads old) (and_parts (has_all_heads new) (not (has_all_heads old)) t).1) in
      let unclosed : is_closed n.group (s ∷ older) ≡ false =
      ap (λ b. not b || is_some (complete_exchange n.group s.members s.heard)) primary ∙ ap is_some none in
      subst (λ (j : KnownLog A). Each (IsPieceOf (snapshot_kept object j)) due) (kept-open n.group s older none (frozen unclosed))
      (owner-pieces (snapshot_kept object k) n.core.me (retained_log k) (wanted new)))
      (λ f. tt)

  at-pieces : (s : Epoch A) (older : List (Epoch A)) (o : Out A) → IsSpoken o → IsFrozen n.group (s ∷ older) → Each (P older) (due_at_output object n core (s ∷ older) o)
  at-pieces s older (Regular ring members) k frozen = absurd k
  at-pieces s older (AgreedOut ring number x) k frozen =
      let epochs = epochs_with_message x (s ∷ older) in
      let old = exchange_after_messages (exchange_opening s.members) s.heard in
      let new = exchange_after_messages (exchange_opening s.members) (s.heard ++ x ∷ []) in
      cond_both (is_core_running_in core ring) (due_in_epoch context s (s ∷ older) x epochs) [] (Each (P older))
      (λ r. cond_both (is_primary n.group s.members) (due_between context (s ∷ older) epochs old new) [] (Each (P older))
      (λ p. each-append (P older) (owner_due_on_heads context (known_log_of n.group (s ∷ older)) old new) (due_when_complete context epochs old new)
      (received_head-pieces s older new p frozen) (whole-pieces older epochs old new))
      (λ p. tt))
      (λ r. tt)
  at-pieces s older (SafeOut ring upto) k frozen = tt
  at-pieces s older (SendOut to frame) k frozen = tt
  at-pieces s older (Trans old new set) k frozen = tt
  at-pieces s older (Rest ring number x) k frozen = tt

  due-more : (epochs : List (Epoch A)) (xs ys : List (Out A))
      → due_of_outputs object n core epochs (xs ++ ys) ≡ due_of_outputs object n core epochs xs ++ due_of_outputs object n core (epochs_after epochs xs) ys
  due-more epochs [] ys = refl
  due-more epochs (x ∷ xs) ys =
      ap (λ zs. due_at_output object n core epochs x ++ zs) (due-more (epochs_after_event epochs x) xs ys)
      ∙ sym (append_assoc (due_at_output object n core epochs x) (due_of_outputs object n core (epochs_after_event epochs x) xs) (due_of_outputs object n core (epochs_after (epochs_after_event epochs x) xs) ys))

  -- the life after outputs, and the payloads due there
  pub record Ends (epochs : List (Epoch A)) (outs : List (Out A)) : Type 0 where
    pub epoch : Epoch A
    pub older : List (Epoch A)
    pub is : epochs_after epochs outs ≡ epoch ∷ older
    pub due : Each (P older) (due_of_outputs object n core epochs outs)

  -- in one ring
  sent_payloads : (s : Epoch A) (older : List (Epoch A)) (outs : List (Out A)) → Each IsSpoken outs → IsFrozen n.group (s ∷ older)
      → (t : Epoch A) × (epochs_after (s ∷ older) outs ≡ t ∷ older) × Each (P older) (due_of_outputs object n core (s ∷ older) outs)
  sent_payloads s older [] k frozen = (s, refl, tt)
  sent_payloads s older (o ∷ outs) k frozen =
      let one = epochs_after_event-epoch s older o k.0 in
      let rest = sent_payloads one.0 older outs k.1 (subst (IsFrozen n.group) one.1 (frozen-epochs_after_event n.group (s ∷ older) o frozen)) in (
        rest.0,
        ap (λ l. epochs_after l outs) one.1 ∙ rest.1,
        each-append (P older) (due_at_output object n core (s ∷ older) o) (due_of_outputs object n core (epochs_after_event (s ∷ older) o) outs) (at-pieces s older o k.0 frozen)
            (subst (λ (l : List (Epoch A)). Each (P older) (due_of_outputs object n core l outs)) (sym one.1) rest.2),
      )

  -- in a ring that doesn't run nothing is due
  abbrev IsSilent : Out A → Type 0
  IsSilent (AgreedOut ring number x) = is_core_running_in core ring ≡ false
  IsSilent (Regular ring members) = ⊥
  IsSilent (SafeOut ring upto) = Unit {0}
  IsSilent (SendOut to frame) = Unit {0}
  IsSilent (Trans old new set) = Unit {0}
  IsSilent (Rest ring number x) = Unit {0}

  silent-sent_payloads : (o : Out A) → IsSilent o → IsSpoken o
  silent-sent_payloads (AgreedOut ring number x) k = tt
  silent-sent_payloads (Regular ring members) k = absurd k
  silent-sent_payloads (SafeOut ring upto) k = tt
  silent-sent_payloads (SendOut to frame) k = tt
  silent-sent_payloads (Trans old new set) k = tt
  silent-sent_payloads (Rest ring number x) k = tt

  silent-due : (s : Epoch A) (older : List (Epoch A)) (o : Out A) → IsSilent o → due_at_output object n core (s ∷ older) o ≡ []
  silent-due s older (AgreedOut ring number x) k = cond-false (is_core_running_in core ring) (due_in_epoch context s (s ∷ older) x (epochs_with_message x (s ∷ older))) [] k
  silent-due s older (Regular ring members) k = absurd k
  silent-due s older (SafeOut ring upto) k = refl
  silent-due s older (SendOut to frame) k = refl
  silent-due s older (Trans old new set) k = refl
  silent-due s older (Rest ring number x) k = refl

  silent : (s : Epoch A) (older : List (Epoch A)) (outs : List (Out A)) → Each IsSilent outs
      → (t : Epoch A) × (epochs_after (s ∷ older) outs ≡ t ∷ older) × (due_of_outputs object n core (s ∷ older) outs ≡ [])
  silent s older [] k = (s, refl, refl)
  silent s older (o ∷ outs) k =
      let one = epochs_after_event-epoch s older o (silent-sent_payloads o k.0) in
      let rest = silent one.0 older outs k.1 in (
        rest.0,
        ap (λ l. epochs_after l outs) one.1 ∙ rest.1,
        ap (λ xs. xs ++ due_of_outputs object n core (epochs_after_event (s ∷ older) o) outs) (silent-due s older o k.0)
            ∙ ap (λ l. due_of_outputs object n core l outs) one.1 ∙ rest.2,
      )

  installs-end : (s : Epoch A) (older : List (Epoch A)) (xs ys : List (Out A)) (ring : RingId) (members : ℕ) → Each IsSilent xs → Each IsSpoken ys
      → Ends (s ∷ older) (xs ++ Regular ring members ∷ ys)
  installs-end s older xs ys ring members k h =
      let a = silent s older xs k in
      let t = a.0 in
      let new = epoch_opening ring members in
      let b = sent_payloads new (t ∷ older) ys h (λ f. refl) in
      let more = Regular ring members ∷ ys in
      let first = due_at_regular n.group members (t ∷ older) in
      let after = due_of_outputs object n core (new ∷ t ∷ older) ys in
      let due : due_of_outputs object n core (s ∷ older) (xs ++ more) ≡ first ++ after =
      due-more (s ∷ older) xs more ∙ ap (λ zs. zs ++ due_of_outputs object n core (epochs_after (s ∷ older) xs) more) a.2
      ∙ ap (λ l. due_of_outputs object n core l more) a.1 in
      let head : Each (P (t ∷ older)) first =
      cond_both (is_primary n.group members) (Head (known_log_head (known_log_of n.group (t ∷ older))) ∷ []) [] (Each (P (t ∷ older))) (λ p. (tt, tt)) (λ p. tt) in
      record {
        epoch = b.0;
        older = t ∷ older;
        is = through-append (s ∷ older) xs more ∙ ap (λ l. epochs_after l more) a.1 ∙ b.1;
        due = subst (Each (P (t ∷ older))) (sym due) (each-append (P (t ∷ older)) first after head b.2);
      }

  stays-end : (s : Epoch A) (older : List (Epoch A)) (outs : List (Out A)) → Each IsSpoken outs → IsFrozen n.group (s ∷ older) → Ends (s ∷ older) outs
  stays-end s older outs k frozen = let a = sent_payloads s older outs k frozen in record { epoch = a.0; older = older; is = a.1; due = a.2 }

-- ---- the outputs of a core

delivered-sent_payloads : {A : Type 0} (c : Core A) (ring : RingId) (f m : ℕ) → Each IsSpoken (delivered_from c ring f m)
delivered-sent_payloads {A} c ring f m =
    each-append IsSpoken (agreed_from c ring f) (safe_from c ring m)
    (each-mapped IsSpoken (λ (x : Message A). AgreedOut ring x.number x) (λ x. tt) (user_messages_between c ring f (front c ring)))
    (cond_both (nat_lt m (mark c ring)) (SafeOut ring (mark c ring) ∷ []) [] (Each IsSpoken) (λ t. (tt, tt)) (λ t. tt))

sent-sent_payloads : {A : Type 0} (sends : List (OutgoingFrame A)) → Each IsSpoken (sent sends)
sent-sent_payloads {A} sends = each-mapped IsSpoken (λ (x : OutgoingFrame A). SendOut x.to x.frame) (λ x. tt) (sends_with_receivers sends)

module _ {O A : Type 0} (object : Sequential O) (n : Node A) where
  abbrev Silent : Core A → Out A → Type 0
  Silent core = IsSilent object n core

  delivered-silent : (core c : Core A) (ring : RingId) (f m : ℕ) → is_core_running_in core ring ≡ false → Each (Silent core) (delivered_from c ring f m)
  delivered-silent core c ring f m idle =
      each-append (Silent core) (agreed_from c ring f) (safe_from c ring m)
      (each-mapped (Silent core) (λ (x : Message A). AgreedOut ring x.number x) (λ x. idle) (user_messages_between c ring f (front c ring)))
      (cond_both (nat_lt m (mark c ring)) (SafeOut ring (mark c ring) ∷ []) [] (Each (Silent core)) (λ t. (tt, tt)) (λ t. tt))

  -- an installed ring differs from the one before
  never-is_core_running_in : (d : Core A) (ring : RingId) → d.installed.ring ≡ ring → d.installed.ring.seq < d.running.ring.seq → is_core_running_in (install d) ring ≡ false
  never-is_core_running_in d ring e below = by (is_core_running_in (install d) ring) refl
    where
      by : (b : Bool) → is_core_running_in (install d) ring ≡ b → b ≡ false
      by false t = refl
      by true t =
          let same : d.running.ring ≡ ring = ring_same d.running.ring ring t in
          let a : d.installed.ring.seq ≡ ring.seq = ap (λ (r : RingId). r.seq) e in
          let b : d.running.ring.seq ≡ ring.seq = ap (λ (r : RingId). r.seq) same in
          absurd (omega (arith, a, b, below))

  with_installation_if-ends : (s : Epoch A) (older : List (Epoch A)) (d : Core A) (sends : List (OutgoingFrame A)) → IsFrozen n.group (s ∷ older) → d.installed ≡ n.core.installed
      → (b : Bool) → (b ≡ true → d.installed.ring.seq < d.running.ring.seq)
      → Ends object n (with_installation_if b d (sent sends ++ agreed_and_safe_of_step n.core d)).core (s ∷ older) (with_installation_if b d (sent sends ++ agreed_and_safe_of_step n.core d)).outs
  with_installation_if-ends s older d sends frozen same false below =
      let r = n.core.installed.ring in
      stays-end object n d s older (sent sends ++ agreed_and_safe_of_step n.core d)
      (each-append IsSpoken (sent sends) (agreed_and_safe_of_step n.core d) (sent-sent_payloads sends) (delivered-sent_payloads d r (front n.core r) (mark n.core r))) frozen
  with_installation_if-ends s older d sends frozen same true below =
      let r = n.core.installed.ring in
      let core = install d in
      let idle = never-is_core_running_in d r (ap (λ (x : Configuration). x.ring) same) (below refl) in
      let first = sent sends ++ agreed_and_safe_of_step n.core d in
      let rest = Trans d.installed.ring d.running.ring (plan d).transitional_members ∷ map (λ (x : Message A). Rest x.ring x.number x) (rest_messages (plan d) d.held) in
      let ys = delivered_from d d.running.ring 0 0 in
      let more = Regular d.running.ring d.running.members ∷ ys in
      let quiet_first : Each (Silent core) first =
      each-append (Silent core) (sent sends) (agreed_and_safe_of_step n.core d)
      (each-mapped (Silent core) (λ (x : OutgoingFrame A). SendOut x.to x.frame) (λ x. tt) (sends_with_receivers sends))
      (delivered-silent core d r (front n.core r) (mark n.core r) idle) in
      let quiet_rest : Each (Silent core) rest =
      (tt, each-mapped (Silent core) (λ (x : Message A). Rest x.ring x.number x) (λ x. tt) (rest_messages (plan d) d.held)) in
      subst (Ends object n core (s ∷ older)) (append_assoc first rest more)
      (installs-end object n core s older (first ++ rest) ys d.running.ring d.running.members
      (each-append (Silent core) first rest quiet_first quiet_rest) (delivered-sent_payloads d d.running.ring 0 0))

  pub core-ends : (s : Epoch A) (older : List (Epoch A)) (input : Input A) → Ordered n.core → IsFrozen n.group (s ∷ older)
      → Ends object n (ring_step n.core input).core (s ∷ older) (ring_step n.core input).outs
  unfolding ring_step
  core-ends s older input o frozen =
      let d = transition_and_proposal n.core (decide n.core input) in
      let k = keeps_done n.core input o in
      with_installation_if-ends s older d.core d.sends frozen k.keeps.installed (may_install d.core)
      (λ e. k.ordered.apart (inr (installs_recovering d.core.state d.core e)))
