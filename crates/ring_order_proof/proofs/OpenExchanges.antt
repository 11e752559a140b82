-- After a step that leaves the exchange of a node's newest ring open, no more places are due to be dropped than before: nothing
-- was committed in the step, or all that is committed was restored in it.

-- While an exchange is open, the known log is the one from when the node entered the ring. A step that installs a ring raises no
-- safe mark of the ring before it, so it commits nothing there but what it restores.
use Rattle.std.proofs.Common.{◌≡◌, ℕ, zero, suc, ◌+◌, ◌-◌, ◌<◌, ◌≤◌, max, Bool, true, false, List, [], ◌∷◌, ◌++◌, map, Option}
use Rattle.std.proofs.Common.{Some, None, ◌⊎◌, inl, inr}
use Rattle.std.proofs.Common.{refl, ap, sym, ◌∙◌, subst, arith, append_assoc, append-nil}
use Rattle.std.specs.Prelude.{nat_le, nat_lt, is_some, not, ◌||◌, if◌then◌else◌, filter_map}
use Rattle.std.specs.List.{AllByRecursion as Each}
use Rattle.std.proofs.lemmas.Bool.{cond_both, cond-false, ltb-true, lt-leb}
use Rattle.ring_base.specs.Group.{Group, is_primary}
use Rattle.ring_base.proofs.Cases.{guarded_some}
use Rattle.ring_base.specs.Numbers.{numbers_from}
use Rattle.ring_base.specs.Processors.{IsProc}
use Rattle.ring_base.specs.declared.ring_id.RingId.{RingId}
use Rattle.ring_base.proofs.Each.{each-filter, each-filter_map}
use Rattle.ring_payload.specs.PayloadKinds.{is_user}
use Rattle.ring_wire.specs.declared.message.Message.{Message}
use Rattle.ring_core_spec.specs.Windows.{found}
use Rattle.ring_core_spec.specs.Recoveries.{rest_messages}
use Rattle.ring_core_spec.specs.declared.input.Input.{Input}
use Rattle.ring_core_spec.specs.declared.out.Out.{Out}
use Rattle.ring_core_spec.specs.declared.out.Out.TheVariants.{Send as SendOut, Safe as SafeOut, Rest as RestOut}
use Rattle.ring_core_spec.specs.declared.out.Out.TheVariants.{Regular as RegularOut}
use Rattle.ring_core_spec.specs.State.{Core, OutgoingFrame}
use Rattle.ring_core_spec.specs.Views.{front, mark, plan}
use Rattle.ring_core_spec.specs.Deciding.{decide}
use Rattle.ring_core_spec.specs.Transitions.{transition_and_proposal}
use Rattle.ring_core_spec.specs.Giving.{may_install, sends_with_receivers, sent, user_messages_between, all_agreed, agreed_from, safe_from, delivered_from}
use Rattle.ring_core_spec.specs.Giving.{agreed_and_safe_of_step, installation_outputs, with_installation_if}
use Rattle.ring_core_spec.specs.Stepping.{ring_step}
use Rattle.ring_core_proof.specs.CoreInvariants.{RingsFit, FactsFit}
use Rattle.ring_synchrony_proof.proofs.InstallMarks.{install_marks}
use Rattle.ring_synchrony_proof.proofs.UserMessages.{found_as}
use Rattle.ring_log.specs.declared.wanted.Wanted.{Wanted}
use Rattle.ring_log.specs.Exchanges.{exchange_opening, wanted}
use Rattle.ring_log.specs.Epochs.{Epoch, epoch_opening}
use Rattle.ring_log.specs.EpochHistories.{CompleteExchange, complete_exchange_from, complete_exchange, messages_upto}
use Rattle.ring_log.specs.KnownLog.{KnownLog, restores, known_log_restored, known_log_joined, adopts, adopts_wanted, watermark_by}
use Rattle.ring_log.specs.KnownLog.{known_log_after_epoch, dropped_by, known_log_of}
use Rattle.ring_log_proof.proofs.CompleteExchanges.{grown, complete_exchange-front, upto-front}
use Rattle.ring_log_proof.proofs.KnownGrows.{adopts-grown}
use Rattle.ring_node_spec.specs.EpochHistories.{epochs_after}
use Rattle.ring_node_spec.specs.Nodes.{is_closed}
use Rattle.ring_node_spec.proofs.EpochsAfterOutputs.{through-append}
use Rattle.ring_order_proof.proofs.DisciplinedOutputs.{silent_through}
use Rattle.ring_order_proof.proofs.PiecesDue.{IsFrozen}

-- as many places are committed and dropped as before, or all that are committed are dropped
abbrev pub IsQuiet : {A : Type 0} → KnownLog A → KnownLog A → Type 0
IsQuiet k now = ((now.committed ≡ k.committed) × (now.trimmed ≡ k.trimmed)) ⊎ (now.committed ≡ now.trimmed)

-- Messages above the front are above the safe mark

numbers-above : (f first count : ℕ) → f < first → Each (λ n. f < n) (numbers_from first count)
numbers-above f first zero above = tt
numbers-above f first (suc count) above = (above, numbers-above f (suc first) count (omega (arith, above)))

user_messages_between-above : {A : Type 0} (c : Core A) (ring : RingId) (f high : ℕ) →
    Each (λ (x : Message A). f < x.number) (user_messages_between c ring f high)
user_messages_between-above {A} c ring f high =
    let numbers = numbers_from (f + 1) (high - f) in
    each-filter (λ (x : Message A). f < x.number) (λ (x : Message A). is_user x.payload) (filter_map (found c.held ring) numbers)
    (each-filter_map (λ n. f < n) (λ (x : Message A). f < x.number) (found c.held ring)
    (λ n x l e. (let same = (found_as c.held ring n x e).number_is in omega (arith, l, same))) numbers
    (numbers-above f (f + 1) (high - f) (omega arith)))

upto-same : {A : Type 0} (m f : ℕ) (xs more : List (Message A)) → m ≤ f → Each (λ (x : Message A). f < x.number) more →
    messages_upto m (xs ++ more) ≡ messages_upto m xs
upto-same m f [] [] le above = refl
upto-same m f [] (y ∷ more) le above = cond-false (nat_le y.number m) (y ∷ messages_upto m more) []
    (lt-leb y.number m (let l = above.0 in omega (arith, le, l)))
upto-same {A} m f (x ∷ xs) more le above = ap (λ (l : List (Message A)). if nat_le x.number m then x ∷ l else [])
    (upto-same m f xs more le above)

-- The known log as the newest epoch grows

open-none : {X : Type 0} (primary : Bool) (o : Option X) → (not primary || is_some o) ≡ false → o ≡ None
open-none true None e = refl
open-none true (Some x) e = absurd (let n : ⊥ = cc e in n)
open-none false o e = absurd (let n : ⊥ = cc e in n)

-- no prefix of the messages completes the exchange either
prefix-none : {A : Type 0} (group : Group) (members : ℕ) (xs more : List (Message A)) →
    complete_exchange group members (xs ++ more) ≡ None →
    complete_exchange group members xs ≡ None
prefix-none {A} group members xs more e = by (complete_exchange group members xs) refl
  where
    by : (o : Option (CompleteExchange A)) → complete_exchange group members xs ≡ o → complete_exchange group members xs ≡ None
    by None g = g
    by (Some w) g =
        let some : complete_exchange group members (xs ++ more) ≡ Some (grown w more) =
        complete_exchange-front group members xs (xs ++ more) w g (more, refl) in
        let both : None ≡ Some (grown w more) = sym e ∙ some in
        absurd (let n : ⊥ = cc both in n)

adopts-quiet : {A : Type 0} (k : KnownLog A) (ring : RingId) (w : CompleteExchange A) → IsQuiet k (adopts k ring w)
adopts-quiet {A} k ring w = by (wanted w.exchange)
  where
    by : (o : Option Wanted) → IsQuiet k (adopts_wanted k ring o w)
    by None = inl (refl, refl)
    by (Some v) =
        cond_both (restores k v) (known_log_restored ring v w.exchange.bytes w.exchange.received_calls)
        (known_log_joined k ring v w.exchange.received_calls) (IsQuiet k)
        (λ t. inr refl) (λ f. inl (refl, refl))

module _ {A : Type 0} (group : Group) (s : Epoch A) (older : List (Epoch A)) where
  abbrev before : KnownLog A
  before = known_log_of group older

  abbrev exchange_in : List (Message A) → Option (CompleteExchange A)
  exchange_in xs = complete_exchange group s.members xs

  -- the known log, given the exchange in its messages and in its safe ones
  abbrev known_by : Option (CompleteExchange A) → Option (CompleteExchange A) → KnownLog A
  known_by o safe = dropped_by s.trimmed (known_log_after_epoch s.ring before o safe)

  module _ (more : List (Message A)) where
    -- while the exchange is open nothing changes
    open-same : (mark : ℕ) → exchange_in (s.heard ++ more) ≡ None →
        known_log_of group (record s { heard = s.heard ++ more; mark = mark } ∷ older) ≡ known_log_of group (s ∷ older)
    open-same mark e =
        ap (λ o. known_by o (exchange_in (messages_upto mark (s.heard ++ more)))) e
        ∙ sym (ap (λ o. known_by o (exchange_in (messages_upto s.mark s.heard))) (prefix-none group s.members s.heard more e))

    module _ (same : messages_upto s.mark (s.heard ++ more) ≡ messages_upto s.mark s.heard) (frozen : IsFrozen group (s ∷ older)) where
      abbrev now : KnownLog A
      now = known_log_of group (record s { heard = s.heard ++ more } ∷ older)

      -- the exchange is complete now, and wasn't before
      becomes-quiet : (w : CompleteExchange A) → exchange_in s.heard ≡ None → exchange_in (s.heard ++ more) ≡ Some w →
          IsQuiet (known_log_of group (s ∷ older)) now
      becomes-quiet w was is =
          let primary : is_primary group s.members ≡ true =
          (guarded_some (is_primary group s.members)
          (complete_exchange_from (exchange_opening s.members) (s.heard ++ more)) w is).0 in
          let none : s.trimmed ≡ 0 = frozen (ap (λ b. not b || is_some (exchange_in s.heard)) primary ∙ ap is_some was) in
          let safe : exchange_in (messages_upto s.mark (s.heard ++ more)) ≡ None = ap exchange_in same ∙ safe-none in
          let k : known_by None (exchange_in (messages_upto s.mark s.heard)) ≡ known_log_of group (s ∷ older) =
          sym (ap (λ o. known_by o (exchange_in (messages_upto s.mark s.heard))) was) in
          let n : known_by (Some w) None ≡ now =
          sym (ap (λ o. known_by o (exchange_in (messages_upto s.mark (s.heard ++ more)))) is ∙ ap (known_by (Some w)) safe) in
          subst (λ (x : KnownLog A). IsQuiet x now) k
          (subst (λ (x : KnownLog A). IsQuiet (known_by None (exchange_in (messages_upto s.mark s.heard))) x) n
          (elim (adopts-quiet before s.ring w) as (λ _. IsQuiet (dropped_by s.trimmed before) (known_by (Some w) None)) [
            | inl q ↦ (let c = q.0 in let t = q.1 in inl (omega (arith, c), ap (max s.trimmed) t))
            | inr q ↦ inr (omega (arith, q, none))
          ]))
        where
          safe-none : exchange_in (messages_upto s.mark s.heard) ≡ None
          safe-none =
              let f = upto-front s.mark s.heard in
              prefix-none group s.members (messages_upto s.mark s.heard) f.0 (ap exchange_in f.1 ∙ was)

      -- it was complete before
      stays-quiet : (w : CompleteExchange A) → exchange_in s.heard ≡ Some w → IsQuiet (known_log_of group (s ∷ older)) now
      stays-quiet w was =
          let is = complete_exchange-front group s.members s.heard (s.heard ++ more) w was (more, refl) in
          let safe = exchange_in (messages_upto s.mark s.heard) in
          let k : known_log_of group (s ∷ older) ≡ known_by (Some w) safe = ap (λ o. known_by o safe) was in
          let n : now ≡ known_by (Some (grown w more)) safe =
          ap (λ o. known_by o (exchange_in (messages_upto s.mark (s.heard ++ more)))) is
          ∙ ap (λ xs. known_by (Some (grown w more)) (exchange_in xs)) same in
          let base = adopts-grown before s.ring w more in
          inl (
            ap (λ (x : KnownLog A). x.committed) n ∙ ap (λ (x : KnownLog A). max x.committed (watermark_by x safe)) base
                ∙ sym (ap (λ (x : KnownLog A). x.committed) k),
            ap (λ (x : KnownLog A). x.trimmed) n ∙ ap (λ (x : KnownLog A). max s.trimmed x.trimmed) base
                ∙ sym (ap (λ (x : KnownLog A). x.trimmed) k),
          )

      grown-quiet : IsQuiet (known_log_of group (s ∷ older)) now
      grown-quiet = by (exchange_in s.heard) (exchange_in (s.heard ++ more)) refl refl
        where
          by : (o p : Option (CompleteExchange A)) → exchange_in s.heard ≡ o → exchange_in (s.heard ++ more) ≡ p →
              IsQuiet (known_log_of group (s ∷ older)) now
          by (Some w) p was is = stays-quiet w was
          by None (Some w) was is = becomes-quiet w was is
          by None None was is =
              (let e = open-same s.mark is in inl (ap (λ (x : KnownLog A). x.committed) e, ap (λ (x : KnownLog A). x.trimmed) e))

-- a new ring whose exchange is open
entered-quiet : {A : Type 0} (group : Group) (k : KnownLog A) (n : Epoch A) (epochs : List (Epoch A)) → n.trimmed ≡ 0 →
    complete_exchange group n.members n.heard ≡ None → IsQuiet k (known_log_of group epochs) →
    IsQuiet k (known_log_of group (n ∷ epochs))
entered-quiet {A} group k n epochs none e q =
    let last = known_log_of group epochs in
    let is : dropped_by n.trimmed last ≡ known_log_of group (n ∷ epochs) =
    sym (ap (λ o. dropped_by n.trimmed (known_log_after_epoch n.ring last o (complete_exchange group n.members (messages_upto n.mark n.heard)))) e) in
    subst (λ (x : KnownLog A). IsQuiet k x) is
    (elim q as (λ _. IsQuiet k (dropped_by n.trimmed last)) [
      | inl p ↦ (let t = p.1 in inl (p.0, omega (arith, none, t)))
      | inr p ↦ inr (omega (arith, none, p))
    ])

-- What a core's outputs do to its node's life

agreed-through : {A : Type 0} (ring : RingId) (xs : List (Message A)) (s : Epoch A) (older : List (Epoch A)) →
    epochs_after (s ∷ older) (all_agreed ring xs) ≡ record s { heard = s.heard ++ xs } ∷ older
agreed-through {A} ring [] s older = ap (λ (l : List (Message A)). record s { heard = l } ∷ older) (sym (append-nil s.heard))
agreed-through {A} ring (x ∷ xs) s older =
    agreed-through ring xs (record s { heard = s.heard ++ x ∷ [] }) older
    ∙ ap (λ (l : List (Message A)). record s { heard = l } ∷ older) (append_assoc s.heard (x ∷ []) xs)

-- more messages in the newest epoch, and perhaps another mark
record IsGrown {A : Type 0} (s : Epoch A) (older epochs : List (Epoch A)) : Type 0 where
  more : List (Message A)
  mark : ℕ
  is : epochs ≡ record s { heard = s.heard ++ more; mark = mark } ∷ older

module _ {A : Type 0} (d : Core A) (ring : RingId) (f below : ℕ) (s : Epoch A) (older : List (Epoch A)) where
  abbrev new : List (Message A)
  new = user_messages_between d ring f (front d ring)

  safe-through : epochs_after (s ∷ older) (delivered_from d ring f below)
      ≡ epochs_after (record s { heard = s.heard ++ new } ∷ older) (safe_from d ring below)
  safe-through =
      through-append (s ∷ older) (agreed_from d ring f) (safe_from d ring below)
      ∙ ap (λ (l : List (Epoch A)). epochs_after l (safe_from d ring below)) (agreed-through ring new s older)

  delivered-grown : IsGrown s older (epochs_after (s ∷ older) (delivered_from d ring f below))
  delivered-grown =
      subst (λ (l : List (Epoch A)). IsGrown s older l) (sym safe-through)
      (cond_both (nat_lt below (mark d ring)) (SafeOut ring (mark d ring) ∷ []) []
      (λ (outs : List (Out A)). IsGrown s older (epochs_after (record s { heard = s.heard ++ new } ∷ older) outs))
      (λ t. record { more = new; mark = mark d ring; is = refl }) (λ e. record { more = new; mark = s.mark; is = refl }))

  -- without a greater mark
  delivered-same : mark d ring ≡ below →
      epochs_after (s ∷ older) (delivered_from d ring f below) ≡ record s { heard = s.heard ++ new } ∷ older
  delivered-same e =
      safe-through
      ∙ cond_both (nat_lt below (mark d ring)) (SafeOut ring (mark d ring) ∷ []) []
      (λ (outs : List (Out A)).
      epochs_after (record s { heard = s.heard ++ new } ∷ older) outs ≡ record s { heard = s.heard ++ new } ∷ older)
      (λ t. absurd (let l = ltb-true below (mark d ring) t in omega (arith, e, l))) (λ f. refl)

sent-through : {A : Type 0} (sends : List (OutgoingFrame A)) (outs : List (Out A)) (epochs : List (Epoch A)) →
    epochs_after epochs (sent sends ++ outs) ≡ epochs_after epochs outs
sent-through {A} sends outs epochs =
    through-append epochs (sent sends) outs
    ∙ ap (λ (l : List (Epoch A)). epochs_after l outs)
    (silent_through (λ (x : OutgoingFrame A). SendOut x.to x.frame) (λ x l. refl) (sends_with_receivers sends) epochs)

installed-through : {A : Type 0} (d : Core A) (epochs : List (Epoch A)) →
    epochs_after epochs (installation_outputs d)
    ≡ epochs_after (epoch_opening d.running.ring d.running.members ∷ epochs) (delivered_from d d.running.ring 0 0)
installed-through {A} d epochs =
    let last : List (Out A) = RegularOut d.running.ring d.running.members ∷ delivered_from d d.running.ring 0 0 in
    through-append epochs (map (λ (x : Message A). RestOut x.ring x.number x) (rest_messages (plan d) d.held)) last
    ∙ ap (λ (l : List (Epoch A)). epochs_after l last)
    (silent_through (λ (x : Message A). RestOut x.ring x.number x) (λ x l. refl) (rest_messages (plan d) d.held) epochs)

-- A step

module _ {A : Type 0} (group : Group) (s : Epoch A) (older : List (Epoch A)) (frozen : IsFrozen group (s ∷ older)) (c d : Core A)
    (sends : List (OutgoingFrame A)) (covered : mark c c.installed.ring ≤ front c c.installed.ring)
    (marked : s.mark ≤ mark c c.installed.ring) where
  abbrev known : KnownLog A
  known = known_log_of group (s ∷ older)

  settled-quiet : (b : Bool) → (b ≡ true → mark d c.installed.ring ≡ mark c c.installed.ring) →
      is_closed group (epochs_after (s ∷ older) (with_installation_if b d (sent sends ++ agreed_and_safe_of_step c d)).outs) ≡ false →
      IsQuiet known (known_log_of group (epochs_after (s ∷ older) (with_installation_if b d (sent sends ++ agreed_and_safe_of_step c d)).outs))
  settled-quiet false kept unclosed =
      let r = c.installed.ring in
      let g = delivered-grown d r (front c r) (mark c r) s older in
      let is = sent-through sends (agreed_and_safe_of_step c d) (s ∷ older) ∙ g.is in
      let none = open-none (is_primary group s.members) (complete_exchange group s.members (s.heard ++ g.more))
      (subst (λ (l : List (Epoch A)). is_closed group l ≡ false) is unclosed) in
      let same = ap (known_log_of group) is ∙ open-same group s older g.more g.mark none in
      inl (ap (λ (x : KnownLog A). x.committed) same, ap (λ (x : KnownLog A). x.trimmed) same)
  settled-quiet true kept unclosed =
      let r = c.installed.ring in
      let first = user_messages_between d r (front c r) (front d r) in
      let t : Epoch A = record s { heard = s.heard ++ first } in
      let left : epochs_after (s ∷ older) (sent sends ++ agreed_and_safe_of_step c d) ≡ t ∷ older =
      sent-through sends (agreed_and_safe_of_step c d) (s ∷ older) ∙ delivered-same d r (front c r) (mark c r) s older (kept refl) in
      let opened = epoch_opening d.running.ring d.running.members in
      let g = delivered-grown d d.running.ring 0 0 opened (t ∷ older) in
      let is = through-append (s ∷ older) (sent sends ++ agreed_and_safe_of_step c d) (installation_outputs d)
      ∙ ap (λ (l : List (Epoch A)). epochs_after l (installation_outputs d)) left
      ∙ installed-through d (t ∷ older) ∙ g.is in
      let n : Epoch A = record opened { heard = [] ++ g.more; mark = g.mark } in
      let none = open-none (is_primary group n.members) (complete_exchange group n.members n.heard)
      (subst (λ (l : List (Epoch A)). is_closed group l ≡ false) is unclosed) in
      let same = upto-same s.mark (front c r) s.heard first (omega (arith, covered, marked))
      (user_messages_between-above d r (front c r) (front d r)) in
      subst (λ (l : List (Epoch A)). IsQuiet known (known_log_of group l)) (sym is)
      (entered-quiet group known n (t ∷ older) refl none (grown-quiet group s older first same frozen))

pub step-quiet : {A : Type 0} (group : Group) (s : Epoch A) (older : List (Epoch A)) (c : Core A) (input : Input A) →
    IsProc c.me → RingsFit c → FactsFit c →
    mark c c.installed.ring ≤ front c c.installed.ring → s.mark ≤ mark c c.installed.ring → IsFrozen group (s ∷ older) →
    is_closed group (epochs_after (s ∷ older) (ring_step c input).outs) ≡ false →
    IsQuiet (known_log_of group (s ∷ older)) (known_log_of group (epochs_after (s ∷ older) (ring_step c input).outs))
unfolding ring_step
step-quiet group s older c input proc rings facts covered marked frozen =
    let d = transition_and_proposal c (decide c input) in
    settled-quiet group s older frozen c d.core d.sends covered marked (may_install d.core)
    (install_marks c input proc rings facts)
