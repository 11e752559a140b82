-- As lives go on, what is settled stays settled, and what is committed grows.
use Rattle.std.proofs.Common.{◌≡◌, ℕ, ◌≤◌, true, false, List, [], ◌∷◌, ◌++◌, length, Option, Some, None, inl, inr}
use Rattle.std.proofs.Common.{refl, ap, sym, ◌∙◌, subst, arith}
use Rattle.std.specs.Prelude.{nat_le, nat_lt}
use Rattle.std.proofs.lemmas.Bool.{cond_both, leb-true, le-leb}
use Rattle.ring_base.specs.Prefixes.{IsListPrefix, prefix_self, prefix_trans, prefix_length}
use Rattle.ring_base.specs.Group.{Group}
use Rattle.ring_base.specs.Processors.{IsMember}
use Rattle.ring_base.specs.declared.ring_id.RingId.{RingId}
use Rattle.ring_payload.specs.declared.call.Call.{Call as OneCall}
use Rattle.ring_log.specs.Messages.{Message}
use Rattle.ring_log.specs.Exchanges.{wanted}
use Rattle.ring_log.specs.Epochs.{Epoch}
use Rattle.ring_log.specs.EpochHistories.{CompleteExchange, complete_exchange, calls_in, own_base, log_of, messages_upto, longer_list, committed_by, front_on, restored_by, committed_of}
use Rattle.ring_log.specs.EpochHistories.{older_at, owner_log, base_of}
use Rattle.ring_log_proof.specs.RingFacts.{HasEpoch, EpochIn, safe_part, RingFacts}
use Rattle.ring_log_proof.specs.Discipline.{KeepsRules}
use Rattle.ring_log_proof.specs.EpochEvents.{IsEpochExtended, IsEpochsExtended}
use Rattle.ring_log_proof.proofs.CompleteExchanges.{grown, complete_exchange-front, complete_exchange-from, upto-front, log_on, grown-front}
use Rattle.ring_log_proof.proofs.Epochs.{older-in}
use Rattle.ring_log_proof.proofs.HonestExchanges.{Outcome}
use Rattle.ring_log_proof.proofs.Heads.{ViewsAt, Says, log_before, outcome, base-owner}
use Rattle.ring_log_proof.proofs.SafeLogs.{shared}
use Rattle.ring_log_proof.proofs.Settled.{SettledBelow, ground-text}
use Rattle.ring_log.proofs.LongerLists.{longer_list-most}

pub grows-self : {A : Type 0} (s : Epoch A) → IsEpochExtended s s
grows-self s = record {
  ring = refl;
  members = refl;
  heard = prefix_self s.heard;
  mark = omega arith;
  sent = prefix_self s.sent;
  trimmed = omega arith;
  front = λ w e. refl;
}

pub epoch-behind : {A : Type 0} (newer epochs : List (Epoch A)) (s : Epoch A) (older : List (Epoch A)) → HasEpoch epochs s older → HasEpoch (newer ++ epochs) s older
epoch-behind [] epochs s older h = h
epoch-behind (t ∷ newer) epochs s older h = inr (epoch-behind newer epochs s older h)

-- each epoch is still there, after the same life
pub record StillThere {A : Type 0} (after : List (Epoch A)) (s : Epoch A) (older : List (Epoch A)) : Type 0 where
  pub epoch : Epoch A
  pub there : HasEpoch after epoch older
  pub grows : IsEpochExtended s epoch

pub still-there : {A : Type 0} (epochs after : List (Epoch A)) (s : Epoch A) (older : List (Epoch A)) → IsEpochsExtended epochs after → HasEpoch epochs s older
    → StillThere after s older
still-there [] after s older on h = absurd h
still-there (t ∷ before) after s older on (inl x) = record {
  epoch = on.1;
  there = subst (λ l. HasEpoch l on.1 older) (sym on.2) (epoch-behind on.0 (on.1 ∷ before) on.1 older (inl (refl, x.1)));
  grows = subst (λ u. IsEpochExtended u on.1) x.0 on.3;
}
still-there (t ∷ before) after s older on (inr x) = record {
  epoch = s;
  there = subst (λ l. HasEpoch l s older) (sym on.2) (epoch-behind on.0 (on.1 ∷ before) s older (inr x));
  grows = grows-self s;
}

-- Committed lengths never fall

pub upto-grows : {A : Type 0} (low high : ℕ) (xs ys : List (Message A)) → low ≤ high → IsListPrefix xs ys → IsListPrefix (messages_upto low xs) (messages_upto high ys)
upto-grows low high [] ys le f = (messages_upto high ys, refl)
upto-grows low high (x ∷ xs) [] le f = absurd (cc (f.1))
upto-grows {A} low high (x ∷ xs) (y ∷ ys) le f =
    let same : y ≡ x = cc (f.1) in
    subst (λ (z : Message A). IsListPrefix (messages_upto low (x ∷ xs)) (messages_upto high (z ∷ ys))) (sym same)
    (cond_both (nat_le x.number low) (x ∷ messages_upto low xs) [] (λ l. IsListPrefix l (messages_upto high (x ∷ ys)))
    (λ t.
    let more = upto-grows low high xs ys le (f.0, cc (f.1)) in
    cond_both (nat_le x.number high) (x ∷ messages_upto high ys) [] (λ l. IsListPrefix (x ∷ messages_upto low xs) l)
    (λ u. (more.0, ap (λ l. x ∷ l) more.1))
    (λ u. absurd (let k : true ≡ false = sym (le-leb x.number high (omega (arith, le, leb-true x.number low t))) ∙ u in cc k)))
    (λ t. (messages_upto high (x ∷ ys), refl)))

module _ {A : Type 0} (group : Group) where
  committed-least : (log front old : List (OneCall A)) (o : Option (CompleteExchange A)) → length old ≤ length (committed_by log front old o)
  committed-least log front old None = omega arith
  committed-least log front old (Some w) = (longer_list-most old (log_on (own_base log front) w)).0

  restored-least : (front old : List (OneCall A)) (o : Option (CompleteExchange A)) → length old ≤ length (restored_by front old o)
  restored-least front old None = omega arith
  restored-least front old (Some w) = (longer_list-most old (front_on front (wanted w.exchange))).0

  -- new rings keep what was committed
  committed-newer : (newer epochs : List (Epoch A)) → length (committed_of group epochs) ≤ length (committed_of group (newer ++ epochs))
  committed-newer [] epochs = omega arith
  committed-newer (s ∷ newer) epochs =
      let rest = committed-newer newer epochs in
      let old = committed_of group (newer ++ epochs) in
      let heard = complete_exchange group s.members s.heard in
      let restored = restored-least s.front old heard in
      let here = committed-least (log_of group (newer ++ epochs)) s.front (restored_by s.front old heard) (complete_exchange group s.members (safe_part s)) in
      omega (arith, rest, restored, here)

  -- what was restored stays restored as more is received
  restored-grown : (front old : List (OneCall A)) (m : ℕ) (xs ys : List (Message A)) (o : Option (CompleteExchange A)) → complete_exchange group m xs ≡ o → IsListPrefix xs ys
      → length (restored_by front old o) ≤ length (restored_by front old (complete_exchange group m ys))
  restored-grown front old m xs ys None e f = restored-least front old (complete_exchange group m ys)
  restored-grown front old m xs ys (Some w) e f =
      let now : restored_by front old (complete_exchange group m ys) ≡ longer_list old (front_on front (wanted w.exchange)) =
      ap (restored_by front old) (complete_exchange-front group m xs ys w e f) in
      omega (arith, ap length now)

  committed-grown : (log base old later : List (OneCall A)) (m : ℕ) (xs ys : List (Message A)) (o : Option (CompleteExchange A)) → length old ≤ length later
      → complete_exchange group m xs ≡ o → IsListPrefix xs ys
      → length (committed_by log base old o) ≤ length (committed_by log base later (complete_exchange group m ys))
  committed-grown log base old later m xs ys None le e f = omega (arith, le, committed-least log base later (complete_exchange group m ys))
  committed-grown log base old later m xs ys (Some w) le e f =
      let there = complete_exchange-front group m xs ys w e f in
      let longest = longer_list-most later (log_on (own_base log base) (grown w f.0)) in
      let front = prefix_length (log_on (own_base log base) w) (log_on (own_base log base) (grown w f.0)) (grown-front (own_base log base) w f.0) in
      let now : committed_by log base later (complete_exchange group m ys) ≡ longer_list later (log_on (own_base log base) (grown w f.0)) =
      ap (committed_by log base later) there in
      cond_both (nat_lt (length old) (length (log_on (own_base log base) w))) (log_on (own_base log base) w) old
      (λ l. length l ≤ length (committed_by log base later (complete_exchange group m ys)))
      (λ t. omega (arith, longest.1, front, ap length now)) (λ f. omega (arith, le, longest.0, ap length now))

  -- an epoch with its snapshot places, and its extension: these places are read only once the exchange is complete
  abbrev pub refronted : Epoch A → Epoch A → Epoch A
  refronted s t = record s { front = t.front }

  pub committed-refronted : (s t : Epoch A) (older : List (Epoch A)) → IsEpochExtended s t → committed_of group (s ∷ older) ≡ committed_of group (refronted s t ∷ older)
  committed-refronted s t older g = by (complete_exchange group s.members s.heard) refl (complete_exchange group s.members (safe_part s)) refl
    where
      by : (o : Option (CompleteExchange A)) → complete_exchange group s.members s.heard ≡ o → (p : Option (CompleteExchange A)) → complete_exchange group s.members (safe_part s) ≡ p
          → committed_of group (s ∷ older) ≡ committed_of group (refronted s t ∷ older)
      by None none (Some w) safe =
          absurd (let e : Some (grown w (upto-front s.mark s.heard).0) ≡ None = sym (complete_exchange-front group s.members (safe_part s) s.heard w safe
          (upto-front s.mark s.heard)) ∙ none in cc e)
      by None none None safe =
          let log = log_of group older in
          let old = committed_of group older in
          let told : List (OneCall A) → Option (CompleteExchange A) → Option (CompleteExchange A) → List (OneCall A) = λ f o p. committed_by log f (restored_by f old o) p in
          ap (λ o. told s.front o (complete_exchange group s.members (safe_part s))) none ∙ ap (told s.front None) safe
          ∙ sym (ap (λ o. told t.front o (complete_exchange group s.members (safe_part s))) none ∙ ap (told t.front None) safe)
      by (Some w) some p safe = ap (λ f. committed_of group (record s { front = f } ∷ older)) (g.front w (complete_exchange-from group s.members s.heard w some))

  pub committed-longer_list : (epochs after : List (Epoch A)) → IsEpochsExtended epochs after → length (committed_of group epochs) ≤ length (committed_of group after)
  committed-longer_list [] after on = omega arith
  committed-longer_list (s ∷ older) after on =
      let t = on.1 in
      let log = log_of group older in
      let old = committed_of group older in
      let safe = upto-grows s.mark t.mark s.heard t.heard on.3.mark on.3.heard in
      let restored : ℕ → List (OneCall A) → List (OneCall A) = λ m front. restored_by front old (complete_exchange group m t.heard) in
      let front = t.front in
      let same = ap length (committed-refronted s t older on.3) in
      let more = restored-grown front old s.members s.heard t.heard (complete_exchange group s.members s.heard) refl on.3.heard in
      let here : length (committed_of group (refronted s t ∷ older))
      ≤ length (committed_by log front (restored s.members front) (complete_exchange group s.members (safe_part t))) =
      committed-grown log front (restored_by front old (complete_exchange group s.members s.heard)) (restored s.members front) s.members (safe_part s)
      (safe_part t) (complete_exchange group s.members (safe_part s)) more refl safe in
      let set : committed_by log front (restored s.members front) (complete_exchange group s.members (safe_part t)) ≡ committed_of group (t ∷ older) =
      ap (λ m. committed_by log front (restored m front) (complete_exchange group m (safe_part t))) on.3.members in
      let newer = committed-newer on.0 (t ∷ older) in
      let is : length (committed_of group after) ≡ length (committed_of group (on.0 ++ t ∷ older)) = ap (λ l. length (committed_of group l)) on.2 in
      omega (arith, same, here, ap length set, newer, is)

-- A later moment

module _ {A : Type 0} (group : Group) (node_epochs after : ℕ → List (Epoch A)) (members members' : RingId → ℕ) (text text' : RingId → List (Message A))
    (facts : RingFacts node_epochs members text) (facts' : RingFacts after members' text')
    (disc : KeepsRules group node_epochs) (disc' : KeepsRules group after) (on : (p : ℕ) → IsEpochsExtended (node_epochs p) (after p)) where
  later-in : (p : ℕ) (r : RingId) → (at : EpochIn (node_epochs p) r) → (now : EpochIn (after p) r) × (at.older ≡ now.older) × IsEpochExtended at.epoch now.epoch
  later-in p r at =
      let s = still-there (node_epochs p) (after p) at.epoch at.older (on p) at.there in
      (record { epoch = s.epoch; older = at.older; there = s.there; ring = sym s.grows.ring ∙ at.ring }, refl, s.grows)

  -- a ring's members are the same
  members-later : (p : ℕ) (r : RingId) → EpochIn (node_epochs p) r → members r ≡ members' r
  members-later p r at =
      let now = later-in p r at in
      sym (facts.one_set p at.epoch at.older at.there ∙ ap members at.ring) ∙ now.2.members ∙ facts'.one_set p now.0.epoch now.0.older now.0.there
      ∙ ap members' now.0.ring

  -- and its base is the same
  base-later : (r : RingId) (w : CompleteExchange A) → Outcome (Says group node_epochs r) (log_before group node_epochs r) (members r) w.exchange
      → base_of group node_epochs r w.exchange ≡ base_of group after r w.exchange
  base-later r w o =
      let q = o.w.owner in
      let at = o.says.0 in
      let now = later-in q r at in
      let there : older_at r.seq (after q) ≡ at.older = older-in (after q) r (facts'.rises q) now.0 ∙ sym now.1 in
      base-owner group node_epochs members text facts disc r w o ∙ sym (ap (log_of group) there) ∙ sym (ap (owner_log group after r) o.is)

  pub settled-onward : ((bound : ℕ) → ViewsAt group node_epochs bound) → (bound : ℕ) (calls : List (OneCall A)) → SettledBelow group node_epochs members bound calls
      → SettledBelow group after members' bound calls
  settled-onward views bound calls settled =
      let g = settled.0 in
      let r = g.ring in
      let s = shared group node_epochs members text facts disc r r g.front g.front g.whole g.whole g.exch g.exch in
      let same : members r ≡ members' r = members-later s.0 r (g.safe s.0 s.1).0 in
      let o = outcome group node_epochs members text facts disc r (views r.seq) g.front g.whole (ground-text group node_epochs members text facts disc bound g) g.exch in (
        record {
          ring = r;
          low = g.low;
          front = g.front;
          whole = g.whole;
          exch = subst (λ m. complete_exchange group m g.front ≡ Some g.whole) same g.exch;
          safe = λ p i.
              let h = g.safe p (subst (λ m. IsMember m p) (sym same) i) in
              let now = later-in p r h.0 in
              (now.0, prefix_trans g.front h.0.epoch.heard now.0.epoch.heard h.1 now.2.heard);
        },
        subst (λ b. IsListPrefix calls (b ++ calls_in g.whole.rest)) (base-later r g.whole o) settled.1,
      )
