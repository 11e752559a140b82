-- What is committed in a sound life is a prefix of its log, and only grows as the life goes on.
use Rattle.std.proofs.Common.{◌≡◌, ℕ, true, ◌&&◌, List, [], ◌∷◌, ◌++◌, length, take, Option, Some, None, refl, sym, ◌∙◌, subst, arith}
use Rattle.std.specs.Prelude.{nat_lt}
use Rattle.std.proofs.lemmas.Bool.{cond_both, and_parts, ltb-true}
use Rattle.ring_base.specs.Prefixes.{IsListPrefix, prefix_self, prefix_trans, prefix_shorter}
use Rattle.ring_base.specs.Group.{Group, is_primary}
use Rattle.ring_payload.specs.declared.call.Call.{Call}
use Rattle.ring_log.specs.Messages.{Message}
use Rattle.ring_log.specs.Logs.{begins, is_log_length}
use Rattle.ring_log.specs.Exchanges.{wanted}
use Rattle.ring_log.specs.Epochs.{Epoch}
use Rattle.ring_log.specs.EpochHistories.{CompleteExchange, complete_exchange, places_below, base_on, own_base, log_by, log_of, messages_upto, longer_list, committed_by, front_on, restored_by}
use Rattle.ring_log.specs.EpochHistories.{committed_of, is_known_on, keeps_committed, is_sound}
use Rattle.ring_log.specs.declared.wanted.Wanted.{Wanted}
use Rattle.ring_log_proof.specs.EpochEvents.{IsEpochExtended}
use Rattle.ring_log_proof.proofs.CompleteExchanges.{upto-front, grown, complete_exchange-front, log_on, base-front, grown-front}
use Rattle.ring_log_proof.proofs.CallPrefixes.{front_begins}
use Rattle.ring_log_proof.proofs.SettledGrows.{committed-longer_list, committed-refronted}

-- Prefixes

longer_front : {A : Type 0} → (old new log : List (Call A)) → IsListPrefix old log → IsListPrefix new log → IsListPrefix (longer_list old new) log
longer_front old new log h k = cond_both (nat_lt (length old) (length new)) new old (λ xs. IsListPrefix xs log) (λ e. k) (λ e. h)

front_longer : {A : Type 0} → (old new : List (Call A)) → IsListPrefix old new → IsListPrefix old (longer_list old new)
front_longer old new h = cond_both (nat_lt (length old) (length new)) new old (λ xs. IsListPrefix old xs) (λ e. h) (λ e. prefix_self old)

-- of two prefixes of one list, the first is a prefix of the longer one
longer_over : {A : Type 0} → (old new base : List (Call A)) → IsListPrefix old base → IsListPrefix new base → IsListPrefix old (longer_list old new)
longer_over old new base h k =
    cond_both (nat_lt (length old) (length new)) new old (λ xs. IsListPrefix old xs)
    (λ e. let lt = ltb-true (length old) (length new) e in prefix_shorter old new base h k (omega (arith, lt))) (λ e. prefix_self old)

-- One epoch: the messages received up to the mark are a prefix of all messages received

-- the places of a snapshot are a prefix of the base that it makes
front_on_base : {A : Type 0} → (own front : List (Call A)) (o : Option Wanted) (calls : List (Call A)) → IsListPrefix (front_on front o) (base_on own front o calls)
front_on_base own front None calls = (own, refl)
front_on_base {A} own front (Some w) calls = by w.snapshot
  where
    by : (o : Option ℕ) → IsListPrefix (places_below [] front 0 o) (places_below own front w.from o ++ calls)
    by None = (take w.from own ++ calls, refl)
    by (Some at) = (calls, refl)

module _ {A : Type 0} (group : Group) (m : ℕ) (own front old : List (Call A)) (heard : List (Message A)) where
  abbrev Keeps : Type 0
  Keeps = keeps_committed own front old (complete_exchange group m heard) ≡ true

  -- what is committed after a snapshot may have been restored
  abbrev Restored : List (Call A)
  Restored = restored_by front old (complete_exchange group m heard)

  kept_by_test : (w : CompleteExchange A) → keeps_committed own front old (Some w) ≡ true → IsListPrefix old (own_base own front w.exchange)
  kept_by_test w k =
      front_begins old (own_base own front w.exchange)
      (and_parts (is_known_on front old (wanted w.exchange)) (begins old (own_base own front w.exchange)) k).1

  -- it begins with what was committed before, and is a prefix of the base
  restored_over : (o : Option (CompleteExchange A)) → keeps_committed own front old o ≡ true → IsListPrefix old (restored_by front old o)
  restored_over None k = prefix_self old
  restored_over (Some w) k =
      longer_over old (front_on front (wanted w.exchange)) (own_base own front w.exchange) (kept_by_test w k)
      (front_on_base own front (wanted w.exchange) w.exchange.received_calls)

  restored_within : (w : CompleteExchange A) → keeps_committed own front old (Some w) ≡ true → IsListPrefix (restored_by front old (Some w)) (own_base own front w.exchange)
  restored_within w k =
      longer_front old (front_on front (wanted w.exchange)) (own_base own front w.exchange) (kept_by_test w k)
      (front_on_base own front (wanted w.exchange) w.exchange.received_calls)

  -- so is the base that the exchange makes
  kept_base : Keeps → (xs : List (Message A)) (w : CompleteExchange A) → IsListPrefix xs heard → complete_exchange group m xs ≡ Some w
      → IsListPrefix Restored (log_on (own_base own front) w)
  kept_base k xs w f e =
      let there : complete_exchange group m heard ≡ Some (grown w f.0) = complete_exchange-front group m xs heard w e f in
      let base : IsListPrefix (restored_by front old (Some (grown w f.0))) (own_base own front w.exchange) =
      restored_within (grown w f.0) (subst (λ o. keeps_committed own front old o ≡ true) there k) in
      prefix_trans Restored (own_base own front w.exchange) (log_on (own_base own front) w)
      (subst (λ o. IsListPrefix (restored_by front old o) (own_base own front w.exchange)) (sym there) base)
      (base-front (own_base own front) w)

  stay_keeps : Keeps → (xs : List (Message A)) → IsListPrefix xs heard → (o : Option (CompleteExchange A)) → complete_exchange group m xs ≡ o
      → IsListPrefix old (committed_by own front Restored o)
  stay_keeps k xs f None e = restored_over (complete_exchange group m heard) k
  stay_keeps k xs f (Some w) e =
      prefix_trans old Restored (longer_list Restored (log_on (own_base own front) w)) (restored_over (complete_exchange group m heard) k)
      (front_longer Restored (log_on (own_base own front) w) (kept_base k xs w f e))

  stay_within : Keeps → IsListPrefix old own → (xs : List (Message A)) → IsListPrefix xs heard → (o p : Option (CompleteExchange A)) →
      complete_exchange group m xs ≡ o → complete_exchange group m heard ≡ p →
      IsListPrefix (committed_by own front Restored o) (log_by own front p)
  stay_within k h xs f None None e d = subst (λ q. IsListPrefix (restored_by front old q) own) (sym d) h
  stay_within k h xs f None (Some w) e d = kept_base k heard w (prefix_self heard) d
  stay_within k h xs f (Some w) p e d =
      let there : complete_exchange group m heard ≡ Some (grown w f.0) = complete_exchange-front group m xs heard w e f in
      subst (λ q. IsListPrefix (committed_by own front Restored (Some w)) (log_by own front q)) (sym there ∙ d)
      (longer_front Restored (log_on (own_base own front) w) (log_on (own_base own front) (grown w f.0))
      (prefix_trans Restored (log_on (own_base own front) w) (log_on (own_base own front) (grown w f.0)) (kept_base k xs w f e)
      (grown-front (own_base own front) w f.0))
      (grown-front (own_base own front) w f.0))

-- A life

-- the tests of its newest epoch
pub record SoundStay {A : Type 0} (group : Group) (s : Epoch A) (older : List (Epoch A)) : Type 0 where
  pub older_sound : is_sound group older ≡ true
  pub keeps : keeps_committed (log_of group older) s.front (committed_of group older) (complete_exchange group s.members s.heard) ≡ true
  pub length_is : is_log_length (length (log_of group (s ∷ older))) ≡ true

pub sound_stay : {A : Type 0} → (group : Group) (s : Epoch A) (older : List (Epoch A)) → is_sound group (s ∷ older) ≡ true → SoundStay group s older
sound_stay group s older h =
    let keeps = keeps_committed (log_of group older) s.front (committed_of group older) (complete_exchange group s.members s.heard) in
    let p = and_parts (is_sound group older && keeps) (is_log_length (length (log_of group (s ∷ older)))) h in
    let q = and_parts (is_sound group older) keeps p.0 in
    record { older_sound = q.0; keeps = q.1; length_is = p.1 }

pub committed_front : {A : Type 0} → (group : Group) (epochs : List (Epoch A)) → is_sound group epochs ≡ true → IsListPrefix (committed_of group epochs) (log_of group epochs)
committed_front group [] h = ([], refl)
committed_front group (s ∷ older) h =
    let p = sound_stay group s older h in
    stay_within group s.members (log_of group older) s.front (committed_of group older) s.heard p.keeps (committed_front group older p.older_sound)
    (messages_upto s.mark s.heard) (upto-front s.mark s.heard) _ _ refl refl

-- the newest epoch was extended: what was committed there before is in its present log, and is no longer than what is committed
-- now
module _ {A : Type 0} (group : Group) (s t : Epoch A) (older : List (Epoch A)) (g : IsEpochExtended s t) (h : is_sound group (t ∷ older) ≡ true) where
  -- what was restored before is still restored
  restored_before : (m : ℕ) (front : List (Call A)) (o : Option (CompleteExchange A)) → complete_exchange group m s.heard ≡ o
      → keeps_committed (log_of group older) front (committed_of group older) (complete_exchange group m t.heard) ≡ true
      → IsListPrefix (restored_by front (committed_of group older) o) (restored_by front (committed_of group older) (complete_exchange group m t.heard))
  restored_before m front None e k = restored_over group m (log_of group older) front (committed_of group older) t.heard (complete_exchange group m t.heard) k
  restored_before m front (Some w) e k =
      let there : complete_exchange group m t.heard ≡ Some (grown w g.heard.0) = complete_exchange-front group m s.heard t.heard w e g.heard in
      subst (λ o. IsListPrefix (restored_by front (committed_of group older) (Some w)) (restored_by front (committed_of group older) o)) (sym there)
      (prefix_self (restored_by front (committed_of group older) (Some w)))

  before_within : IsListPrefix (committed_of group (s ∷ older)) (log_of group (t ∷ older))
  before_within =
      let p = sound_stay group t older h in
      let safe = prefix_trans (messages_upto s.mark s.heard) s.heard t.heard (upto-front s.mark s.heard) g.heard in
      let own = log_of group older in
      let old = committed_of group older in
      let whole = complete_exchange group t.members (messages_upto s.mark s.heard) in
      let restored = restored_before t.members t.front (complete_exchange group t.members s.heard) refl p.keeps in
      let within : IsListPrefix (restored_by t.front old (complete_exchange group t.members t.heard)) (log_of group (t ∷ older)) =
      stay_within group t.members own t.front old t.heard p.keeps (committed_front group older p.older_sound) [] (t.heard, refl) None _
      (none_of t.members) refl in
      let first : IsListPrefix (restored_by t.front old (complete_exchange group t.members s.heard)) (log_of group (t ∷ older)) =
      prefix_trans _ _ _ restored within in
      let now : IsListPrefix (committed_by own t.front (restored_by t.front old (complete_exchange group t.members s.heard)) whole) (log_of group (t ∷ older)) =
      by_safe p.keeps safe first whole refl in
      let safe_log : ℕ → List (Call A) → List (Call A) = λ m front.
      committed_by own front (restored_by front old (complete_exchange group m s.heard)) (complete_exchange group m (messages_upto s.mark s.heard)) in
      subst (λ calls. IsListPrefix calls (log_of group (t ∷ older))) (sym (committed-refronted group s t older g))
      (subst (λ m. IsListPrefix (safe_log m t.front) (log_of group (t ∷ older))) (sym g.members) now)
    where
      none_of : (m : ℕ) → complete_exchange {A = A} group m [] ≡ None
      none_of m = cond_both (is_primary group m) None None (λ (o : Option (CompleteExchange A)). o ≡ None) (λ t. refl) (λ f. refl)

      by_safe : keeps_committed (log_of group older) t.front (committed_of group older) (complete_exchange group t.members t.heard) ≡ true
          → (f : IsListPrefix (messages_upto s.mark s.heard) t.heard)
          → IsListPrefix (restored_by t.front (committed_of group older) (complete_exchange group t.members s.heard)) (log_of group (t ∷ older))
          → (o : Option (CompleteExchange A)) → complete_exchange group t.members (messages_upto s.mark s.heard) ≡ o
          → IsListPrefix (committed_by (log_of group older) t.front (restored_by t.front (committed_of group older) (complete_exchange group t.members s.heard)) o)
          (log_of group (t ∷ older))
      by_safe k f first None e = first
      by_safe k f first (Some w) e =
          let base = own_base (log_of group older) t.front in
          let there : complete_exchange group t.members t.heard ≡ Some (grown w f.0) = complete_exchange-front group t.members (messages_upto s.mark s.heard) t.heard w e f in
          longer_front (restored_by t.front (committed_of group older) (complete_exchange group t.members s.heard)) (log_on base w) (log_of group (t ∷ older)) first
          (subst (λ o. IsListPrefix (log_on base w) (log_by (log_of group older) t.front o)) (sym there) (grown-front base w f.0))

  committed_grown : IsListPrefix (committed_of group (s ∷ older)) (committed_of group (t ∷ older))
  committed_grown =
      prefix_shorter (committed_of group (s ∷ older)) (committed_of group (t ∷ older)) (log_of group (t ∷ older))
      before_within (committed_front group (t ∷ older) h) (committed-longer_list group (s ∷ older) (t ∷ older) ([], t, refl, g))
