-- The effect of a message, a safe mark and a new ring on the stored values, by the life that results.
use Rattle.std.proofs.Common.{◌≡◌, ℕ, ◌≤◌, nat_le, min, max, Bool, true, false, List, [], ◌∷◌, ◌++◌}
use Rattle.std.proofs.Common.{◌+◌, ◌-◌, length, drop, Option, Some, None, ◌⊎◌, inl, inr, refl, ap, sym, ◌∙◌, subst, arith}
use Rattle.std.proofs.Common.{append_assoc, length-append, if◌then◌else◌}
use Rattle.std.proofs.lemmas.Bool.{cond_both, cond-true, leb-true, le-leb}
use Rattle.std.proofs.lemmas.List.{append-nil, length-drop}
use Rattle.ring_base.specs.Prefixes.{IsListPrefix, prefix_append}
use Rattle.ring_base.specs.Group.{Group, is_primary}
use Rattle.ring_base.specs.declared.ring_id.RingId.{RingId}
use Rattle.ring_wire.specs.declared.message.Message.{Message}
use Rattle.ring_log.specs.Exchanges.{exchange_opening}
use Rattle.ring_log.specs.Logs.{Log, log_length, committed_upto}
use Rattle.ring_log.specs.Epochs.{Epoch}
use Rattle.ring_log.specs.EpochHistories.{CompleteExchange, complete_exchange_from, complete_exchange, calls_in, messages_upto}
use Rattle.ring_log.specs.KnownLog.{KnownLog, known_log_length, adopts, followed_by, watermark_by, known_log_after_epoch, dropped_by, known_log_of, retained_log}
use Rattle.ring_log_proof.proofs.CompleteExchanges.{grown, complete_exchange-front, upto-front, calls_in-append}
use Rattle.ring_log_proof.proofs.KnownGrows.{adopts-grown}
use Rattle.ring_replication.specs.declared.log_watermark.LogWatermark.{LogWatermark}
use Rattle.ring_replication.specs.Replications.{reached_places, watermark_of, watermarks_from, messages_after, watermarks_above, covered_places}

-- no exchange is complete before anything is received
pub complete_exchange-nothing : {A : Type 0} (group : Group) (m : ℕ) → complete_exchange {A = A} group m [] ≡ None
complete_exchange-nothing {A} group m = cond_both (is_primary group m) (complete_exchange_from {A = A} (exchange_opening m) []) None (λ o. o ≡ None) (λ t. refl) (λ f. refl)

some-none : {X : Type 0} (x : X) → Some x ≡ None → ⊥
some-none x e = cc e

-- if all messages complete no exchange, no prefix does
pub none-front : {A : Type 0} (group : Group) (m : ℕ) (xs ys : List (Message A)) → IsListPrefix xs ys → complete_exchange group m ys ≡ None → complete_exchange group m xs ≡ None
none-front {A} group m xs ys f none = by (complete_exchange group m xs) refl
  where
    by : (o : Option (CompleteExchange A)) → complete_exchange group m xs ≡ o → complete_exchange group m xs ≡ None
    by None e = e
    by (Some w) e = absurd (some-none (grown w f.0) (sym (complete_exchange-front group m xs ys w e f) ∙ none))

-- ---- the messages that a mark covers

-- a prefix that a mark covers whole
abbrev pub IsCovered : {A : Type 0} → ℕ → List (Message A) → Type 0
IsCovered mark [] = Unit {0}
IsCovered mark (x ∷ xs) = (nat_le x.number mark ≡ true) × IsCovered mark xs

pub upto-covered_places : {A : Type 0} (mark : ℕ) (front xs : List (Message A)) → IsCovered mark front → messages_upto mark (front ++ xs) ≡ front ++ messages_upto mark xs
upto-covered_places mark [] xs c = refl
upto-covered_places mark (x ∷ front) xs c =
    cond-true (nat_le x.number mark) (x ∷ messages_upto mark (front ++ xs)) [] c.0 ∙ ap (λ l. x ∷ l) (upto-covered_places mark front xs c.1)

pub messages_after-covered_places : {A : Type 0} (mark : ℕ) (front xs : List (Message A)) → IsCovered mark front → messages_after mark (front ++ xs) ≡ messages_after mark xs
messages_after-covered_places mark [] xs c = refl
messages_after-covered_places mark (x ∷ front) xs c =
    cond-true (nat_le x.number mark) (messages_after mark (front ++ xs)) (x ∷ (front ++ xs)) c.0 ∙ messages_after-covered_places mark front xs c.1

-- what a mark covers, each later mark covers
pub covers-upto : {A : Type 0} (mark later : ℕ) (xs : List (Message A)) → mark ≤ later → IsCovered later (messages_upto mark xs)
covers-upto mark later [] le = tt
covers-upto mark later (x ∷ xs) le =
    cond_both (nat_le x.number mark) (x ∷ messages_upto mark xs) [] (IsCovered later)
    (λ t. (le-leb x.number later (omega (arith, leb-true x.number mark t, le)), covers-upto mark later xs le)) (λ f. tt)

-- the two parts are the whole
pub upto-messages_after : {A : Type 0} (mark : ℕ) (xs : List (Message A)) → messages_upto mark xs ++ messages_after mark xs ≡ xs
upto-messages_after mark [] = refl
upto-messages_after mark (x ∷ xs) = by (nat_le x.number mark) (upto-messages_after mark xs)
  where
    by : (b : Bool) → messages_upto mark xs ++ messages_after mark xs ≡ xs → (if b then x ∷ messages_upto mark xs else []) ++ (if b then messages_after mark xs else x ∷ xs) ≡ x ∷ xs
    by true e = ap (λ l. x ∷ l) e
    by false e = refl

-- ---- the watermarks

-- the known log after an epoch, without its safe mark and dropped places
abbrev pub kept_base : {A : Type 0} → RingId → KnownLog A → Option (CompleteExchange A) → KnownLog A
kept_base ring k None = k
kept_base ring k (Some w) = followed_by (adopts k ring w) (calls_in w.rest)

-- the known log as a log with these trimmed and committed lengths
abbrev pub log_with : {A : Type 0} → KnownLog A → ℕ → ℕ → Log A
log_with k trimmed committed = record { trimmed = trimmed; calls = drop (trimmed - k.from) k.calls; committed = committed; last = k.last }

module _ {A : Type 0} (group : Group) (m : ℕ) (ring : RingId) (k : KnownLog A) where
  pub watermarks-push : (front xs : List (Message A)) (x : Message A)
      → watermarks_from group m ring k front (xs ++ x ∷ []) ≡ watermarks_from group m ring k front xs
      ++ record { number = x.number; places = watermark_of group m ring k ((front ++ xs) ++ x ∷ []) } ∷ []
  watermarks-push front [] x =
      ap (λ (l : List (Message A)). record { number = x.number; places = watermark_of group m ring k (l ++ x ∷ []) } ∷ []) (sym (append-nil front))
  watermarks-push front (y ∷ ys) x =
      let one : List (Message A) → LogWatermark = λ l. record { number = x.number; places = watermark_of group m ring k (l ++ x ∷ []) } in
      let first : LogWatermark = record { number = y.number; places = watermark_of group m ring k (front ++ y ∷ []) } in
      ap (λ l. first ∷ l) (watermarks-push (front ++ y ∷ []) ys x
      ∙ ap (λ l. watermarks_from group m ring k (front ++ y ∷ []) ys ++ one l ∷ []) (append_assoc front (y ∷ []) ys))

  reached_places-grows : (xs ys : List (Message A)) (o : Option (CompleteExchange A)) → complete_exchange group m xs ≡ o → IsListPrefix xs ys
      → reached_places ring k o ≤ reached_places ring k (complete_exchange group m ys)
  reached_places-grows xs ys None e f = omega arith
  reached_places-grows xs ys (Some v) e f =
      let now = ap (reached_places ring k) (complete_exchange-front group m xs ys v e f) in
      let same = ap (λ (b : KnownLog A). known_log_length b) (adopts-grown k ring v f.0) in
      let parts = ap length (calls_in-append v.rest f.0) ∙ length-append (calls_in v.rest) (calls_in f.0) in
      omega (arith, now, same, parts)

  pub reach-grows : (xs ys : List (Message A)) → IsListPrefix xs ys → watermark_of group m ring k xs ≤ watermark_of group m ring k ys
  reach-grows xs ys f = reached_places-grows xs ys (complete_exchange group m xs) refl f

  -- the watermarks that a mark leaves
  pub watermarks_above-is : (mark : ℕ) (front xs : List (Message A))
      → watermarks_above mark (watermarks_from group m ring k front xs) ≡ watermarks_from group m ring k (front ++ messages_upto mark xs) (messages_after mark xs)
  watermarks_above-is mark front [] = refl
  watermarks_above-is mark front (x ∷ xs) = by (nat_le x.number mark) (watermarks_above-is mark (front ++ x ∷ []) xs)
    where
      by : (b : Bool)
          → watermarks_above mark (watermarks_from group m ring k (front ++ x ∷ []) xs)
          ≡ watermarks_from group m ring k ((front ++ x ∷ []) ++ messages_upto mark xs) (messages_after mark xs)
          → (if b then watermarks_above mark (watermarks_from group m ring k (front ++ x ∷ []) xs) else watermarks_from group m ring k front (x ∷ xs))
          ≡ watermarks_from group m ring k (front ++ (if b then x ∷ messages_upto mark xs else [])) (if b then messages_after mark xs else x ∷ xs)
      by true e =
          e
          ∙ ap (λ l. watermarks_from group m ring k l (messages_after mark xs)) (append_assoc front (x ∷ []) (messages_upto mark xs))
      by false e = ap (λ l. watermarks_from group m ring k l (x ∷ xs)) (sym (append-nil front))

  -- the places of the last watermark that it covers
  pub covered_places-is : (mark places : ℕ) (front xs : List (Message A))
      → ((messages_upto mark xs ≡ []) × (covered_places mark places (watermarks_from group m ring k front xs) ≡ places))
      ⊎ (covered_places mark places (watermarks_from group m ring k front xs) ≡ watermark_of group m ring k (front ++ messages_upto mark xs))
  covered_places-is mark places front [] = inl (refl, refl)
  covered_places-is mark places front (x ∷ xs) =
      let here = watermark_of group m ring k (front ++ x ∷ []) in
      let rest = watermarks_from group m ring k (front ++ x ∷ []) xs in
      by (nat_le x.number mark) here rest (covered_places-is mark here (front ++ x ∷ []) xs) refl
    where
      by : (b : Bool) (here : ℕ) (rest : List LogWatermark)
          → ((messages_upto mark xs ≡ []) × (covered_places mark here rest ≡ here)) ⊎ (covered_places mark here rest ≡ watermark_of group m ring k ((front ++ x ∷ []) ++ messages_upto mark xs))
          → here ≡ watermark_of group m ring k (front ++ x ∷ [])
          → (((if b then x ∷ messages_upto mark xs else []) ≡ []) × ((if b then covered_places mark here rest else places) ≡ places))
          ⊎ ((if b then covered_places mark here rest else places) ≡ watermark_of group m ring k (front ++ (if b then x ∷ messages_upto mark xs else [])))
      by true here rest (inl none) is =
          inr (none.1 ∙ is ∙ ap (λ l. watermark_of group m ring k (front ++ x ∷ l)) (sym none.0))
      by true here rest (inr some) is = inr (some ∙ ap (watermark_of group m ring k) (append_assoc front (x ∷ []) (messages_upto mark xs)))
      by false here rest c is = inl (refl, refl)

  -- the watermark of a safe prefix is computed from what was adopted
  reach-same : (heard safe : List (Message A)) (w : CompleteExchange A) (p : Option (CompleteExchange A)) → complete_exchange group m heard ≡ Some w → complete_exchange group m safe ≡ p
      → IsListPrefix safe heard → watermark_by (adopts k ring w) p ≡ reached_places ring k p
  reach-same heard safe w None e f is = refl
  reach-same heard safe w (Some v) e f is =
      let grows : Some (grown v is.0) ≡ Some w = sym (complete_exchange-front group m safe heard v f is) ∙ e in
      let same : grown v is.0 ≡ w = cc grows in
      let base : adopts k ring w ≡ adopts k ring v = ap (adopts k ring) (sym same) ∙ adopts-grown k ring v is.0 in
      ap (λ (b : KnownLog A). known_log_length b + length (calls_in v.rest)) base

  -- the log of an epoch, by its base
  pub kept-log : (places : ℕ) (heard safe : List (Message A)) (o p : Option (CompleteExchange A)) → complete_exchange group m heard ≡ o → complete_exchange group m safe ≡ p
      → IsListPrefix safe heard
      → retained_log (dropped_by places (known_log_after_epoch ring k o p))
      ≡ log_with (kept_base ring k o) (max places (kept_base ring k o).trimmed) (max (kept_base ring k o).committed (reached_places ring k p))
  kept-log places heard safe None None e f is =
      let n : k.committed ≡ max k.committed 0 = omega arith in
      ap (log_with k (max places k.trimmed)) n
  kept-log places heard safe None (Some v) e f is = absurd (some-none (grown v is.0) (sym (complete_exchange-front group m safe heard v f is) ∙ e))
  kept-log places heard safe (Some w) p e f is =
      let b = kept_base ring k (Some w) in
      ap (λ n. log_with b (max places b.trimmed) (max b.committed n)) (reach-same heard safe w p e f is)

  -- the watermark of all messages is the whole length, or 0
  pub reach-all : (o : Option (CompleteExchange A)) → reached_places ring k o ≤ known_log_length (kept_base ring k o)
  reach-all None = omega arith
  reach-all (Some w) = omega (arith, length-append (adopts k ring w).calls (calls_in w.rest))

  -- the length of such a log
  pub length-with : (b : KnownLog A) (trimmed committed : ℕ) → b.from ≤ trimmed → trimmed ≤ known_log_length b
      → log_length (log_with b trimmed committed) ≡ known_log_length b
  length-with b trimmed committed low high = omega (arith, low, high, length-drop (trimmed - b.from) b.calls)

-- the log after the newest epoch's mark has covered its messages
pub settled : {A : Type 0} (group : Group) (s : Epoch A) (older : List (Epoch A)) (front xs : List (Message A)) (log : Log A) → front ++ xs ≡ s.heard
    → IsCovered s.mark front
    → let k = known_log_of group older in
    let b = kept_base s.ring k (complete_exchange group s.members s.heard) in
    let t = max s.trimmed b.trimmed in
    b.from ≤ t → t ≤ known_log_length b
    → log ≡ log_with b t (max b.committed (watermark_of group s.members s.ring k front))
    → committed_upto log (covered_places s.mark 0 (watermarks_from group s.members s.ring k front xs)) ≡ retained_log (known_log_of group (s ∷ older))
settled {A} group s older front xs log all is low high stands =
    let k = known_log_of group older in
    let m = s.members in
    let ring = s.ring in
    let o = complete_exchange group m s.heard in
    let b = kept_base ring k o in
    let t = max s.trimmed b.trimmed in
    let old = b.committed in
    let rs = watermarks_from group m ring k front xs in
    let safe = messages_upto s.mark s.heard in
    let safe_is : safe ≡ front ++ messages_upto s.mark xs = ap (messages_upto s.mark) (sym all) ∙ upto-covered_places s.mark front xs is in
    let within : watermark_of group m ring k safe ≤ known_log_length b =
    omega (arith, reach-grows group m ring k safe s.heard (upto-front s.mark s.heard), reach-all group m ring k o) in
    let grows : watermark_of group m ring k front ≤ watermark_of group m ring k safe =
    reach-grows group m ring k front safe (subst (λ l. IsListPrefix front l) (sym safe_is) (prefix_append front (messages_upto s.mark xs))) in
    let first = max old (watermark_of group m ring k front) in
    let long : log_length (log_with b t first) ≡ known_log_length b = length-with group m ring k b t first low high in
    let n : max first (min (covered_places s.mark 0 rs) (log_length (log_with b t first))) ≡ max old (watermark_of group m ring k safe) =
    elim (covered_places-is group m ring k s.mark 0 front xs) as
    (λ _. max first (min (covered_places s.mark 0 rs) (log_length (log_with b t first))) ≡ max old (watermark_of group m ring k safe)) [
      | inl none ↦
          (let same : watermark_of group m ring k safe ≡ watermark_of group m ring k front =
          ap (watermark_of group m ring k) (safe_is ∙ ap (λ l. front ++ l) none.0 ∙ append-nil front) in
          omega (arith, none.1, same))
      | inr some ↦
          (let there : covered_places s.mark 0 rs ≡ watermark_of group m ring k safe = some ∙ ap (watermark_of group m ring k) (sym safe_is) in
          omega (arith, there, within, grows, long))
    ] in
    ap (λ (l : Log A). committed_upto l (covered_places s.mark 0 rs)) stands
    ∙ ap (log_with b t) n
    ∙ sym (kept-log group m ring k s.trimmed s.heard safe o (complete_exchange group m safe) refl refl (upto-front s.mark s.heard))

-- and the watermarks that it leaves
pub watermarks_above-settled : {A : Type 0} (group : Group) (s : Epoch A) (k : KnownLog A) (front xs : List (Message A))
    → front ++ xs ≡ s.heard → IsCovered s.mark front
    → watermarks_above s.mark (watermarks_from group s.members s.ring k front xs) ≡ watermarks_from group s.members s.ring k (messages_upto s.mark s.heard) (messages_after s.mark s.heard)
watermarks_above-settled group s k front xs all is =
    watermarks_above-is group s.members s.ring k s.mark front xs
    ∙ ap (λ l. watermarks_from group s.members s.ring k l (messages_after s.mark xs)) (sym (upto-covered_places s.mark front xs is))
    ∙ ap (λ l. watermarks_from group s.members s.ring k (messages_upto s.mark (front ++ xs)) l) (sym (messages_after-covered_places s.mark front xs is))
    ∙ ap (λ l. watermarks_from group s.members s.ring k (messages_upto s.mark l) (messages_after s.mark l)) all
