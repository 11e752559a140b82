-- A complete exchange is the same after more messages, so a ring's log only grows. The logs after two prefixes of one text are
-- prefixes of one list.
use Rattle.std.proofs.Common.{if◌then◌else◌, ◌≡◌, ℕ, ◌≤◌, Bool, true, false, List, [], ◌∷◌, ◌++◌, length, Some, None, ◌⊎◌, refl, ap, sym}
use Rattle.std.proofs.Common.{◌∙◌, subst, append_assoc}
use Rattle.std.specs.Prelude.{nat_le}
use Rattle.std.proofs.lemmas.Bool.{cond_both}
use Rattle.ring_base.proofs.Cases.{guarded_some}
use Rattle.ring_base.specs.Prefixes.{IsListPrefix, prefix_shorter}
use Rattle.ring_base.specs.Group.{Group, IsPrimary, is_primary}
use Rattle.ring_base.specs.Primaries.{primary_tested}
use Rattle.ring_base.proofs.ListFronts.{front-either}
use Rattle.ring_payload.specs.declared.call.Call.{Call as OneCall}
use Rattle.ring_payload.specs.PayloadKinds.{calls_of}
use Rattle.ring_log.specs.Messages.{Message}
use Rattle.ring_log.specs.Exchanges.{Exchange, exchange_opening, is_exchange_complete}
use Rattle.ring_log.specs.EpochHistories.{CompleteExchange, exchange_after_message, complete_exchange_from, exchange_after_messages, complete_exchange, calls_in, messages_upto}

-- the same exchange, with more messages after it
abbrev pub grown : {A : Type 0} → CompleteExchange A → List (Message A) → CompleteExchange A
grown w more = record { exchange = w.exchange; end = w.end; rest = w.rest ++ more }

-- the messages that completed an exchange, as a prefix of all messages received
pub record WholeBy {A : Type 0} (e : Exchange A) (xs : List (Message A)) (w : CompleteExchange A) : Type 0 where
  pub front : List (Message A)
  pub parts : front ++ w.rest ≡ xs
  pub after : w.exchange ≡ exchange_after_messages e front
  pub whole : is_exchange_complete w.exchange ≡ true

pub whole_by : {A : Type 0} (e : Exchange A) (xs : List (Message A)) (w : CompleteExchange A) → complete_exchange_from e xs ≡ Some w → WholeBy e xs w
whole_by e [] w h = absurd (cc h)
whole_by {A} e (x ∷ xs) w h =
    let here : CompleteExchange A = record { exchange = exchange_after_message e x; end = x.number; rest = xs } in
    cond_both (is_exchange_complete (exchange_after_message e x)) (Some here) (complete_exchange_from (exchange_after_message e x) xs) (λ o. o ≡ Some w → WholeBy e (x ∷ xs) w)
    (λ t k.
    let same : here ≡ w = cc k in
    record {
      front = x ∷ [];
      parts = ap (λ (v : CompleteExchange A). x ∷ v.rest) (sym same);
      after = ap (λ (v : CompleteExchange A). v.exchange) (sym same);
      whole = subst (λ (v : CompleteExchange A). is_exchange_complete v.exchange ≡ true) same t;
    })
    (λ f k.
    let r = whole_by (exchange_after_message e x) xs w k in
    record { front = x ∷ r.front; parts = ap (λ l. x ∷ l) r.parts; after = r.after; whole = r.whole })
    h

whole-append-step : {A : Type 0} (e : Exchange A) (x : Message A) (xs more : List (Message A)) (w : CompleteExchange A) (b : Bool)
    → (if b then Some (record { exchange = e; end = x.number; rest = xs }) else complete_exchange_from e xs) ≡ Some w
    → (complete_exchange_from e xs ≡ Some w → complete_exchange_from e (xs ++ more) ≡ Some (grown w more))
    → (if b then Some (record { exchange = e; end = x.number; rest = xs ++ more }) else complete_exchange_from e (xs ++ more)) ≡ Some (grown w more)
whole-append-step {A} e x xs more w true h later = let same : record { exchange = e; end = x.number; rest = xs } ≡ w =
    cc h in ap (λ (v : CompleteExchange A). Some (grown v more)) same
whole-append-step e x xs more w false h later = later h

whole-append : {A : Type 0} (e : Exchange A) (xs more : List (Message A)) (w : CompleteExchange A) → complete_exchange_from e xs ≡ Some w → complete_exchange_from e (xs ++ more)
    ≡ Some (grown w more)
whole-append e [] more w h = absurd (cc h)
whole-append e (x ∷ xs) more w h = whole-append-step (exchange_after_message e x) x xs more w (is_exchange_complete (exchange_after_message e x)) h (whole-append (exchange_after_message e x) xs more w)

-- the same, if the first messages are a prefix of the second
pub whole-front : {A : Type 0} (e : Exchange A) (xs ys : List (Message A)) (w : CompleteExchange A) → complete_exchange_from e xs ≡ Some w → (f : IsListPrefix xs ys)
    → complete_exchange_from e ys ≡ Some (grown w f.0)
whole-front e xs ys w h f = subst (λ l. complete_exchange_from e l ≡ Some (grown w f.0)) f.1 (whole-append e xs f.0 w h)

-- The exchange of a ring

-- only a primary ring has one
pub complete_exchange-primary : {A : Type 0} (group : Group) (m : ℕ) (xs : List (Message A)) (w : CompleteExchange A) → complete_exchange group m xs ≡ Some w → IsPrimary group m
complete_exchange-primary group m xs w h = (primary_tested group m).0 (guarded_some (is_primary group m) (complete_exchange_from (exchange_opening m) xs) w h).0

pub complete_exchange-from : {A : Type 0} (group : Group) (m : ℕ) (xs : List (Message A)) (w : CompleteExchange A) → complete_exchange group m xs ≡ Some w
    → complete_exchange_from (exchange_opening m) xs ≡ Some w
complete_exchange-from group m xs w h = (guarded_some (is_primary group m) (complete_exchange_from (exchange_opening m) xs) w h).1

pub complete_exchange-whole : {A : Type 0} (group : Group) (m : ℕ) (xs : List (Message A)) (w : CompleteExchange A) → complete_exchange group m xs ≡ Some w → WholeBy (exchange_opening m) xs w
complete_exchange-whole group m xs w h = whole_by (exchange_opening m) xs w (guarded_some (is_primary group m) (complete_exchange_from (exchange_opening m) xs) w h).1

complete_exchange-append : {A : Type 0} (group : Group) (m : ℕ) (xs more : List (Message A)) (w : CompleteExchange A) → complete_exchange group m xs ≡ Some w
    → complete_exchange group m (xs ++ more) ≡ Some (grown w more)
complete_exchange-append group m xs more w h =
    cond_both (is_primary group m) (complete_exchange_from (exchange_opening m) (xs ++ more)) None (λ o. o ≡ Some (grown w more))
    (λ t. whole-append (exchange_opening m) xs more w (guarded_some (is_primary group m) (complete_exchange_from (exchange_opening m) xs) w h).1)
    (λ f. absurd (let y : true ≡ false = sym (guarded_some (is_primary group m) (complete_exchange_from (exchange_opening m) xs) w h).0 ∙ f in cc y))

-- the same, if the first messages are a prefix of the second
pub complete_exchange-front : {A : Type 0} (group : Group) (m : ℕ) (xs ys : List (Message A)) (w : CompleteExchange A) → complete_exchange group m xs ≡ Some w → (f : IsListPrefix xs ys)
    → complete_exchange group m ys ≡ Some (grown w f.0)
complete_exchange-front group m xs ys w h f = subst (λ l. complete_exchange group m l ≡ Some (grown w f.0)) f.1 (complete_exchange-append group m xs f.0 w h)

pub calls_in-append : {A : Type 0} (xs ys : List (Message A)) → calls_in (xs ++ ys) ≡ calls_in xs ++ calls_in ys
calls_in-append [] ys = refl
calls_in-append (x ∷ xs) ys = ap (λ l. calls_of x.payload ++ l) (calls_in-append xs ys) ∙ sym (append_assoc (calls_of x.payload) (calls_in xs) (calls_in ys))

-- Logs: a base for the exchange, and the calls after it

abbrev pub log_on : {A : Type 0} → (Exchange A → List (OneCall A)) → CompleteExchange A → List (OneCall A)
log_on base w = base w.exchange ++ calls_in w.rest

-- the log begins with its base
pub base-front : {A : Type 0} (base : Exchange A → List (OneCall A)) (w : CompleteExchange A) → IsListPrefix (base w.exchange) (log_on base w)
base-front base w = (calls_in w.rest, refl)

pub grown-front : {A : Type 0} (base : Exchange A → List (OneCall A)) (w : CompleteExchange A) (more : List (Message A))
    → IsListPrefix (log_on base w) (log_on base (grown w more))
grown-front base w more = (
  calls_in more,
  append_assoc (base w.exchange) (calls_in w.rest) (calls_in more)
      ∙ ap (λ l. base w.exchange ++ l) (sym (calls_in-append w.rest more)),
)

-- with more messages the log is longer
pub log-front : {A : Type 0} (base : Exchange A → List (OneCall A)) (group : Group) (m : ℕ) (xs ys : List (Message A)) (v w : CompleteExchange A)
    → complete_exchange group m xs ≡ Some v → complete_exchange group m ys ≡ Some w
    → IsListPrefix xs ys → IsListPrefix (log_on base v) (log_on base w)
log-front {A} base group m xs ys v w hv hw f =
    let same : grown v f.0 ≡ w = let e : Some (grown v f.0) ≡ Some w = sym (complete_exchange-front group m xs ys v hv f) ∙ hw in cc e in
    subst (λ (u : CompleteExchange A). IsListPrefix (log_on base v) (log_on base u)) same (grown-front base v f.0)

-- of two logs of one text, the shorter is a prefix of the longer
pub logs-shorter : {A : Type 0} (base : Exchange A → List (OneCall A)) (group : Group) (m : ℕ) (xs ys text : List (Message A)) (v w : CompleteExchange A)
    → complete_exchange group m xs ≡ Some v → complete_exchange group m ys ≡ Some w
    → IsListPrefix xs text → IsListPrefix ys text → length (log_on base v) ≤ length (log_on base w) → IsListPrefix (log_on base v) (log_on base w)
logs-shorter base group m xs ys text v w hv hw fx fy le =
    let long = log-front base group m xs text v (grown v fx.0) hv (complete_exchange-front group m xs text v hv fx) fx in
    let other = log-front base group m ys text w (grown v fx.0) hw (complete_exchange-front group m xs text v hv fx) fy in
    prefix_shorter (log_on base v) (log_on base w) (log_on base (grown v fx.0)) long other le

pub logs-either : {A : Type 0} (base : Exchange A → List (OneCall A)) (group : Group) (m : ℕ) (xs ys text : List (Message A)) (v w : CompleteExchange A)
    → complete_exchange group m xs ≡ Some v → complete_exchange group m ys ≡ Some w
    → IsListPrefix xs text → IsListPrefix ys text → IsListPrefix (log_on base v) (log_on base w) ⊎ IsListPrefix (log_on base w) (log_on base v)
logs-either base group m xs ys text v w hv hw fx fy =
    let there = complete_exchange-front group m xs text v hv fx in
    front-either (log_on base v) (log_on base w) (log_on base (grown v fx.0))
    (log-front base group m xs text v (grown v fx.0) hv there fx) (log-front base group m ys text w (grown v fx.0) hw there fy)

-- the messages up to a number are a prefix of all messages
pub upto-front : {A : Type 0} (mark : ℕ) (xs : List (Message A)) → IsListPrefix (messages_upto mark xs) xs
upto-front mark [] = ([], refl)
upto-front mark (x ∷ xs) =
    cond_both (nat_le x.number mark) (x ∷ messages_upto mark xs) [] (λ l. IsListPrefix l (x ∷ xs))
    (λ t. (let f = upto-front mark xs in (f.0, ap (λ l. x ∷ l) f.1))) (λ f. (x ∷ xs, refl))
