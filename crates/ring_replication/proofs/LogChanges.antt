-- The committed places of a log that changes, and the pending calls that are due.
use Rattle.std.proofs.Common.{◌&&◌, ◌≡◌, ℕ, ◌+◌, ◌-◌, min, max, Bool, true, false, List, ◌++◌, length}
use Rattle.std.proofs.Common.{take, Option, Some, None, refl, ap, sym, ◌∙◌, subst, arith, append_assoc, if◌then◌else◌}
use Rattle.std.specs.Prelude.{Result, OnOk, OnErr, nat_le, nat_lt, is_some, unwrap_or, ◌||◌}
use Rattle.std.proofs.lemmas.Bool.{and_parts, cond-true, cond-false}
use Rattle.std.proofs.lemmas.List.{length-take}
use Rattle.ring_base.specs.Prefixes.{IsListPrefix, prefix_self}
use Rattle.ring_base.specs.declared.ring_id.RingId.{RingId}
use Rattle.ring_base.proofs.ListFronts.{take-longer_list, take-append-front}
use Rattle.ring_base.proofs.Results.{on-ok, ok_or_err}
use Rattle.ring_payload.specs.declared.call.Call.{Call as OneCall}
use Rattle.ring_payload.specs.declared.content.Payload.{Payload}
use Rattle.ring_log.specs.declared.base.Base.{Base}
use Rattle.ring_log.specs.declared.wanted.Wanted.{Wanted}
use Rattle.ring_log.specs.declared.adoption.Adoption.TheVariants.{Refused, Joined, Restored}
use Rattle.ring_log.specs.Adoptions.{restored_with, adoption}
use Rattle.ring_log.specs.Logs.{Log, log_length, appended, log_with_calls_if_room, calls_after_base, restores, restored_log, joined_log, log_after_base, log_after_base_if_may, begins, is_log_length}
use Rattle.ring_log.specs.Logs.{is_adoptable, committed_upto, committed_calls}
use Rattle.ring_log.proofs.Calls.{begins-Decides}
use Rattle.ring_session.specs.declared.pending_ticket.PendingTicket.{PendingTicket}
use Rattle.ring_replication.specs.Replications.{HeldLog, held_log_restored, held_log_adopted, if_runs, owner_asked, fits_if, calls_if}
use Rattle.ring_replication.specs.declared.delivery_context.DeliveryContext.{DeliveryContext}

-- ---- the committed places

grows-appended : {A : Type 0} (log : Log A) (more : List (OneCall A)) → IsListPrefix (committed_calls log) (committed_calls (appended log more))
grows-appended log more = take-append-front (log.committed - log.trimmed) log.calls more

pub grows-followed : {A : Type 0} (log : Log A) (more : List (OneCall A)) → IsListPrefix (committed_calls log) (committed_calls (log_with_calls_if_room log more))
grows-followed {A} log more = by (is_log_length (log_length log + length more))
  where
    by : (b : Bool) → IsListPrefix (committed_calls log) (committed_calls (if b then appended log more else log))
    by true = grows-appended log more
    by false = prefix_self (committed_calls log)

pub grows-raised : {A : Type 0} (log : Log A) (n : ℕ) → IsListPrefix (committed_calls log) (committed_calls (committed_upto log n))
grows-raised log n =
    take-longer_list (log.committed - log.trimmed) (max log.committed (min n (log_length log)) - log.trimmed) log.calls (omega arith)

-- a base that begins with them is joined
grows-joined : {A : Type 0} (log : Log A) (ring : RingId) (base : Base A) → begins (committed_calls log) (calls_after_base log base) ≡ true
    → IsListPrefix (committed_calls log) (committed_calls (joined_log log ring base))
grows-joined log ring base may =
    let first = committed_calls log in
    let calls = calls_after_base log base in
    let same : first ≡ take (length first) calls = (begins-Decides first calls).0 may in
    subst (λ w. IsListPrefix w (take (log.committed - log.trimmed) calls)) (sym same)
    (take-longer_list (length first) (log.committed - log.trimmed) calls (let l = length-take (log.committed - log.trimmed) log.calls in omega (arith, l)))

-- the reported committed places of a stored log
pub told-front : {A : Type 0} (before : Option (Log A)) (old new : Log A) → IsListPrefix (committed_calls old) (committed_calls new)
    → IsListPrefix (committed_calls (unwrap_or before old)) (committed_calls (unwrap_or before new))
told-front None old new f = f
told-front (Some log) old new f = prefix_self (committed_calls log)

-- calls are appended, if there is room for them
pub held-followed : {A : Type 0} (h : HeldLog A) (log : Log A) (calls : List (OneCall A)) → log ≡ log_with_calls_if_room h.log calls
    → is_log_length (log_length h.log + length calls) ≡ true → record h { log = log } ≡ record h { log = appended h.log calls }
held-followed {A} h log calls is fits =
    ap (λ (l : Log A). record h { log = l }) (is ∙ cond-true (is_log_length (log_length h.log + length calls)) (appended h.log calls) h.log fits)

pub front-followed : {A X E : Type 0} (r : Result X E) (before : Option (Log A)) (old new : Log A) (calls : List (OneCall A))
    → OnOk r (new ≡ log_with_calls_if_room old calls) → OnErr r (new ≡ old) → IsListPrefix (committed_calls (unwrap_or before old)) (committed_calls (unwrap_or before new))
front-followed {A} r before old new calls ok err =
    told-front before old new
    (ok_or_err (λ (l : Log A). IsListPrefix (committed_calls old) (committed_calls l)) r new (log_with_calls_if_room old calls) old ok err (grows-followed old calls)
    (prefix_self (committed_calls old)))

-- more is committed
pub front-raised : {A : Type 0} (before : Option (Log A)) (old new : Log A) (n : ℕ) → new ≡ committed_upto old n
    → IsListPrefix (committed_calls (unwrap_or before old)) (committed_calls (unwrap_or before new))
front-raised {A} before old new n is =
    told-front before old new (subst (λ (l : Log A). IsListPrefix (committed_calls old) (committed_calls l)) (sym is) (grows-raised old n))

-- ---- a base that is adopted, or isn't

-- the outcome of the log's own adoption
pub refused-is : {A : Type 0} (log : Log A) (base : Base A) → Refused ≡ adoption log base → is_adoptable log base ≡ false
refused-is {A} log base e = by (is_adoptable log base) (restores log base) base.snapshot refl refl e
  where
    by : (b c : Bool) (o : Option (List ℕ)) → restores log base ≡ c → base.snapshot ≡ o
        → Refused ≡ (if b then (if c then restored_with log o else Joined) else Refused) → b ≡ false
    by true true None r s e = absurd (cc e)
    by true true (Some bytes) r s e = absurd (cc e)
    by true false o r s e = absurd (cc e)
    by false c o r s e = refl

some-snapshot : {A : Type 0} (log : Log A) (base : Base A) → base.snapshot ≡ None → restores log base ≡ true → ⊥
some-snapshot log base none may =
    let y = sym (and_parts (is_some base.snapshot) (nat_lt log.committed base.from) may).0 ∙ ap is_some none in cc y

pub record IsJoined {A : Type 0} (log : Log A) (base : Base A) : Type 0 where
  pub may : is_adoptable log base ≡ true
  pub keeps : restores log base ≡ false

pub joined-is : {A : Type 0} (log : Log A) (base : Base A) → Joined ≡ adoption log base → IsJoined log base
joined-is {A} log base e = by (is_adoptable log base) (restores log base) base.snapshot refl refl refl e
  where
    by : (b c : Bool) (o : Option (List ℕ)) → is_adoptable log base ≡ b → restores log base ≡ c → base.snapshot ≡ o
        → Joined ≡ (if b then (if c then restored_with log o else Joined) else Refused) → IsJoined log base
    by true true None m r s e = absurd (some-snapshot log base s r)
    by true true (Some bytes) m r s e = absurd (cc e)
    by true false o m r s e = record { may = m; keeps = r }
    by false c o m r s e = absurd (cc e)

pub record IsRestored {A : Type 0} (log : Log A) (base : Base A) (bytes : List ℕ) (was : Log A) : Type 0 where
  pub may : is_adoptable log base ≡ true
  pub behind : restores log base ≡ true
  pub snapshot : base.snapshot ≡ Some bytes
  pub before : was ≡ log

pub restored-is : {A : Type 0} (log : Log A) (base : Base A) (bytes : List ℕ) (before : Log A) → Restored bytes before ≡ adoption log base
    → IsRestored log base bytes before
restored-is {A} log base bytes before e = by (is_adoptable log base) (restores log base) base.snapshot refl refl refl e
  where
    by : (b c : Bool) (o : Option (List ℕ)) → is_adoptable log base ≡ b → restores log base ≡ c → base.snapshot ≡ o
        → Restored bytes before ≡ (if b then (if c then restored_with log o else Joined) else Refused) → IsRestored log base bytes before
    by true true None m r s e = absurd (some-snapshot log base s r)
    by true true (Some sent) m r s e =
        let same : bytes ≡ sent = cc e in
        let was : before ≡ log = cc e in
        record { may = m; behind = r; snapshot = s ∙ ap (λ (bs : List ℕ). Some bs) (sym same); before = was }
    by true false o m r s e = absurd (cc e)
    by false c o m r s e = absurd (cc e)

-- the log after joining
log-joined : {A : Type 0} (log : Log A) (ring : RingId) (base : Base A) → IsJoined log base → log_after_base_if_may log ring base ≡ joined_log log ring base
log-joined log ring base j =
    cond-true (is_adoptable log base) (log_after_base log ring base) log j.may
    ∙ cond-false (restores log base) (restored_log log ring base) (joined_log log ring base) j.keeps

pub held-joined : {A : Type 0} (h : HeldLog A) (ring : RingId) (base : Base A) (log : Log A) → IsJoined h.log base → log ≡ log_after_base_if_may h.log ring base
    → record h { log = log } ≡ held_log_adopted h ring base
held-joined h ring base log j is =
    ap (λ l. record h { log = l }) (is ∙ log-joined h.log ring base j)
    ∙ sym (cond-false (restores h.log base) (held_log_restored h (restored_log h.log ring base) base.snapshot) (record h { log = joined_log h.log ring base })
    j.keeps)

pub held-restored : {A : Type 0} (h : HeldLog A) (ring : RingId) (base : Base A) (log before : Log A) (bytes : List ℕ) → IsRestored h.log base bytes before
    → log ≡ log_after_base_if_may h.log ring base
    → record { log = log; before = Some (unwrap_or h.before before); snapshot = bytes } ≡ held_log_adopted h ring base
held-restored {A} h ring base log before bytes r is =
    let log_is : log ≡ restored_log h.log ring base =
    is ∙ cond-true (is_adoptable h.log base) (log_after_base h.log ring base) h.log r.may
    ∙ cond-true (restores h.log base) (restored_log h.log ring base) (joined_log h.log ring base) r.behind in
    let bytes_are : bytes ≡ unwrap_or base.snapshot h.snapshot = sym (ap (λ (o : Option (List ℕ)). unwrap_or o h.snapshot) r.snapshot) in
    let of : Log A → Log A → List ℕ → HeldLog A = λ l b bs. record { log = l; before = Some (unwrap_or h.before b); snapshot = bs } in
    ap (λ l. of l before bytes) log_is ∙ ap (λ b. of (restored_log h.log ring base) b bytes) r.before ∙ ap (of (restored_log h.log ring base) h.log) bytes_are
    ∙ sym (cond-true (restores h.log base) (held_log_restored h (restored_log h.log ring base) base.snapshot) (record h { log = joined_log h.log ring base })
    r.behind)

-- the committed places after joining
pub front-joined : {A : Type 0} (log new : Log A) (ring : RingId) (base : Base A) → IsJoined log base → new ≡ log_after_base_if_may log ring base
    → IsListPrefix (committed_calls log) (committed_calls new)
front-joined log new ring base j is =
    let either = and_parts (restores log base || (nat_le base.from log.committed && begins (committed_calls log) (calls_after_base log base)))
    (is_log_length (base.from + length base.calls)) j.may in
    let goes : (nat_le base.from log.committed && begins (committed_calls log) (calls_after_base log base)) ≡ true =
    ap (λ c. c || (nat_le base.from log.committed && begins (committed_calls log) (calls_after_base log base))) (sym j.keeps) ∙ either.0 in
    subst (λ l. IsListPrefix (committed_calls log) (committed_calls l)) (sym (is ∙ log-joined log ring base j))
    (grows-joined log ring base (and_parts (nat_le base.from log.committed) (begins (committed_calls log) (calls_after_base log base)) goes).1)

pub front-refused : {A : Type 0} (log new : Log A) (ring : RingId) (base : Base A) → is_adoptable log base ≡ false → new ≡ log_after_base_if_may log ring base
    → IsListPrefix (committed_calls log) (committed_calls new)
front-refused log new ring base f is =
    subst (λ l. IsListPrefix (committed_calls log) (committed_calls l)) (sym (is ∙ cond-false (is_adoptable log base) (log_after_base log ring base) log f))
    (prefix_self (committed_calls log))

-- ---- the pending calls

-- the owner's places come before the calls
pub due-together : {A X E : Type 0} (delivery_context : DeliveryContext) (pending : List (PendingTicket A)) (h : HeldLog A) (r : Result X E) (b b' : Option (Base A))
    (v v' w w' : Option Wanted) (old mid new : List (Payload A)) → b ≡ b' → v ≡ v' → w ≡ w'
    → mid ≡ old ++ if_runs delivery_context.runs (owner_asked delivery_context.me h v w)
    → OnOk r (fits_if h.log b ≡ true → new ≡ mid ++ calls_if delivery_context pending h b)
    → OnOk r (fits_if h.log b' ≡ true → new ≡ old ++ (if_runs delivery_context.runs (owner_asked delivery_context.me h v' w') ++ calls_if delivery_context pending h b'))
due-together {A} delivery_context pending h r b b' v v' w w' old mid new eb ev ew first then_calls =
    let parts : Option Wanted → Option Wanted → List (Payload A) = λ x y. if_runs delivery_context.runs (owner_asked delivery_context.me h x y) in
    let calls : Option (Base A) → List (Payload A) = λ x. calls_if delivery_context pending h x in
    on-ok r (fits_if h.log b ≡ true → new ≡ mid ++ calls b) (fits_if h.log b' ≡ true → new ≡ old ++ (parts v' w' ++ calls b'))
    (λ g fits. g (ap (fits_if h.log) eb ∙ fits) ∙ ap (λ l. l ++ calls b) first ∙ append_assoc old (parts v w) (calls b)
    ∙ ap (λ x. old ++ (parts x w ++ calls b)) ev ∙ ap (λ x. old ++ (parts v' x ++ calls b)) ew ∙ ap (λ x. old ++ (parts v' w' ++ calls x)) eb)
    then_calls
