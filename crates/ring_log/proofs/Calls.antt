-- Lists of calls that begin others, compared one by one; and the committed places of a log as it changes.
use Rattle.std.proofs.Common.{◌≡◌, ℕ, zero, suc, ◌+◌, ◌-◌, ◌<◌, ◌≤◌, ◌&&◌, min, max, Bool, true, false, List, []}
use Rattle.std.proofs.Common.{◌∷◌, ◌++◌, length, take, drop, ◌↔◌, IsTrue, Some, refl, ap, sym, ◌∙◌, subst, arith, length-append, inl}
use Rattle.std.proofs.Common.{inr}
use Rattle.std.specs.Prelude.{nat_le, nat_lt, is_some, ◌||◌}
use Rattle.std.specs.Bool.{Decides, one_answer}
use Rattle.std.specs.Cmp.Lexicographic.{pointwise_decides}
use Rattle.std.proofs.lemmas.Bool.{cases_lt, and_parts, cond_both, ltb-true, leb-true}
use Rattle.std.proofs.lemmas.List.{append-nil, take-append-drop, take-append-le, length-take, length-take-le, length-drop, drop_all, take_rest}
use Rattle.ring_base.specs.Prefixes.{IsListPrefix}
use Rattle.ring_base.specs.Numbers.{max_number}
use Rattle.ring_base.specs.declared.ring_id.RingId.{RingId}
use Rattle.ring_base.proofs.ListFronts.{take-longer_list, taken-front, take-whole}
use Rattle.ring_wire.specs.Payloads.{Call as OneCall, is_same, is_same-true, is_same-self}
use Rattle.ring_log.specs.declared.base.Base.{Base}
use Rattle.ring_log.specs.Logs.{Log, log_length, appended, log_with_calls_if_room, calls_after_base, restores, restored_log, joined_log, log_after_base, log_after_base_if_may, trimmed_log}
use Rattle.ring_log.specs.Logs.{committed_upto, committed_calls, begins, is_log_length, is_adoptable, IsKeptLog, IsLog, KeepsCommitted}

-- ---- one call

is_same-equal : {A : Type 0} (c d : OneCall A) → c ≡ d → is_same d c ≡ true
is_same-equal c d e = ap (λ x. is_same x c) (sym e) ∙ is_same-self c

-- ---- lists of calls

-- the test holds exactly if the first list begins the second
pub begins-Decides : {A : Type 0} (front calls : List (OneCall A)) → Decides (begins front calls) (front ≡ take (length front) calls)
begins-Decides front calls = pointwise_decides (λ c d. (is_same-true d c, is_same-equal c d)) front (take (length front) calls)

-- places that a log keeps needn't be compared
pub begins-kept : {A : Type 0} (committed from : ℕ) (own calls : List (OneCall A))
    → begins (take committed own) (take from own ++ calls) ≡ begins (drop from (take committed own)) calls
begins-kept zero zero own calls = refl
begins-kept zero (suc from) [] calls = refl
begins-kept zero (suc from) (c ∷ own) calls = refl
begins-kept (suc committed) zero [] calls = refl
begins-kept (suc committed) zero (c ∷ own) calls = refl
begins-kept (suc committed) (suc from) [] calls = refl
begins-kept (suc committed) (suc from) (c ∷ own) calls =
    ap (λ b. b && begins (take committed own) (take from own ++ calls)) (is_same-self c) ∙ begins-kept committed from own calls

-- dropping more places than a list has drops all of it
pub drop-min : {X : Type 0} (n : ℕ) (xs : List X) → drop (min (length xs) n) xs ≡ drop n xs
drop-min n xs =
    elim (cases_lt n (length xs)) [
      | inl within ↦ (let e : min (length xs) n ≡ n = omega arith in ap (λ k. drop k xs) e)
      | inr past ↦ (let e : min (length xs) n ≡ length xs = omega arith in ap (λ k. drop k xs) e ∙ drop_all (length xs) xs (omega arith) ∙ sym
          (drop_all n xs (omega (arith, past))))
    ]

pub drop_least : {X : Type 0} (n long start : ℕ) (xs rest : List X) → long ≡ length xs → start ≡ min long n → rest ≡ drop start xs → rest ≡ drop n xs
drop_least n long start xs rest is_long is_start is =
    is ∙ ap (λ k. drop k xs) (is_start ∙ ap (λ k. min k n) is_long) ∙ drop-min n xs

-- ---- the code's comparisons

-- only the places that the log doesn't keep are compared, and only with those that it takes
pub begins_based : {A : Type 0} (n m gone same dropped : ℕ) (own front calls received_calls : List (OneCall A)) (r : Bool)
    → front ≡ take n own → same ≡ min (length front) m → received_calls ≡ calls → dropped ≡ min (length received_calls) gone
    → r ≡ begins (take (length front - same) (drop same front)) (take (length received_calls - dropped) (drop dropped received_calls))
    → r ≡ begins (take n own) (take m own ++ drop gone calls)
begins_based n m gone same dropped own front calls received_calls r is_front is_rest has_all_wanted is_dropped is =
    let rest : take (length front - same) (drop same front) ≡ drop m (take n own) =
    take_rest front same ∙ ap (λ k. drop k front) is_rest ∙ drop-min m front ∙ ap (drop m) is_front in
    let taken : take (length received_calls - dropped) (drop dropped received_calls) ≡ drop gone calls =
    take_rest received_calls dropped ∙ ap (λ k. drop k received_calls) is_dropped ∙ drop-min gone received_calls ∙ ap (drop gone) has_all_wanted in
    is ∙ ap (λ w. begins w (take (length received_calls - dropped) (drop dropped received_calls))) rest ∙ ap (begins (drop m (take n own))) taken
    ∙ sym (begins-kept n m own (drop gone calls))

-- a test of prefixes is the definition's
pub begins-same : {A : Type 0} (front calls : List (OneCall A)) (r : Bool) → (IsTrue r ↔ IsListPrefix front calls) → r ≡ begins front calls
begins-same front calls r tells =
    one_answer r (begins front calls) (
      λ is. sym (take-whole front calls (tells.0 is)),
      λ same. tells.1 (subst (λ xs. IsListPrefix xs calls) (sym same) (taken-front (length front) calls)),
    ) (begins-Decides front calls)

pub never : (b : Bool) → (b ≡ true → ⊥) → b ≡ false
never true not = absurd (not refl)
never false not = refl

-- ---- the committed places

pub committed-first : {A : Type 0} (log : Log A) → IsLog log
    → IsListPrefix (committed_calls log) log.calls × (log.trimmed + length (committed_calls log) ≡ log.committed)
committed-first log is =
    let n = log.committed - log.trimmed in
    let long = length-take-le n log.calls (omega (arith, is.0, is.1)) in
    ((drop n log.calls, take-append-drop n log.calls), omega (arith, long, is.0))

front-same : {X : Type 0} (xs ys : List X) → xs ≡ ys → IsListPrefix xs ys
front-same xs ys same = ([], append-nil xs ∙ same)

-- the case in which no further places are dropped
stays : {A : Type 0} (old new : Log A) → old.trimmed ≡ new.trimmed → IsLog new → old.committed ≤ new.committed
    → IsListPrefix (committed_calls old) (committed_calls new) → KeepsCommitted old new
stays old new same is le front =
    let none : new.trimmed - old.trimmed ≡ 0 = omega (arith, same) in
    record {
      log = is;
      trimmed = omega (arith, same);
      committed = le;
      front = subst (λ n. IsListPrefix (drop n (committed_calls old)) (committed_calls new)) (sym none) front;
    }

committed-appended : {A : Type 0} (log : Log A) (calls : List (OneCall A)) → IsLog log → KeepsCommitted log (appended log calls)
committed-appended log calls is =
    let long = length-append log.calls calls in
    stays log (appended log calls) refl (is.0, omega (arith, is.1, long)) (omega arith)
    (front-same (committed_calls log) (committed_calls (appended log calls))
    (sym (take-append-le (log.committed - log.trimmed) log.calls calls (omega (arith, is.1)))))

committed-same : {A : Type 0} (log : Log A) → IsLog log → KeepsCommitted log log
committed-same log is = stays log log refl is (omega arith) (front-same (committed_calls log) (committed_calls log) refl)

pub committed-followed : {A : Type 0} (log : Log A) (calls : List (OneCall A)) → IsLog log → KeepsCommitted log (log_with_calls_if_room log calls)
committed-followed log calls is =
    cond_both (is_log_length (log_length log + length calls)) (appended log calls) log (KeepsCommitted log) (λ t. committed-appended log calls is)
    (λ f. committed-same log is)

pub committed-raised : {A : Type 0} (log : Log A) (n : ℕ) → IsLog log → KeepsCommitted log (committed_upto log n)
committed-raised log n is =
    let new = committed_upto log n in
    stays log new refl (omega (arith, is.0), omega (arith, is.1)) (omega arith)
    (take-longer_list (log.committed - log.trimmed) (new.committed - log.trimmed) log.calls (omega arith))

-- only committed places are dropped
pub committed-dropped : {A : Type 0} (log : Log A) → IsLog log → KeepsCommitted log (trimmed_log log)
committed-dropped log is =
    let n = log.committed - log.trimmed in
    let left = length-drop n log.calls in
    let none : drop n (committed_calls log) ≡ [] =
    drop_all n (committed_calls log) (let t = length-take n log.calls in omega (arith, t)) in
    record {
      log = (omega arith, omega (arith, is.0, is.1, left));
      trimmed = is.0;
      committed = omega arith;
      front = subst (λ l. IsListPrefix l (committed_calls (trimmed_log log))) (sym none) (committed_calls (trimmed_log log), refl);
    }

-- a snapshot is restored only if fewer places were committed than it stands for
restored-keeps : {A : Type 0} (log : Log A) (ring : RingId) (base : Base A) → IsLog log → restores log base ≡ true
    → KeepsCommitted log (restored_log log ring base)
restored-keeps log ring base is may =
    let less = ltb-true log.committed base.from (and_parts (is_some base.snapshot) (nat_lt log.committed base.from) may).1 in
    let n = base.from - log.trimmed in
    let none : drop n (committed_calls log) ≡ [] =
    drop_all n (committed_calls log) (let t = length-take (log.committed - log.trimmed) log.calls in omega (arith, t, less)) in
    record {
      log = (omega arith, omega arith);
      trimmed = omega (arith, is.0, less);
      committed = omega (arith, less);
      front = subst (λ l. IsListPrefix l (committed_calls (restored_log log ring base))) (sym none) (committed_calls (restored_log log ring base), refl);
    }

-- otherwise the base begins with the kept committed places, so these don't change
joined-keeps : {A : Type 0} (log : Log A) (ring : RingId) (base : Base A) → IsLog log → begins (committed_calls log) (calls_after_base log base) ≡ true
    → KeepsCommitted log (joined_log log ring base)
joined-keeps log ring base is may =
    let n = log.committed - log.trimmed in
    let long : length (take n log.calls) ≡ n = length-take-le n log.calls (omega (arith, is.0, is.1)) in
    let same : committed_calls log ≡ take n (calls_after_base log base) =
    (begins-Decides (committed_calls log) (calls_after_base log base)).0 may ∙ ap (λ k. take k (calls_after_base log base)) long in
    let short = length-take n (calls_after_base log base) in
    stays log (joined_log log ring base) refl (is.0, omega (arith, ap length same, long, short)) (omega arith)
    (front-same (committed_calls log) (take n (calls_after_base log base)) same)

-- so the log stays within its bounds
pub joined_bounds : {A : Type 0} (log : Log A) (base : Base A) → IsKeptLog log.trimmed log.committed (length log.calls) → base.from ≤ log.committed
    → begins (committed_calls log) (calls_after_base log base) ≡ true → is_log_length (base.from + length base.calls) ≡ true
    → IsKeptLog log.trimmed log.committed (length (calls_after_base log base))
joined_bounds log base is le may short =
    let new = (joined-keeps log (record { seq = 0; rep = 0 }) base (is.0, is.1) may).log in
    let most = leb-true (base.from + length base.calls) max_number short in
    let own = log.calls in
    let parts = length-append (take (base.from - log.trimmed) own) (drop (log.trimmed - base.from) base.calls) in
    let front = length-take (base.from - log.trimmed) own in
    let rest = length-drop (log.trimmed - base.from) base.calls in
    (is.0, new.1, omega (arith, is.0, is.1, is.2, le, most, parts, front, rest))

committed-adoptable : {A : Type 0} (log : Log A) (ring : RingId) (base : Base A) → IsLog log → is_adoptable log base ≡ true
    → KeepsCommitted log (log_after_base log ring base)
committed-adoptable {A} log ring base is may =
    cond_both (restores log base) (restored_log log ring base) (joined_log log ring base) (KeepsCommitted log) (restored-keeps log ring base is)
    (λ f. joined-keeps log ring base is
    (and_parts (nat_le base.from log.committed) (begins (committed_calls log) (calls_after_base log base)) (goes_on f)).1)
  where
    goes_on : restores log base ≡ false → (nat_le base.from log.committed && begins (committed_calls log) (calls_after_base log base)) ≡ true
    goes_on f =
        ap (λ c. c || (nat_le base.from log.committed && begins (committed_calls log) (calls_after_base log base))) (sym f)
        ∙ (and_parts (restores log base || (nat_le base.from log.committed && begins (committed_calls log) (calls_after_base log base)))
        (is_log_length (base.from + length base.calls)) may).0

pub committed-adopted : {A : Type 0} (log : Log A) (ring : RingId) (base : Base A) → IsLog log → KeepsCommitted log (log_after_base_if_may log ring base)
committed-adopted log ring base is =
    cond_both (is_adoptable log base) (log_after_base log ring base) log (KeepsCommitted log) (committed-adoptable log ring base is) (λ f. committed-same log is)
