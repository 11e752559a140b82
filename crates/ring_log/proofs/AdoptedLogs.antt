-- A log as a node keeps it, and the node's knowledge of it from its own life: adopting a base has the same result on both, and
-- both refuse the same bases.
use Rattle.std.proofs.Common.{◌≡◌, ℕ, ◌+◌, ◌-◌, ◌≤◌, ◌&&◌, max, Bool, true, false, List, ◌++◌, length, take, drop, Option, Some, None, refl, ap, sym, ◌∙◌, arith}
use Rattle.std.proofs.Common.{length-append, subst}
use Rattle.std.specs.Prelude.{nat_le, nat_lt, is_some, ◌||◌, if◌then◌else◌}
use Rattle.std.proofs.lemmas.Bool.{cond_both, cond-true, cond-false, leb-true, le-leb, ltb-true, and_parts}
use Rattle.std.proofs.lemmas.List.{drop-append-le, drop-take, length-take, length-take-le, length-drop}
use Rattle.ring_base.specs.Numbers.{max_number}
use Rattle.ring_base.specs.declared.ring_id.RingId.{RingId}
use Rattle.ring_wire.specs.Payloads.{Call as OneCall}
use Rattle.ring_log.specs.declared.base.Base.{Base}
use Rattle.ring_log.specs.declared.wanted.Wanted.{Wanted}
use Rattle.ring_log.specs.Exchanges.{snapshot_by}
use Rattle.ring_log.specs.Logs.{Log, restores as log_restores, restored_log, calls_after_base, joined_log, log_after_base, committed_calls, begins, is_log_length, is_adoptable}
use Rattle.ring_log.specs.KnownLog.{KnownLog, IsKnownLog, known_log_length, known_retained, restores, known_log_restored, first_joined, known_log_joined, known_log_adopted, known_log_committed_upto, followed_by, dropped_by}
use Rattle.ring_log.specs.KnownLog.{retained_log, begins_kept}
use Rattle.ring_log.proofs.Calls.{begins-Decides}

-- dropping from a list of which a prefix is kept
drop-first : {X : Type 0} (n m : ℕ) (xs ys : List X) → n ≤ m → m ≤ length xs → drop n (take m xs ++ ys) ≡ take (m - n) (drop n xs) ++ ys
drop-first n m xs ys low high =
    let e : n + (m - n) ≡ m = omega arith in
    drop-append-le n (take m xs) ys (let long = length-take-le m xs high in omega (arith, long))
    ∙ ap (λ j. drop n (take j xs) ++ ys) (sym e) ∙ ap (λ l. l ++ ys) (drop-take n (m - n) xs)

module _ {A : Type 0} (k : KnownLog A) (ring : RingId) (w : Wanted) (bytes : List ℕ) (calls : List (OneCall A)) (is : IsKnownLog k) where
  -- the base, and the log that adopts it
  abbrev pub the_base : Base A
  the_base = record { from = w.from; snapshot = snapshot_by w.snapshot bytes; calls = calls }

  abbrev pub the_log : Log A
  the_log = retained_log k

  abbrev first : ℕ
  first = first_joined k w

  -- the committed places that are kept are the same in both
  undropped-is : known_retained k ≡ committed_calls the_log
  undropped-is =
      let e : (k.trimmed - k.from) + (k.committed - k.trimmed) ≡ k.committed - k.from = omega (arith, is.low, is.high) in
      ap (λ n. drop (k.trimmed - k.from) (take n k.calls)) (sym e) ∙ drop-take (k.trimmed - k.from) (k.committed - k.trimmed) k.calls

  -- the places of a joined base that are kept
  joined-calls : w.from ≤ k.committed
      → drop (k.trimmed - k.from) (take (first - k.from) k.calls ++ drop (first - w.from) calls) ≡ calls_after_base the_log the_base
  joined-calls le =
      let t = k.trimmed - k.from in
      let low : t ≤ first - k.from = omega (arith, is.low) in
      let high : first - k.from ≤ length k.calls = omega (arith, is.within, is.high, le) in
      let a : (first - k.from) - t ≡ w.from - k.trimmed = omega (arith, is.low) in
      let b : first - w.from ≡ k.trimmed - w.from = omega arith in
      drop-first t (first - k.from) k.calls (drop (first - w.from) calls) low high
      ∙ ap (λ n. take n (drop t k.calls) ++ drop (first - w.from) calls) a
      ∙ ap (λ n. take (w.from - k.trimmed) (drop t k.calls) ++ drop n calls) b

  joined-is : w.from ≤ k.committed → retained_log (known_log_joined k ring w calls) ≡ joined_log the_log ring the_base
  joined-is le = ap (λ (cs : List (OneCall A)). record the_log { calls = cs; last = Some ring }) (joined-calls le)

  restored-is : retained_log (known_log_restored ring w bytes calls) ≡ restored_log the_log ring the_base
  restored-is =
      let e : w.from - w.from ≡ 0 = omega arith in
      ap (λ n. record { trimmed = w.from; calls = drop n calls; committed = w.from; last = Some ring }) e

  -- both restore the same bases
  some-is : (o : Option ℕ) → is_some (snapshot_by o bytes) ≡ is_some o
  some-is None = refl
  some-is (Some at) = refl

  restores-is : restores k w ≡ log_restores the_log the_base
  restores-is = ap (λ b. b && nat_lt k.committed w.from) (sym (some-is w.snapshot))

  -- both compare a base with the same committed places
  begins-is : w.from ≤ k.committed → begins_kept k (known_log_joined k ring w calls) ≡ begins (committed_calls the_log) (calls_after_base the_log the_base)
  begins-is le =
      ap (λ l. begins l (drop (k.trimmed - k.from) (take (first - k.from) k.calls ++ drop (first - w.from) calls))) undropped-is
      ∙ ap (begins (committed_calls the_log)) (joined-calls le)

  goes-on-is : nat_le w.from k.committed && begins_kept k (known_log_joined k ring w calls)
      ≡ nat_le w.from k.committed && begins (committed_calls the_log) (calls_after_base the_log the_base)
  goes-on-is = by (nat_le w.from k.committed) refl
    where
      by : (b : Bool) → nat_le w.from k.committed ≡ b
          → b && begins_kept k (known_log_joined k ring w calls) ≡ b && begins (committed_calls the_log) (calls_after_base the_log the_base)
      by true t = begins-is (leb-true w.from k.committed t)
      by false f = refl

  abbrev now : KnownLog A
  now = known_log_adopted k ring w bytes calls

  pub keeps-is : (restores k w || (nat_le w.from k.committed && begins_kept k now))
      ≡ (log_restores the_log the_base || (nat_le w.from k.committed && begins (committed_calls the_log) (calls_after_base the_log the_base)))
  keeps-is = by (restores k w) refl
    where
      by : (b : Bool) → restores k w ≡ b
          → (restores k w || (nat_le w.from k.committed && begins_kept k now))
          ≡ (log_restores the_log the_base || (nat_le w.from k.committed && begins (committed_calls the_log) (calls_after_base the_log the_base)))
      by true t =
          ap (λ b. b || (nat_le w.from k.committed && begins_kept k now)) t
          ∙ sym (ap (λ b. b || (nat_le w.from k.committed && begins (committed_calls the_log) (calls_after_base the_log the_base))) (sym restores-is ∙ t))
      by false f =
          ap (λ b. b || (nat_le w.from k.committed && begins_kept k now)) f
          ∙ ap (λ x. nat_le w.from k.committed && begins_kept k x)
          (cond-false (restores k w) (known_log_restored ring w bytes calls) (known_log_joined k ring w calls) f)
          ∙ goes-on-is
          ∙ sym (ap (λ b. b || (nat_le w.from k.committed && begins (committed_calls the_log) (calls_after_base the_log the_base))) (sym restores-is ∙ f))

  -- the log after the adoption is the same in both
  pub adopted-is : (restores k w || (nat_le w.from k.committed && begins_kept k now)) ≡ true → retained_log now ≡ log_after_base the_log ring the_base
  adopted-is t = by (restores k w) refl
    where
      by : (b : Bool) → restores k w ≡ b → retained_log now ≡ log_after_base the_log ring the_base
      by true r =
          ap retained_log (cond-true (restores k w) (known_log_restored ring w bytes calls) (known_log_joined k ring w calls) r)
          ∙ restored-is
          ∙ sym (cond-true (log_restores the_log the_base) (restored_log the_log ring the_base) (joined_log the_log ring the_base) (sym restores-is ∙ r))
      by false f =
          let goes : (nat_le w.from k.committed && begins_kept k now) ≡ true = ap (λ b. b || (nat_le w.from k.committed && begins_kept k now)) (sym f) ∙ t in
          let le = leb-true w.from k.committed (and_parts (nat_le w.from k.committed) (begins_kept k now) goes).0 in
          ap retained_log (cond-false (restores k w) (known_log_restored ring w bytes calls) (known_log_joined k ring w calls) f)
          ∙ joined-is le
          ∙ sym (cond-false (log_restores the_log the_base) (restored_log the_log ring the_base) (joined_log the_log ring the_base) (sym restores-is ∙ f))

  -- the length of that log
  joined-length : w.from ≤ k.committed → known_log_length (known_log_joined k ring w calls) ≡ max (w.from + length calls) k.trimmed
  joined-length le =
      let high : first - k.from ≤ length k.calls = omega (arith, is.within, is.high, le) in
      omega (
        arith,
        is.low,
        length-append (take (first - k.from) k.calls) (drop (first - w.from) calls),
        length-take-le (first - k.from) k.calls high,
        length-drop (first - w.from) calls,
      )

  same-test : (a b t : ℕ) → t ≤ max_number → a ≡ max b t → nat_le a max_number ≡ nat_le b max_number
  same-test a b t le e = by (nat_le a max_number) (nat_le b max_number) refl refl
    where
      by : (x y : Bool) → nat_le a max_number ≡ x → nat_le b max_number ≡ y → nat_le a max_number ≡ nat_le b max_number
      by true true p q = p ∙ sym q
      by false false p q = p ∙ sym q
      by true false p q = absurd (let l = leb-true a max_number p in let y = sym q ∙ le-leb b max_number (omega (arith, l, e)) in cc y)
      by false true p q = absurd (let l = leb-true b max_number q in let y = sym p ∙ le-leb a max_number (omega (arith, l, e, le)) in cc y)

  pub length-is : k.committed ≤ max_number → (restores k w || (nat_le w.from k.committed && begins_kept k now)) ≡ true
      → is_log_length (known_log_length now) ≡ is_log_length (w.from + length calls)
  length-is short t = by (restores k w) refl
    where
      by : (b : Bool) → restores k w ≡ b → is_log_length (known_log_length now) ≡ is_log_length (w.from + length calls)
      by true r =
          ap (λ (x : KnownLog A). is_log_length (known_log_length x)) (cond-true (restores k w) (known_log_restored ring w bytes calls) (known_log_joined k ring w calls) r)
      by false f =
          let goes : (nat_le w.from k.committed && begins_kept k now) ≡ true = ap (λ b. b || (nat_le w.from k.committed && begins_kept k now)) (sym f) ∙ t in
          let le = leb-true w.from k.committed (and_parts (nat_le w.from k.committed) (begins_kept k now) goes).0 in
          ap (λ (x : KnownLog A). is_log_length (known_log_length x)) (cond-false (restores k w) (known_log_restored ring w bytes calls) (known_log_joined k ring w calls) f)
          ∙ same-test (known_log_length (known_log_joined k ring w calls)) (w.from + length calls) k.trimmed (omega (arith, is.high, short)) (joined-length le)

  -- the test of the code and the test of the life agree
  pub adoptable-is : k.committed ≤ max_number
      → is_adoptable the_log the_base ≡ (restores k w || (nat_le w.from k.committed && begins_kept k now)) && is_log_length (known_log_length now)
  adoptable-is short = by (restores k w || (nat_le w.from k.committed && begins_kept k now)) refl
    where
      by : (b : Bool) → (restores k w || (nat_le w.from k.committed && begins_kept k now)) ≡ b
          → is_adoptable the_log the_base ≡ (restores k w || (nat_le w.from k.committed && begins_kept k now)) && is_log_length (known_log_length now)
      by true t =
          ap (λ b. b && is_log_length (w.from + length calls)) (sym keeps-is)
          ∙ ap (λ b. (restores k w || (nat_le w.from k.committed && begins_kept k now)) && b) (sym (length-is short t))
      by false f =
          ap (λ b. b && is_log_length (w.from + length calls)) (sym keeps-is ∙ f)
          ∙ sym (ap (λ b. b && is_log_length (known_log_length now)) f)

  -- the known log stays well formed
  joined-known : w.from ≤ k.committed → begins_kept k (known_log_joined k ring w calls) ≡ true → IsKnownLog (known_log_joined k ring w calls)
  joined-known le begins_with =
      let high : k.committed - k.from ≤ length k.calls = omega (arith, is.within) in
      let size : length (known_retained k) ≡ (k.committed - k.from) - (k.trimmed - k.from) =
      length-drop (k.trimmed - k.from) (take (k.committed - k.from) k.calls)
      ∙ ap (λ n. n - (k.trimmed - k.from)) (length-take-le (k.committed - k.from) k.calls high) in
      let there = drop (k.trimmed - k.from) (known_log_joined k ring w calls).calls in
      let same : known_retained k ≡ take (length (known_retained k)) there = (begins-Decides (known_retained k) there).0 begins_with in
      let short = length-take (length (known_retained k)) there in
      let left = length-drop (k.trimmed - k.from) (known_log_joined k ring w calls).calls in
      let long = joined-length le in
      record {
        low = is.low;
        high = is.high;
        within = omega (arith, is.low, is.high, size, ap length same, short, left, long);
      }

  pub known-adopted : (restores k w || (nat_le w.from k.committed && begins_kept k now)) ≡ true → IsKnownLog now
  known-adopted t = by (restores k w) refl
    where
      by : (b : Bool) → restores k w ≡ b → IsKnownLog now
      by true r =
          subst IsKnownLog (sym (cond-true (restores k w) (known_log_restored ring w bytes calls) (known_log_joined k ring w calls) r))
          (record { low = omega arith; high = omega arith; within = omega arith })
      by false f =
          let goes : (nat_le w.from k.committed && begins_kept k now) ≡ true = ap (λ b. b || (nat_le w.from k.committed && begins_kept k now)) (sym f) ∙ t in
          let le = leb-true w.from k.committed (and_parts (nat_le w.from k.committed) (begins_kept k now) goes).0 in
          let joined : begins_kept k (known_log_joined k ring w calls) ≡ true =
          ap (begins_kept k) (sym (cond-false (restores k w) (known_log_restored ring w bytes calls) (known_log_joined k ring w calls) f))
          ∙ (and_parts (nat_le w.from k.committed) (begins_kept k now) goes).1 in
          subst IsKnownLog (sym (cond-false (restores k w) (known_log_restored ring w bytes calls) (known_log_joined k ring w calls) f)) (joined-known le joined)

-- calls are appended, more is committed, places are dropped

pub known-followed : {A : Type 0} (k : KnownLog A) (calls : List (OneCall A)) → IsKnownLog k → IsKnownLog (followed_by k calls)
known-followed k calls is = record { low = is.low; high = is.high; within = omega (arith, is.within, length-append k.calls calls) }

pub known-raised : {A : Type 0} (k : KnownLog A) (n : ℕ) → n ≤ known_log_length k → IsKnownLog k → IsKnownLog (known_log_committed_upto n k)
known-raised k n le is = record { low = is.low; high = omega (arith, is.high); within = omega (arith, is.within, le) }

pub known-dropped : {A : Type 0} (k : KnownLog A) (places : ℕ) → places ≤ k.committed → IsKnownLog k → IsKnownLog (dropped_by places k)
known-dropped k places le is = record { low = omega (arith, is.low); high = omega (arith, is.high, le); within = is.within }
