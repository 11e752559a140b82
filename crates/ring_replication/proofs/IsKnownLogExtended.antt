-- The known log and a later one without a restore between: the committed places are the same.
use Rattle.std.proofs.Common.{◌≡◌, ℕ, ◌+◌, ◌-◌, ◌≤◌, true, List, ◌++◌, length, take, drop, refl, ap, sym, ◌∙◌, arith}
use Rattle.std.proofs.lemmas.List.{take-append-drop, take-append-le, take-take, drop-take, length-take-le, length-drop}
use Rattle.ring_base.specs.declared.ring_id.RingId.{RingId}
use Rattle.ring_payload.specs.declared.call.Call.{Call as OneCall}
use Rattle.ring_log.specs.declared.wanted.Wanted.{Wanted}
use Rattle.ring_log.specs.KnownLog.{KnownLog, IsKnownLog, known_retained, first_joined, known_log_joined, begins_kept}
use Rattle.ring_log.proofs.Calls.{begins-Decides}
use Rattle.ring_replication.specs.Replications.{IsKnownLogExtended}

pub known-self : {A : Type 0} (k : KnownLog A) → IsKnownLogExtended k k
known-self k = record { from = refl; trimmed = refl; bytes = refl; committed = omega arith; places = refl }

-- shorter prefixes of equal prefixes are equal
pub take-fewer : {X : Type 0} (n m : ℕ) (xs ys : List X) → n ≤ m → take m xs ≡ take m ys → take n xs ≡ take n ys
take-fewer n m xs ys le e = sym (take-take n m xs le) ∙ ap (take n) e ∙ take-take n m ys le

pub known-trans : {A : Type 0} (a b c : KnownLog A) → IsKnownLogExtended a b → IsKnownLogExtended b c → IsKnownLogExtended a c
known-trans a b c x y = record {
  from = y.from ∙ x.from;
  trimmed = y.trimmed ∙ x.trimmed;
  bytes = y.bytes ∙ x.bytes;
  committed = omega (arith, x.committed, y.committed);
  places = take-fewer (a.committed - a.from) (b.committed - b.from) c.calls b.calls (omega (arith, x.committed, x.from)) y.places ∙ x.places;
}

-- a base that begins with the kept committed places leaves all committed places unchanged
pub joined-places : {A : Type 0} (k : KnownLog A) (ring : RingId) (w : Wanted) (calls : List (OneCall A)) → IsKnownLog k → w.from ≤ k.committed
    → begins_kept k (known_log_joined k ring w calls) ≡ true
    → take (k.committed - k.from) (known_log_joined k ring w calls).calls ≡ take (k.committed - k.from) k.calls
joined-places {A} k ring w calls is le begins_with =
    let J = (known_log_joined k ring w calls).calls in
    let first = first_joined k w - k.from in
    let rest = drop (first_joined k w - w.from) calls in
    let t = k.trimmed - k.from in
    let c = k.committed - k.from in
    let high : c ≤ length k.calls = omega (arith, is.within) in
    let most : first ≤ length k.calls = omega (arith, is.within, is.high, le) in
    let low : t ≤ first = omega (arith, is.low) in
    let few : t ≤ c = omega (arith, is.low, is.high) in
    let more : t + (c - t) ≡ c = omega (arith, few) in
    let own : take t J ≡ take t k.calls =
    take-append-le t (take first k.calls) rest (let l = length-take-le first k.calls most in omega (arith, l, low)) ∙ take-take t first k.calls low in
    let size : length (known_retained k) ≡ c - t =
    length-drop t (take c k.calls) ∙ ap (λ n. n - t) (length-take-le c k.calls high) in
    let kept : drop t (take c k.calls) ≡ take (c - t) (drop t J) =
    (begins-Decides (known_retained k) (drop t J)).0 begins_with ∙ ap (λ n. take n (drop t J)) size in
    let behind : drop t (take c J) ≡ take (c - t) (drop t J) =
    ap (λ n. drop t (take n J)) (sym more) ∙ drop-take t (c - t) J in
    sym (take-append-drop t (take c J)) ∙ ap (λ l. l ++ drop t (take c J)) (take-take t c J few ∙ own ∙ sym (take-take t c k.calls few))
    ∙ ap (λ l. take t (take c k.calls) ++ l) (behind ∙ sym kept) ∙ take-append-drop t (take c k.calls)
