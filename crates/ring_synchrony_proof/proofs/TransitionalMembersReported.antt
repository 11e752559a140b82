-- The processors that come from an old ring: a member whose report names it is a transitional member.
use Rattle.std.proofs.Common.{◌≡◌, ℕ, zero, suc, ◌+◌, ◌<◌, ◌≤◌, inl, inr, Bool, true, List, [], ◌∷◌, Some, refl, ap, sym, subst, arith}
use Rattle.std.specs.Prelude.{filter, slice_get, slice_index, if◌then◌else◌}
use Rattle.std.specs.List.{AllByRecursion as Each}
use Rattle.std.proofs.lemmas.Bool.{cond_both, cond-true}
use Rattle.ring_base.specs.Numbers.{numbers_from}
use Rattle.ring_base.specs.Processors.{IsMember, only, union, has, at, elements, max_processors}
use Rattle.ring_base.specs.Members.{union_members, only_members, nobody_member, has_member}
use Rattle.ring_base.specs.Rings.{same_ring}
use Rattle.ring_base.specs.declared.ring_id.RingId.{RingId}
use Rattle.ring_base.proofs.Each.{each-filter}
use Rattle.ring_wire.specs.declared.entries.CommitEntry.{CommitEntry}
use Rattle.ring_core_spec.specs.Recoveries.{transitional_members_among}
use Rattle.ring_core_proof.specs.FactWords.{IsIn}
use Rattle.ring_core_proof.proofs.InLists.{in-each, numbers-above}
use Rattle.ring_core_spec.proofs.Recoveries.{union_apart}

-- Ascending numbers

abbrev pub AreUp : List ℕ → Type 0
AreUp [] = Unit {0}
AreUp (m ∷ ms) = (1 ≤ m) × Each (λ j. m < j) ms × AreUp ms

filter_up : (p : ℕ → Bool) (first count : ℕ) → 1 ≤ first → AreUp (filter p (numbers_from first count))
filter_up p first zero low = tt
filter_up p first (suc count) low =
    cond_both (p first) (first ∷ filter p (numbers_from (suc first) count)) (filter p (numbers_from (suc first) count)) AreUp
    (λ e. (
      low,
      each-filter (λ j. first < j) p (numbers_from (suc first) count) (numbers-above (suc first) count),
      filter_up p (suc first) count (omega arith),
    )) (λ e. filter_up p (suc first) count (omega arith))

elements_up : (set : ℕ) → AreUp (elements set)
unfolding elements
elements_up set = filter_up (has set) 1 max_processors (omega arith)

-- A power that isn't in the sum yet is added

-- each transitional member is in the list
transitional_members_in : (old : RingId) (is : List ℕ) (es : List CommitEntry) → AreUp is → (i : ℕ) → IsMember (transitional_members_among old is es) i → IsIn i is
transitional_members_in old [] es up i h = absurd (nobody_member i h)
transitional_members_in old (m ∷ ms) [] up i h = absurd (nobody_member i h)
transitional_members_in old (m ∷ ms) (e ∷ es) up i h =
    let rest = transitional_members_among old ms es in
    let none : IsMember rest m → ⊥ = λ k. (let l : m < m = in-each (λ j. m < j) m ms up.1 (transitional_members_in old ms es up.2 m k) in omega arith) in
    cond_both (same_ring e.old old) (only m) 0 (λ x. IsMember (x + rest) i → IsIn i (m ∷ ms))
    (λ t k. (let sum : only m + rest ≡ union rest (only m) = (let u = union_apart rest m up.0 none in omega (arith, u)) in
    elim ((union_members rest (only m) i).0 (subst (λ s. IsMember s i) sum k))
    [ inl a ↦ inr (transitional_members_in old ms es up.2 i a) | inr b ↦ inl ((only_members m i up.0).0 b) ]))
    (λ t k. inr (transitional_members_in old ms es up.2 i (subst (λ s. IsMember s i) none_more k))) h
  where
    none_more : 0 + transitional_members_among old ms es ≡ transitional_members_among old ms es
    none_more = omega arith

-- a number is in the list where the report names the old ring
pub record IsReportedAt (old : RingId) (is : List ℕ) (es : List CommitEntry) (i : ℕ) : Type 0 where
  pub place : ℕ
  pub member : slice_get is place ≡ Some i
  pub entry : CommitEntry
  pub reported : slice_get es place ≡ Some entry
  pub from : same_ring entry.old old ≡ true

reported_later : (old : RingId) (m : ℕ) (ms : List ℕ) (e : CommitEntry) (es : List CommitEntry) (i : ℕ) → IsReportedAt old ms es i →
    IsReportedAt old (m ∷ ms) (e ∷ es) i
reported_later old m ms e es i h = record { place = suc h.place; member = h.member; entry = h.entry; reported = h.reported; from = h.from }

-- so is each transitional member
mate_reported : (old : RingId) (is : List ℕ) (es : List CommitEntry) → AreUp is → (i : ℕ) → IsMember (transitional_members_among old is es) i → IsReportedAt old is es i
mate_reported old [] es up i h = absurd (nobody_member i h)
mate_reported old (m ∷ ms) [] up i h = absurd (nobody_member i h)
mate_reported old (m ∷ ms) (e ∷ es) up i h =
    let rest = transitional_members_among old ms es in
    let none : IsMember rest m → ⊥ = λ k. (let l : m < m = in-each (λ j. m < j) m ms up.1 (transitional_members_in old ms es up.2 m k) in omega arith) in
    let later : IsMember rest i → IsReportedAt old (m ∷ ms) (e ∷ es) i = λ k. reported_later old m ms e es i (mate_reported old ms es up.2 i k) in
    cond_both (same_ring e.old old) (only m) 0 (λ x. IsMember (x + rest) i → IsReportedAt old (m ∷ ms) (e ∷ es) i)
    (λ t k. (let sum : only m + rest ≡ union rest (only m) = (let u = union_apart rest m up.0 none in omega (arith, u)) in
    elim ((union_members rest (only m) i).0 (subst (λ s. IsMember s i) sum k)) [
      | inl a ↦ later a
      | inr b ↦ record { place = 0; member = ap Some (sym ((only_members m i up.0).0 b)); entry = e; reported = refl; from = t }
    ]))
    (λ t k. later (subst (λ s. IsMember s i) none_more k)) h
  where
    none_more : 0 + transitional_members_among old ms es ≡ transitional_members_among old ms es
    none_more = omega arith

-- a member whose report names the old ring is a transitional member
mate_at : (old : RingId) (is : List ℕ) (es : List CommitEntry) → AreUp is → (k i : ℕ) (e : CommitEntry) → slice_get is k ≡ Some i → slice_get es k ≡ Some e →
    same_ring e.old old ≡ true → IsMember (transitional_members_among old is es) i
mate_at old [] es up k i e a b t = absurd (let n : ⊥ = cc in n)
mate_at old (m ∷ ms) [] up k i e a b t = absurd (let n : ⊥ = cc in n)
mate_at old (m ∷ ms) (x ∷ es) up zero i e a b t =
    let rest = transitional_members_among old ms es in
    let here : m ≡ i = cc in
    let there : x ≡ e = cc in
    let none : IsMember rest m → ⊥ = λ k. (let l : m < m = in-each (λ j. m < j) m ms up.1 (transitional_members_in old ms es up.2 m k) in omega arith) in
    let sum : only m + rest ≡ union rest (only m) = (let u = union_apart rest m up.0 none in omega (arith, u)) in
    let own : IsMember (union rest (only m)) m = (union_members rest (only m) m).1 (inr ((only_members m m up.0).1 refl)) in
    let yes : same_ring x.old old ≡ true = subst (λ (z : CommitEntry). same_ring z.old old ≡ true) (sym there) t in
    subst (λ j. IsMember ((if same_ring x.old old then only m else 0) + rest) j) here
    (subst (λ s. IsMember (s + rest) m) (sym (cond-true (same_ring x.old old) (only m) 0 yes))
    (subst (λ s. IsMember s m) (sym sum) own))
mate_at old (m ∷ ms) (x ∷ es) up (suc k) i e a b t =
    let rest = transitional_members_among old ms es in
    let none : IsMember rest m → ⊥ = λ k. (let l : m < m = in-each (λ j. m < j) m ms up.1 (transitional_members_in old ms es up.2 m k) in omega arith) in
    let sum : only m + rest ≡ union rest (only m) = (let u = union_apart rest m up.0 none in omega (arith, u)) in
    let own : IsMember rest i = mate_at old ms es up.2 k i e a b t in
    cond_both (same_ring x.old old) (only m) 0 (λ s. IsMember (s + rest) i) (λ y. subst (λ s. IsMember s i) (sym sum)
    ((union_members rest (only m) i).1 (inl own)))
    (λ y. (let more : 0 + rest ≡ rest = omega arith in subst (λ s. IsMember s i) (sym more) own))

-- the member at a position
pub placed : (xs : List ℕ) (k i : ℕ) → slice_index xs k ≡ i → 1 ≤ i → slice_get xs k ≡ Some i
placed [] k i e low = absurd (omega (arith, e, low))
placed (x ∷ xs) zero i e low = ap Some e
placed (x ∷ xs) (suc k) i e low = placed xs k i e low

pub got_in : {X : Type 0} (xs : List X) (k : ℕ) (x : X) → slice_get xs k ≡ Some x → IsIn x xs
got_in [] k x e = absurd (let n : ⊥ = cc in n)
got_in (y ∷ xs) zero x e = inl (let same : y ≡ x = cc in sym same)
got_in (y ∷ xs) (suc k) x e = inr (got_in xs k x e)

filter_passes : (p : ℕ → Bool) (i : ℕ) (xs : List ℕ) → IsIn i (filter p xs) → p i ≡ true
filter_passes p i [] h = absurd h
filter_passes p i (x ∷ xs) h =
    cond_both (p x) (x ∷ filter p xs) (filter p xs) (λ ys. IsIn i ys → p i ≡ true)
    (λ e k. elim k [ inl s ↦ subst (λ z. p z ≡ true) (sym s) e | inr t ↦ filter_passes p i xs t ]) (λ e k. filter_passes p i xs k) h

pub has_at : (set k i : ℕ) → at set k ≡ i → 1 ≤ i → has set i ≡ true
unfolding elements
has_at set k i e low = filter_passes (has set) i (numbers_from 1 max_processors) (got_in (elements set) k i (placed (elements set) k i e low))

-- a processor that reports the old ring at its position among the members is a transitional member
pub is_transitional_member : (old : RingId) (members : ℕ) (entries : List CommitEntry) (k i : ℕ) (e : CommitEntry) → at members k ≡ i → 1 ≤ i → slice_get entries k ≡ Some e →
    same_ring e.old old ≡ true → has (transitional_members_among old (elements members) entries) i ≡ true
is_transitional_member old members entries k i e a low b t =
    has_member (transitional_members_among old (elements members) entries) i
    (mate_at old (elements members) entries (elements_up members) k i e (placed (elements members) k i a low) b t)

-- and each transitional member reports it at its position
pub mate_reports : (old : RingId) (members : ℕ) (entries : List CommitEntry) (i : ℕ) → IsMember (transitional_members_among old (elements members) entries) i →
    IsReportedAt old (elements members) entries i
mate_reports old members entries i h = mate_reported old (elements members) entries (elements_up members) i h

got_index : (xs : List ℕ) (k i : ℕ) → slice_get xs k ≡ Some i → slice_index xs k ≡ i
got_index [] k i e = absurd (let n : ⊥ = cc in n)
got_index (x ∷ xs) zero i e = cc
got_index (x ∷ xs) (suc k) i e = got_index xs k i e

-- the item at a place of the members
pub at_place : (members k i : ℕ) → slice_get (elements members) k ≡ Some i → at members k ≡ i
at_place members k i e = got_index (elements members) k i e
